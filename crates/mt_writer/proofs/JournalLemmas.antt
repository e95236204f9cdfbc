-- Files of journals, and what each call of a writer does to them.
use Rattle.std.proofs.Common.{◌≡◌, Option, Some, inl, inr, ℕ, ◌+◌, ◌-◌, ◌^◌, ◌<◌, ◌≤◌, List, [], ◌∷◌, ◌++◌, length, map, min, refl, sym, ap, ◌∙◌, subst, append_assoc, arith}
use Rattle.std.specs.Prelude.{true, false, ◌↔◌, Contains}
use Rattle.std.specs.List.{flat_map}
use Rattle.std.proofs.lemmas.List.{append-nil, length-append}
use Rattle.std.proofs.lemmas.List.Concat.{flat_map-append}
use Rattle.std.proofs.lemmas.List.Elements.{Contains-append_left}
use Rattle.mt_words.specs.declared.limits.Format.{Format}
use Rattle.mt_words.specs.Built.{mark_of}
use Rattle.mt_block.specs.declared.header.Header.{Header}
use Rattle.mt_block.specs.Blocks.{mark_of as mark_in}
use Rattle.mt_record.specs.Opening.{text_head}
use Rattle.mt_words.specs.declared.limits.Limits.{Limits}
use Rattle.mt_words.specs.Limits.{limits_of, widest}
use Rattle.mt_words.specs.Changes.{Logged, IsLawful}
use Rattle.mt_words.proofs.Elements.{no_element, head_or_tail, head_in, tail_in}
use Rattle.mt_record.specs.declared.feed.head.Head.{Head}
use Rattle.mt_record.specs.Heads.{IsHead, head_bytes}
use Rattle.byteorder.specs.Endian.{big_bytes}
use Rattle.mt_record.specs.Spelling.{body, spelling}
use Rattle.mt_record.specs.Logs.{AreRecords, latest, log_bytes, LogReading, IsReading, times_of}
use Rattle.mt_record.specs.declared.read.TheConstants.{MOST_BYTES}
use Rattle.mt_record.specs.declared.front.LogFront.{LogFront}
use Rattle.mt_record.specs.LogFronts.{IsFrontOf}
use Rattle.mt_record.proofs.Lawful.{lawful_length}
use Rattle.mt_record.proofs.Records.{records_push, latest_push}
use Rattle.mt_record.proofs.Opened.{whole_reading}
use Rattle.mt_record.proofs.OneReading.{one_reading_of}
use Rattle.mt_writer.specs.declared.log_writer.TheConstants.{LONGEST_RECORD}
use Rattle.mt_writer.specs.Files.{OpenFile, file_bytes, file_reading, HasSynced, IsOpenFile, IsCutOf, IsWritten, IsSynced}
use Rattle.mt_writer.specs.Journals.{Journal, records_of, handed_out, file_of, read_back, holding, taking, syncing, begun, Writer, Keeps, NewFile, Begins, MayGoOn, IsReached}

-- ---- records

-- the encoding of a lawful record is no longer than the longest
pub spelled_length : (r : Logged) → IsLawful widest r → length (spelling r) ≤ LONGEST_RECORD
spelled_length r lawful =
    let is = lawful_length widest r lawful in
    let all = length-append (body r) (big_bytes 4 (length (body r))) in
    omega (arith, is.1, all)

-- the first of lawful records are lawful
pub first_lawful : (limits : Limits) (low : ℕ) (rs ss : List Logged) → AreRecords limits low (rs ++ ss) → AreRecords limits low rs
first_lawful limits low [] ss are = tt
first_lawful limits low (r ∷ rs) ss are = (are.0, are.1, first_lawful limits r.timestamp rs ss are.2)

-- the last record, if there is one
pub last_in : (low : ℕ) (r : Logged) (rs : List Logged) → (q : Logged) × Contains (r ∷ rs) q × (latest low (r ∷ rs) ≡ q.timestamp)
last_in low r [] = (r, head_in r [], refl)
last_in low r (s ∷ ss) = let is = last_in r.timestamp s ss in (is.0, tail_in r is.0 (s ∷ ss) is.1, is.2)

pub last_of : (rs : List Logged) → 0 < length rs → (q : Logged) × Contains rs q × (latest 0 rs ≡ q.timestamp)
last_of [] some = absurd (omega arith)
last_of (r ∷ rs) some = last_in 0 r rs

-- the bytes of a log with more records
pub more_bytes : (head : Head) (rs ss : List Logged) → log_bytes head (rs ++ ss) ≡ log_bytes head rs ++ flat_map spelling ss
more_bytes head rs ss = ap (λ (x : List ℕ). head_bytes head ++ x) (flat_map-append spelling rs ss) ∙ sym (append_assoc (head_bytes head) (flat_map spelling rs) (flat_map spelling ss))

-- ---- files

-- a record is synced of a file of which the bytes up to some record are
pub has_synced : (P : Logged → Type 0) (head : Head) (records synced : List Logged) (q : Logged) → IsHead head → AreRecords (limits_of head.format) 0 synced
    → Contains synced q → P q → HasSynced P (record { head = head; records = records; synced = log_bytes head synced })
has_synced P head records synced q is_head lawful stands holds = record {
  reading = record { head = head; records = synced; torn = false };
  is_reading = whole_reading head synced is_head lawful;
  at = q;
  stands = stands;
  holds = holds;
}

-- a beginning of the records is a cut of the file
pub cut_of : (head : Head) (rs ss : List Logged) → IsHead head → IsCutOf (log_bytes head rs) (log_bytes head (rs ++ ss))
cut_of head rs ss is_head = record {
  lost = flat_map spelling ss;
  begins = more_bytes head rs ss;
  header = record { head = head; is_head = is_head; more = flat_map spelling rs; spelled = refl };
}

-- the records of a journal are lawful in its format
pub lawful_in : (w : Writer) (j : Journal) → Keeps w j → AreRecords (limits_of j.head.format) 0 (records_of j)
lawful_in w j keeps = subst (λ (f : Format). AreRecords (limits_of f) 0 (records_of j)) (sym keeps.format) keeps.lawful

-- so are those that were taken, with those that are synced
pub lawful_out : (w : Writer) (j : Journal) → Keeps w j → AreRecords (limits_of j.head.format) 0 (handed_out j)
lawful_out w j keeps = first_lawful (limits_of j.head.format) 0 (handed_out j) j.held (lawful_in w j keeps)

-- and those that are synced
pub lawful_synced : (w : Writer) (j : Journal) → Keeps w j → AreRecords (limits_of j.head.format) 0 j.synced
lawful_synced w j keeps = first_lawful (limits_of j.head.format) 0 j.synced j.taken (lawful_out w j keeps)

-- a record at or past each of these timestamps is synced
pub reaches : (P : Logged → Type 0) (w : Writer) (j : Journal) → Keeps w j → ((r : Logged) → w.reach ≡ r.timestamp → P r) → HasSynced P (file_of j)
reaches P w j keeps follows =
    let last = last_of j.synced keeps.some in
    has_synced P j.head (records_of j) j.synced last.0 keeps.is_head (lawful_synced w j keeps) last.1 (follows last.0 (keeps.reach ∙ last.2))

-- the file of a journal is open
pub opens : (w : Writer) (j : Journal) → Keeps w j → IsOpenFile (file_of j)
opens w j keeps = record {
  is_reading = whole_reading j.head (records_of j) keeps.is_head (lawful_in w j keeps);
  synced = subst (λ (rs : List Logged). IsCutOf (log_bytes j.head j.synced) (log_bytes j.head rs)) (sym (append_assoc j.synced j.taken j.held))
      (cut_of j.head j.synced (j.taken ++ j.held) keeps.is_head);
  claim = reaches (λ r. j.head.from ≤ r.timestamp) w j keeps (λ r e. omega (arith, e, keeps.claim));
}

-- how far the writer reaches, its file is
pub reached : (w : Writer) (j : Journal) → Keeps w j → IsReached w.reach (file_of j)
reached w j keeps time below = reaches (λ r. time < r.timestamp) w j keeps (λ r e. omega (arith, e, below))

-- ---- steps

-- one more record
pub held_more : (old new : Writer) (j : Journal) (r : Logged) (mark : Option ℕ) (bytes : List ℕ) (size : ℕ) → Keeps old j → IsLawful widest r → old.last ≤ r.timestamp
    → bytes ≡ old.buffer ++ spelling r → size ≡ old.size + length (spelling r) → new ≡ record old { mark = mark; buffer = bytes; last = r.timestamp; size = size } → Keeps new (holding j r)
held_more old new j r mark bytes size keeps lawful rises spelled counted is =
    let more : records_of (holding j r) ≡ records_of j ++ r ∷ [] = sym (append_assoc (handed_out j) j.held (r ∷ [])) in
    let long = ap (λ (rs : List Logged). length (log_bytes j.head rs)) more ∙ ap length (more_bytes j.head (records_of j) (r ∷ [])) ∙ length-append (log_bytes j.head (records_of j)) (flat_map spelling (r ∷ [])) in
    let one : flat_map spelling (r ∷ []) ≡ spelling r = append-nil (spelling r) in
    subst (λ (w : Writer). Keeps w (holding j r)) (sym is) (record {
      format = keeps.format;
      is_head = keeps.is_head;
      lawful = subst (AreRecords widest 0) (sym more) (records_push widest 0 (records_of j) r keeps.lawful lawful (omega (arith, keeps.last, rises)));
      buffer = spelled ∙ ap (λ (x : List ℕ). x ++ spelling r) keeps.buffer ∙ ap (λ (x : List ℕ). flat_map spelling j.held ++ x) (sym one) ∙ sym (flat_map-append spelling j.held (r ∷ []));
      last = sym (latest_push 0 (records_of j) r) ∙ ap (latest 0) (sym more);
      taken = keeps.taken;
      reach = keeps.reach;
      some = keeps.some;
      claim = keeps.claim;
      size = omega (arith, counted, keeps.size, long, ap length one);
      taken_size = keeps.taken_size;
      synced_size = keeps.synced_size;
      segment = keeps.segment;
    })

-- the same journal is kept after a failure
pub failed_keeps : (old new : Writer) (j : Journal) → Keeps old j → new ≡ record old { failed = true } → Keeps new j
failed_keeps old new j keeps is = subst (λ (w : Writer). Keeps w j) (sym is) (record {
  format = keeps.format;
  is_head = keeps.is_head;
  lawful = keeps.lawful;
  buffer = keeps.buffer;
  last = keeps.last;
  taken = keeps.taken;
  reach = keeps.reach;
  some = keeps.some;
  claim = keeps.claim;
  size = keeps.size;
  taken_size = keeps.taken_size;
  synced_size = keeps.synced_size;
  segment = keeps.segment;
})

-- all held records are taken
pub taken_all : (old new : Writer) (j : Journal) → Keeps old j → new.buffer ≡ [] → new.last ≡ old.last → new.taken ≡ old.last → new.reach ≡ old.reach
    → new.size ≡ old.size → new.taken_size ≡ old.size → new.synced_size ≡ old.synced_size → new.segment ≡ old.segment → Keeps new (taking j)
taken_all old new j keeps buffer last taken reach size taken_size synced_size segment =
    let out : handed_out (taking j) ≡ records_of j = sym (append_assoc j.synced j.taken j.held) in
    let all : records_of (taking j) ≡ records_of j = append-nil (handed_out (taking j)) ∙ out in record {
      format = keeps.format;
      is_head = keeps.is_head;
      lawful = subst (AreRecords widest 0) (sym all) keeps.lawful;
      buffer = buffer;
      last = last ∙ keeps.last ∙ ap (latest 0) (sym all);
      taken = taken ∙ keeps.last ∙ ap (latest 0) (sym out);
      reach = reach ∙ keeps.reach;
      some = keeps.some;
      claim = omega (arith, keeps.claim, reach);
      size = size ∙ keeps.size ∙ ap (λ (rs : List Logged). length (log_bytes j.head rs)) (sym all);
      taken_size = taken_size ∙ keeps.size ∙ ap (λ (rs : List Logged). length (log_bytes j.head rs)) (sym out);
      synced_size = synced_size ∙ keeps.synced_size;
      segment = segment ∙ keeps.segment;
    }

-- what was taken, and then the buffer, is the file
pub taken_bytes : (w : Writer) (j : Journal) → Keeps w j → log_bytes j.head (handed_out j) ++ w.buffer ≡ file_bytes (file_of j)
taken_bytes w j keeps = ap (λ (x : List ℕ). log_bytes j.head (handed_out j) ++ x) keeps.buffer ∙ sym (more_bytes j.head (handed_out j) j.held)

-- no timestamp of lawful records is above that of the last
rises : (limits : Limits) (low : ℕ) (rs ss : List Logged) → AreRecords limits low (rs ++ ss) → (low ≤ latest low rs) × (latest low rs ≤ latest low (rs ++ ss))
rises limits low [] [] are = (omega arith, omega arith)
rises limits low [] (s ∷ ss) are = let is = rises limits s.timestamp [] ss are.2 in (omega arith, omega (arith, are.1, is.1))
rises limits low (r ∷ rs) ss are = let is = rises limits r.timestamp rs ss are.2 in (omega (arith, are.1, is.0), is.1)

-- all taken records are synced
pub synced_all : (old new : Writer) (j : Journal) → Keeps old j → new ≡ record old { reach = old.taken; synced_size = old.taken_size } → Keeps new (syncing j)
synced_all old new j keeps is =
    let out : handed_out (syncing j) ≡ handed_out j = append-nil (handed_out j) in
    let all : records_of (syncing j) ≡ records_of j = ap (λ (rs : List Logged). rs ++ j.held) out in
    let more = rises widest 0 j.synced j.taken (first_lawful widest 0 (handed_out j) j.held keeps.lawful) in
    subst (λ (w : Writer). Keeps w (syncing j)) (sym is) (record {
      format = keeps.format;
      is_head = keeps.is_head;
      lawful = subst (AreRecords widest 0) (sym all) keeps.lawful;
      buffer = keeps.buffer;
      last = keeps.last ∙ ap (latest 0) (sym all);
      taken = keeps.taken ∙ ap (latest 0) (sym out);
      reach = keeps.taken;
      some = omega (arith, keeps.some, length-append j.synced j.taken);
      claim = omega (arith, keeps.claim, keeps.reach, keeps.taken, more.1);
      size = keeps.size ∙ ap (λ (rs : List Logged). length (log_bytes j.head rs)) (sym all);
      taken_size = keeps.taken_size ∙ ap (λ (rs : List Logged). length (log_bytes j.head rs)) (sym out);
      synced_size = keeps.taken_size;
      segment = keeps.segment;
    })

-- the text of a new file has 37 bytes
new_size : (header : Header) (time : ℕ) → length (log_bytes (text_head header) (mark_of time ∷ [])) ≡ 37
new_size header time =
    length-append (head_bytes (text_head header)) (flat_map spelling (mark_of time ∷ []))

-- a new file
pub begun_keeps : (new : NewFile) (w : Writer) (head : Head) → Begins new head
    → w ≡ record { mark = Some (mark_in new.header); buffer = []; last = new.mark; taken = new.mark; reach = new.mark; size = 37; taken_size = 37; synced_size = 37; frames = 40; segment = (text_head new.header).segment; failed = false }
    → Keeps w (begun head new.mark)
begun_keeps new w head begins is =
    let header = new.header in
    subst (λ (h : Head). Keeps w (begun h new.mark)) (sym begins.text) (subst (λ (x : Writer). Keeps x (begun (text_head header) new.mark)) (sym is) (record {
      format = refl;
      is_head = record { from = begins.is_header.from; segment = (refl, begins.is_header.worker, begins.is_header.segment) };
      lawful = ((begins.fits, tt), omega arith, tt);
      buffer = refl;
      last = refl;
      taken = refl;
      reach = refl;
      some = omega arith;
      claim = begins.claim;
      size = sym (new_size header new.mark);
      taken_size = sym (new_size header new.mark);
      synced_size = sym (new_size header new.mark);
      segment = refl;
    }))

-- ---- steps of a file

pub written : (j : Journal) (r : Logged) → IsWritten (file_of j) (file_of (holding j r))
written j r = record { new = r ∷ []; head = refl; records = sym (append_assoc (handed_out j) j.held (r ∷ [])); synced = refl }

pub written_out : (j : Journal) → IsWritten (file_of j) (file_of (taking j))
written_out j = record { new = []; head = refl; records = ap (λ (rs : List Logged). rs ++ []) (sym (append_assoc j.synced j.taken j.held)); synced = refl }

pub synced_more : (w : Writer) (j : Journal) → Keeps w j → IsSynced (file_of j) (file_of (syncing j))
synced_more w j keeps = record {
  head = refl;
  records = ap (λ (rs : List Logged). rs ++ j.held) (append-nil (handed_out j));
  more = cut_of j.head j.synced j.taken keeps.is_head;
}

-- ---- what stays

pub reached_when_written : (reach : ℕ) (before after : OpenFile) → IsWritten before after → IsReached reach before → IsReached reach after
reached_when_written reach before after step is time below =
    let has = is time below in record {
      reading = has.reading;
      is_reading = subst (λ (bytes : List ℕ). IsReading bytes has.reading) (sym step.synced) has.is_reading;
      at = has.at;
      stands = has.stands;
      holds = has.holds;
    }

-- a record that is synced still is when more is
pub synced_still : (P : Logged → Type 0) (w : Writer) (j : Journal) → Keeps w j → HasSynced P (file_of j) → HasSynced P (file_of (syncing j))
synced_still P w j keeps has =
    let same = one_reading_of (log_bytes j.head j.synced) has.reading (record { head = j.head; records = j.synced; torn = false }) has.is_reading
    (whole_reading j.head j.synced keeps.is_head (lawful_synced w j keeps)) in
    let stands : Contains j.synced has.at = subst (λ (log : LogReading). Contains log.records has.at) same has.stands in
    has_synced P j.head (records_of (syncing j)) (handed_out j) has.at keeps.is_head (lawful_out w j keeps)
    (Contains-append_left j.synced j.taken has.at stands) has.holds

pub reached_when_synced : (reach : ℕ) (w : Writer) (j : Journal) → Keeps w j → IsReached reach (file_of j) → IsReached reach (file_of (syncing j))
reached_when_synced reach w j keeps is time below = synced_still (λ r. time < r.timestamp) w j keeps (is time below)

-- ---- a segment that takes no more records

-- records whose encodings have no bytes are none
no_records : (rs : List Logged) → length (flat_map spelling rs) ≡ 0 → rs ≡ []
no_records [] none = refl
no_records (r ∷ rs) none =
    let all = length-append (spelling r) (flat_map spelling rs) in
    absurd (omega (arith, none, all))

-- as many bytes are synced as were taken exactly if nothing is taken that is not synced
pub none_taken : (w : Writer) (j : Journal) → Keeps w j → (w.taken_size ≡ w.synced_size) ↔ (j.taken ≡ [])
none_taken w j keeps =
    let out = ap length (more_bytes j.head j.synced j.taken) ∙ length-append (log_bytes j.head j.synced) (flat_map spelling j.taken) in (
      λ same. no_records j.taken (omega (arith, same, keeps.taken_size, keeps.synced_size, out)),
      λ none. omega (arith, keeps.taken_size, keeps.synced_size, out, ap (λ (rs : List Logged). length (flat_map spelling rs)) none),
    )

-- no time of lawful records is above the last
times_most : (limits : Limits) (low : ℕ) (rs : List Logged) (time : ℕ) → AreRecords limits low rs → Contains (map (λ (r : Logged). r.timestamp) rs) time → time ≤ latest low rs
times_most limits low [] time are at = absurd (no_element time at)
times_most limits low (r ∷ rs) time are at = elim (head_or_tail r.timestamp time (map (λ (q : Logged). q.timestamp) rs) at) as (λ _. time ≤ latest low (r ∷ rs)) [
  | inl e ↦ let is = rises limits r.timestamp [] rs are.2 in omega (arith, e, is.1)
  | inr later ↦ times_most limits r.timestamp rs time are.2 later
]

-- a journal of which as many bytes are synced as it has is synced whole
pub all_records : (w : Writer) (j : Journal) → Keeps w j → w.synced_size ≡ w.size → records_of j ≡ j.synced
all_records w j keeps same =
    let more = more_bytes j.head j.synced (j.taken ++ j.held) in
    let all : records_of j ≡ j.synced ++ (j.taken ++ j.held) = append_assoc j.synced j.taken j.held in
    let none : length (flat_map spelling (j.taken ++ j.held)) ≡ 0 =
    omega (arith, same, keeps.size, keeps.synced_size, ap (λ (rs : List Logged). length (log_bytes j.head rs)) all, ap length more, length-append (log_bytes j.head j.synced) (flat_map spelling (j.taken ++ j.held))) in
    all ∙ ap (λ (rs : List Logged). j.synced ++ rs) (no_records (j.taken ++ j.held) none) ∙ append-nil j.synced

-- no time of the file is above the last
pub times_below : (w : Writer) (j : Journal) → Keeps w j → (time : ℕ) → Contains (times_of (file_reading (file_of j))) time → time ≤ w.last
times_below w j keeps time at =
    let taken = rises widest 0 j.synced j.taken (first_lawful widest 0 (handed_out j) j.held keeps.lawful) in
    let held = rises widest 0 (handed_out j) j.held keeps.lawful in
    elim (head_or_tail j.head.from time (map (λ (r : Logged). r.timestamp) (records_of j)) at) as (λ _. time ≤ w.last) [
      | inl e ↦ omega (arith, e, keeps.claim, keeps.reach, keeps.last, taken.1, held.1)
      | inr later ↦ let below = times_most widest 0 (records_of j) time keeps.lawful later in omega (arith, below, keeps.last)
    ]

-- ---- a log that was read back

-- a count below 2^64 - 1 of at most that many is exact
exact : (n count : ℕ) → count ≡ min n (2 ^ 64 - 1) → count ≤ MOST_BYTES → count ≡ n
exact n count is small = omega (arith, is)

-- some are counted only if there are some
some_counted : (n count : ℕ) → count ≡ min n (2 ^ 64 - 1) → 0 < count → 0 < n
some_counted n count is some = omega (arith, is)

pub resumed_keeps : (front : LogFront) (bytes : List ℕ) (records : List Logged) (w : Writer) (mark : Option ℕ) (size : ℕ) → IsFrontOf bytes records front → MayGoOn front size
    → w ≡ record { mark = mark; buffer = []; last = front.latest; taken = front.latest; reach = front.latest; size = front.bytes; taken_size = front.bytes; synced_size = front.bytes; frames = size - front.bytes; segment = front.head.segment; failed = false }
    → Keeps w (read_back front.head records)
resumed_keeps front bytes records w mark size is may same =
    let all : records_of (read_back front.head records) ≡ records = append-nil (records ++ []) ∙ append-nil records in
    let out : handed_out (read_back front.head records) ≡ records = append-nil records in
    let last : front.latest ≡ latest 0 records = ap (λ (f : LogFront). f.latest) is.numbers in
    let text : front.bytes ≡ length (log_bytes front.head records) =
    exact (length (log_bytes front.head records)) front.bytes (ap (λ (f : LogFront). f.bytes) is.numbers) (omega (arith, may.text, may.fits)) in
    let long = λ (rs : List Logged). length (log_bytes front.head rs) in
    let lawful = subst (λ (f : Format). AreRecords (limits_of f) 0 records) may.format is.lawful in
    subst (λ (x : Writer). Keeps x (read_back front.head records)) (sym same) (record {
      format = may.format;
      is_head = is.is_head;
      lawful = subst (AreRecords widest 0) (sym all) lawful;
      buffer = refl;
      last = last ∙ ap (latest 0) (sym all);
      taken = last ∙ ap (latest 0) (sym out);
      reach = last;
      some = some_counted (length records) front.count (ap (λ (f : LogFront). f.count) is.numbers) may.some;
      claim = may.claim;
      size = text ∙ ap long (sym all);
      taken_size = text ∙ ap long (sym out);
      synced_size = text;
      segment = refl;
    })
