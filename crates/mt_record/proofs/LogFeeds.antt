-- The items of a log, one after the other, and what its feed was fed.
use Rattle.std.proofs.lemmas.Option.{same_Some}
use Rattle.std.proofs.Common.{◌≡◌, ◌≢◌, ℕ, ◌+◌, ◌-◌, ◌^◌, ◌<◌, ◌≤◌, min, max, Option, Some, None, List, [], ◌∷◌, ◌++◌, length, take, drop, refl, sym, ap, ◌∙◌, subst, append_assoc, arith}
use Rattle.std.proofs.lemmas.List.{length-append, append-nil, flat_map_more, take-append-drop, take-take, drop-take}
use Rattle.std.proofs.Math.Seq.{take-append_seam}
use Rattle.std.specs.Prelude.{Bool, true, false, IfSome}
use Rattle.std.specs.List.{flat_map}
use Rattle.mt_words.specs.declared.fault.What.{What}
use Rattle.mt_words.specs.declared.limits.Format.{Format}
use Rattle.mt_words.specs.declared.record.Change.{Change}
use Rattle.mt_words.specs.Limits.{limits_of, widest, widest_format}
use Rattle.mt_words.specs.Changes.{Logged, IsLoggedChange}
use Rattle.mt_words.proofs.Formats.{change_within}
use Rattle.mt_record.specs.declared.read.FeedFault.{FeedFault}
use Rattle.mt_record.specs.declared.read.FeedFault.TheVariants as faults
use Rattle.mt_record.specs.declared.feed.log_items.LogItems.{LogItems}
use Rattle.mt_record.specs.declared.feed.head.Head.{Head}
use Rattle.mt_record.specs.Spelling.{spelling}
use Rattle.mt_record.specs.Fronts.{ShowsNone, IsUnfinishedFront}
use Rattle.mt_record.specs.Heads.{IsHead, head_bytes, HasNoHeader}
use Rattle.mt_record.specs.Encoding.{head_of}
use Rattle.mt_record.specs.Logs.{latest, IsLog, LogReading, IsReading, count_of, log_bytes}
use Rattle.mt_record.specs.LogTexts.{version_of, versions_of, greatest, IsLast, front_of, tail_rest, front_in, IsTextIn}
use Rattle.mt_record.specs.declared.front.LogFront.{LogFront}
use Rattle.mt_record.specs.LogFaults.{RestFault, IsRecordFault, IsTextFault}
use Rattle.mt_record.specs.declared.front.Rest.{Rest}
use Rattle.mt_record.specs.declared.front.Rest.TheVariants.{Nothing, Torn, Faulty}
use Rattle.mt_record.specs.LogFronts.{IsTextRest, IsTextFrontOf, IsFrontOf}
use Rattle.mt_record.specs.Steps.Bodies.{IsNextBody, IsBodyOf}
use Rattle.mt_record.specs.Feeding.{HasRead, Reads, HoldsAll, HasShown}
pub use Rattle.mt_record.specs.Steps.Joining.{begins_at}
use Rattle.mt_record.specs.LogFeeding.{LogSoFar, log_so_far, IsReadTo, HoldsLog, IsLogLeft, IsLogFaulty}
use Rattle.mt_record.proofs.Records.{records_push, latest_push, greatest_push, last_is}
use Rattle.mt_record.specs.Decoding.{decode}
use Rattle.mt_record.proofs.Decodes.{body_says}
use Rattle.mt_record.proofs.OneReading.{text_not_both, rest_fault_on}
use Rattle.mt_record.proofs.Opened.{reading_of_front}
use Rattle.mt_record.proofs.Beginnings.{cut_none, same_long, head_long, head_short}
use Rattle.mt_record.proofs.Feeds.{behind_on, shows_none_on, front_read}

-- ---- what was read

-- before the header is read, the rest is the whole input
unread : (taken : List Logged) (s : LogSoFar) (text rest : List ℕ) → s.front ≡ None → HasRead (HoldsLog taken s) text rest → rest ≡ text
unread taken s text rest none reads =
    let read : (reads.front ≡ []) × (taken ++ s.ready ≡ []) = rw none at reads.read in
    sym (reads.joins ∙ ap (λ (x : List ℕ). x ++ rest) read.0)

-- if a header was read, the input is the header, the encodings of lawful records, and the rest
pub begun : (taken : List Logged) (s : LogSoFar) (front : LogFront) (text rest : List ℕ) → s.front ≡ Some front → (reads : HasRead (HoldsLog taken s) text rest)
    → (text ≡ head_bytes front.head ++ (flat_map spelling (taken ++ s.ready) ++ rest)) × IsReadTo front (taken ++ s.ready) reads.front
begun taken s front text rest some reads =
    let read : IsReadTo front (taken ++ s.ready) reads.front = rw some at reads.read in
    (reads.joins ∙ behind_on (head_bytes front.head) reads.front (flat_map spelling (taken ++ s.ready)) rest read.spelled, read)

-- ---- items

-- the header is read if nothing was read before
pub header_read : {R : Type 0} (listed : R → List Logged) (old : LogItems R) (head : Head) (bytes after : List ℕ) → old.front ≡ None → IsHead head → bytes ≡ head_bytes head ++ after
    → Reads (λ taken items. HoldsLog taken (log_so_far listed items)) old (record old { front = Some (begins_at head (length bytes - length after)) }) bytes after × (length after < length bytes)
header_read listed old head bytes after none is e =
    let sizes = length-append (head_bytes head) after in
    let total : length bytes ≡ length (head_bytes head ++ after) = ap length e in
    let size : length bytes - length after ≡ count_of (log_bytes head []) = omega (arith, sizes, total, head_short head, length-append (head_bytes head) []) in
    front_read (λ taken items. HoldsLog taken (log_so_far listed items)) old (record old { front = Some (begins_at head (length bytes - length after)) }) (head_bytes head) bytes after e (head_long head) (λ taken front h.
    let read : (front ≡ []) × (taken ++ listed old.ready ≡ []) = rw none at h in
    rw (read.0, read.1) (record { spelled = sym (append-nil (head_bytes head)); is_head = is; lawful = tt; numbers = λ i. begins_at head (size i) }))

-- if a format allows a change, so does the widest format
pub logged_within : (format : Format) (o : Option Change) → IfSome o (IsLoggedChange (limits_of format)) → IfSome o (IsLoggedChange widest)
logged_within format None logged = tt
logged_within format (Some change) logged = (change_within format change logged.0, logged.1)

-- one more record is read
pub record_read : {R : Type 0} (listed : R → List Logged) (old : LogItems R) (ready : R) (front : LogFront) (bytes body after : List ℕ) (count time version size : ℕ) → old.front ≡ Some front
    → IsNextBody (limits_of front.head.format) front.latest bytes time body after
    → ((r : Logged) → IsBodyOf widest 0 body r → listed ready ≡ listed old.ready ++ r ∷ []) → count ≡ min (front.count + 1) (2 ^ 64 - 1) → version ≡ max front.version (version_of (decode body).change)
    → size ≡ min (front.bytes + (length bytes - length after)) (2 ^ 64 - 1)
    → Reads (λ taken items. HoldsLog taken (log_so_far listed items)) old (record old { front = Some (record front { count = count; latest = time; version = version; bytes = size }); ready = ready }) bytes after × (length after < length bytes)
record_read listed old ready front bytes body after count time version size some found put counted newer sized =
    let r = found.next in
    let limits = limits_of front.head.format in
    let lawful = found.is_next.lawful in
    let added = put r (record { lawful = (lawful.0, logged_within front.head.format r.change lawful.1); rises = omega arith; spelled = found.same_body }) in
    let said = (body_says body r (lawful.0, logged_within front.head.format r.change lawful.1) found.same_body).0 in
    let greater : version ≡ max front.version (version_of r.change) = newer ∙ ap (λ (x : Logged). max front.version (version_of x.change)) said in
    let sizes = length-append (spelling r) after in
    let total : length bytes ≡ length (spelling r ++ after) = ap length found.is_next.spelled in
    front_read (λ taken items. HoldsLog taken (log_so_far listed items)) old (record old { front = Some (record front { count = count; latest = time; version = version; bytes = size }); ready = ready }) (spelling r) bytes after found.is_next.spelled (omega arith)
    (λ taken before h.
    let rs = taken ++ listed old.ready in
    let list : taken ++ listed ready ≡ rs ++ r ∷ [] = ap (λ (x : List Logged). taken ++ x) added ∙ sym (append_assoc taken (listed old.ready) (r ∷ [])) in
    let read : IsReadTo front rs before = rw some at h in
    let low : front.latest ≡ latest 0 rs = ap (λ (f : LogFront). f.latest) read.numbers in
    let spelled : before ++ spelling r ≡ log_bytes front.head (rs ++ r ∷ []) = ap (λ (x : List ℕ). x ++ spelling r) read.spelled ∙ flat_map_more spelling (head_bytes front.head) rs r in
    let count_is : count ≡ count_of (rs ++ r ∷ []) = omega (arith, length-append rs (r ∷ []), ap (λ (f : LogFront). f.count) read.numbers, counted) in
    let version_is : version ≡ greatest (versions_of (rs ++ r ∷ [])) = omega (arith, greater, ap (λ (f : LogFront). f.version) read.numbers, greatest_push rs r) in
    let size_is : size ≡ count_of (log_bytes front.head (rs ++ r ∷ [])) =
    omega (arith, sizes, total, length-append before (spelling r), ap length read.spelled, ap length spelled, ap (λ (f : LogFront). f.bytes) read.numbers, sized) in
    rw list (record {
      spelled = spelled;
      is_head = read.is_head;
      lawful = records_push limits 0 rs r read.lawful lawful (rw (← low) found.is_next.rises);
      numbers = λ i. record {
        head = front.head;
        count = count_is i;
        latest = (found.same_time ∙ sym (latest_push 0 rs r)) i;
        version = version_is i;
        bytes = size_is i;
        rest = (read.numbers i).rest;
      };
    }))

-- ---- the beginning

-- a new feed has read nothing, and holds nothing
pub nothing_read : {R : Type 0} (listed : R → List Logged) (records : R) → listed records ≡ []
    → HoldsAll (λ items. HoldsLog [] (log_so_far listed items)) (λ items. IsLogLeft (log_so_far listed items)) (record { front = None; ready = records }) [] []
nothing_read listed records none = (
  record { front = []; joins = refl; read = (refl, none) },
  record { head = head_of widest_format 0; more = head_bytes (head_of widest_format 0); is_head = record { from = omega arith; segment = tt }; some = omega arith; begun = refl },
)

-- ---- the end

-- if no header was read, the input has none
pub no_head_read : (taken : List Logged) (s : LogSoFar) (text left : List ℕ) → s.front ≡ None → HoldsAll (HoldsLog taken) IsLogLeft s left text → HasNoHeader text
no_head_read taken s text left none (reads, rest) = subst HasNoHeader (unread taken s text left none reads) (cut_none IsHead head_bytes same_long left (rw none at rest))

-- if a header was read, the input is the header, the records, and the rest
pub front_is : (taken : List Logged) (s : LogSoFar) (front : LogFront) (text left : List ℕ) (rest : Rest) → s.front ≡ Some front → HasRead (HoldsLog taken s) text left
    → IsTextRest (limits_of front.head.format) front.latest left rest → IsTextFrontOf text (taken ++ s.ready) (record front { rest = rest })
front_is taken s front text left rest some reads is =
    let is_begun = begun taken s front text left some reads in
    let read = is_begun.1 in
    let low : front.latest ≡ latest 0 (taken ++ s.ready) = ap (λ (f : LogFront). f.latest) read.numbers in
    record {
      rest = left;
      spelled = is_begun.0 ∙ sym (append_assoc (head_bytes front.head) (flat_map spelling (taken ++ s.ready)) left);
      is_head = read.is_head;
      lawful = read.lawful;
      is_rest = subst (λ (n : ℕ). IsTextRest (limits_of front.head.format) n left rest) low is;
      numbers = λ i. record (read.numbers i) { rest = rest };
    }

-- a file with this front is a log if no fault follows the records
pub text_read : {R : Type 0} (listed : R → List Logged) (ready : R) (taken : List Logged) (bytes : List ℕ) (front : LogFront) → IsFrontOf bytes (taken ++ listed ready) front
    → ((what : What) → front.rest ≢ Faulty what) → IsTextIn listed taken bytes (record { front = front; records = ready })
text_read listed ready taken bytes front is sound = by front.rest refl
  where
    text : (torn : Bool) → front.rest ≡ tail_rest torn → IsTextIn listed taken bytes (record { front = front; records = ready })
    text torn rest = record {
      log = record { head = front.head; records = taken ++ listed ready; torn = torn };
      is_reading = reading_of_front bytes (taken ++ listed ready) front torn is rest;
      shows = record { front = is.numbers ∙ ap (front_of front.head (taken ++ listed ready)) rest; records = refl };
    }

    by : (rest : Rest) → front.rest ≡ rest → IsTextIn listed taken bytes (record { front = front; records = ready })
    by Nothing same = text false same
    by Torn same = text true same
    by (Faulty what) same = absurd (sound what same)

-- the last timestamp of a log, by its front
pub front_last : (bytes : List ℕ) (log : LogReading) (front : LogFront) (n : ℕ) → n ≡ max front.head.from front.latest → IsReading bytes log → front ≡ front_in log → IsLast log n
front_last bytes log front n e is same =
    let time : n ≡ max log.head.from (latest 0 log.records) = e ∙ ap (λ (f : LogFront). max f.head.from f.latest) same in
    subst (λ (m : ℕ). IsLast log m) (sym time) (last_is (limits_of log.head.format) log is.is_log.lawful)

-- the header and the records of the front are the first bytes
pub front_bytes : (bytes : List ℕ) (records : List Logged) (front : LogFront) → length bytes < 2 ^ 64 → IsTextFrontOf bytes records front
    → (front.bytes ≤ length bytes) × (take front.bytes bytes ≡ log_bytes front.head records)
front_bytes bytes records front fits is =
    let log = log_bytes front.head records in
    let sizes = length-append log is.rest in
    let same : front.bytes ≡ length log = omega (arith, fits, ap (λ (f : LogFront). f.bytes) is.numbers, sizes, ap length is.spelled) in (
      omega (arith, same, sizes, ap length is.spelled),
      (λ i. take (same i) (is.spelled i)) ∙ take-append_seam log is.rest,
    )

-- the bytes up to `end` are the bytes up to `read` and the chunk after them
pub chunk_read : (bytes chunk : List ℕ) (read end : ℕ) → read ≤ end → end ≤ length bytes → chunk ≡ take (end - read) (drop read bytes)
    → take end bytes ≡ take read bytes ++ chunk
chunk_read bytes chunk read end le within e =
    let sum : read + (end - read) ≡ end = omega (arith, le) in
    sym (take-append-drop read (take end bytes))
    ∙ (λ i. take-take read end bytes le i ++ (ap (λ (n : ℕ). drop read (take n bytes)) (sym sum) ∙ drop-take read (end - read) bytes ∙ sym e) i)

-- ---- faults

-- the text so far shows the fault, whatever bytes follow; it never shows `Memory`
abbrev pub ShowsInText : List ℕ → FeedFault → Type 0
ShowsInText text faults.Header = ShowsNone IsHead head_bytes text
ShowsInText text (faults.Record nth what) = IsRecordFault text nth what
ShowsInText text faults.Memory = ⊥

-- a fault that a text shows is the fault of the text
pub shown_in_text : (fault : FeedFault) (text : List ℕ) → ShowsInText text fault → IsTextFault text fault
shown_in_text faults.Header text h = h.0
shown_in_text (faults.Record nth what) text h = h
shown_in_text faults.Memory text h = h

-- a proper prefix of a header shows no fault
cut_shows_none : (text : List ℕ) → IsUnfinishedFront IsHead head_bytes text → (fault : FeedFault) → ShowsInText text fault → ⊥
cut_shows_none text cut faults.Header h = h.1 cut.head cut.more cut.is_head cut.begun
cut_shows_none text cut (faults.Record nth what) h =
    cut_none IsHead head_bytes same_long text cut h.fault.head (flat_map spelling h.records ++ h.fault.rest) h.fault.is_head h.fault.spelled
cut_shows_none text cut faults.Memory h = h

-- if a header was read, and no fault shown, the text is a log
pub log_read : (taken : List Logged) (s : LogSoFar) (front : LogFront) (held text : List ℕ) → s.front ≡ Some front → HoldsAll (HoldsLog taken) IsLogLeft s held text → IsLog text front.head (taken ++ s.ready) held
log_read taken s front held text some (reads, left) =
    let is = begun taken s front text held some reads in
    record { spelled = is.0; is_head = is.1.is_head; lawful = is.1.lawful; ends = rw some at left }

-- the text of a feed without a fault shows no fault
pub text_shows_none : (taken : List Logged) (s : LogSoFar) (held text : List ℕ) → HoldsAll (HoldsLog taken) IsLogLeft s held text → (fault : FeedFault) → ShowsInText text fault → ⊥
text_shows_none taken s held text (reads, left) = by s.front refl
  where
    by : (o : Option LogFront) → s.front ≡ o → (fault : FeedFault) → ShowsInText text fault → ⊥
    by None none = subst (λ (t : List ℕ). (fault : FeedFault) → ShowsInText t fault → ⊥) (unread taken s text held none reads) (cut_shows_none held (rw none at left))
    by (Some front) some = λ fault h. text_not_both text front.head (taken ++ s.ready) held fault (log_read taken s front held text some (reads, left)) (shown_in_text fault text h)

-- the text of a feed that failed shows its fault
pub text_shows : (taken : List Logged) (s : LogSoFar) (fault : FeedFault) (text : List ℕ) → HasShown (HasRead (HoldsLog taken s) text) (IsLogFaulty s fault) → fault ≢ faults.Memory → ShowsInText text fault
text_shows taken s faults.Header text h other =
    subst (ShowsNone IsHead head_bytes) (unread taken s text (h.shown ++ h.more) h.fault.0 h.read) (shows_none_on IsHead head_bytes h.shown h.more h.fault.1)
text_shows taken s (faults.Record nth what) text h other =
    let front = h.fault.front in
    let is = begun taken s front text (h.shown ++ h.more) h.fault.begun h.read in
    let low : front.latest ≡ latest 0 (taken ++ s.ready) = ap (λ (f : LogFront). f.latest) is.1.numbers in
    record {
      records = taken ++ s.ready;
      fault = record {
        head = front.head;
        rest = h.shown ++ h.more;
        spelled = is.0;
        is_head = is.1.is_head;
        lawful = is.1.lawful;
        fault = rest_fault_on what (limits_of front.head.format) (latest 0 (taken ++ s.ready)) h.shown h.more
            (subst (λ (n : ℕ). RestFault what (limits_of front.head.format) n h.shown) low h.fault.fault);
      };
      number = h.fault.number ∙ ap (λ (f : LogFront). f.count) is.1.numbers;
    }
text_shows taken s faults.Memory text h other = absurd (other refl)

-- if the input shows a fault, the bytes after the records have it
pub front_faulty : (taken : List Logged) (s : LogSoFar) (front : LogFront) (nth : ℕ) (what : What) (text : List ℕ) → s.front ≡ Some front
    → HasShown (HasRead (HoldsLog taken s) text) (IsLogFaulty s (faults.Record nth what)) → IsTextFrontOf text (taken ++ s.ready) (record front { rest = Faulty what })
front_faulty taken s front nth what text some h =
    let same : h.fault.front ≡ front = same_Some _ _ (sym h.fault.begun ∙ some) in
    front_is taken s front text (h.shown ++ h.more) (Faulty what) some h.read (rest_fault_on what (limits_of front.head.format) front.latest h.shown h.more (rw same at h.fault.fault))
