-- A beginning of a log is a log.
use Rattle.std.proofs.Common.{◌≡◌, ◌⊎◌, inl, inr, ℕ, List, [], ◌∷◌, ◌++◌, length, refl, sym, ap, ◌∙◌, subst, append_assoc, arith}
use Rattle.std.proofs.lemmas.List.{append-nil}
use Rattle.std.specs.Prelude.{◌==◌, ◌||◌, ◌↔◌, Bool, true, false, IsTrue, not}
use Rattle.std.proofs.lemmas.Bool.{false≢true}
use Rattle.std.specs.List.{flat_map}
use Rattle.mt_words.specs.declared.limits.Limits.{Limits}
use Rattle.mt_words.specs.Limits.{limits_of}
use Rattle.mt_words.specs.Changes.{Logged, IsLawful}
use Rattle.mt_record.specs.declared.feed.head.Head.{Head}
use Rattle.mt_record.specs.Heads.{head_bytes}
use Rattle.mt_record.specs.Fronts.{GoTogether}
use Rattle.mt_record.specs.Spelling.{spelling, IsRecordLength}
use Rattle.mt_record.specs.Opening.{Opens}
use Rattle.mt_record.specs.Logs.{AreRecords, IsTorn, IsLog, LogReading, IsReading}
use Rattle.mt_record.proofs.Feeds.{apart, behind_on}
use Rattle.mt_record.proofs.OneLog.{same_head}
use Rattle.mt_record.proofs.Opened.{plain_text, plain_log, plain_reading}
use Rattle.mt_record.proofs.Records.{tells_torn}
use Rattle.mt_record.proofs.SealedLogs.{text_of_file}
use Rattle.mt_record.proofs.Unique.{same_split}
use Rattle.mt_writer.specs.Files.{HasHeader, IsCutOf, IsCutFileOf}
use Rattle.mt_laws.specs.Crashes.{SaysBeginning}
use Rattle.mt_laws.proofs.CutFrames.{cut_end, cut_record}

-- ---- the records

-- the bytes are the first of these records, and then nothing or the beginning of a record
record AreFirst (limits : Limits) (records : List Logged) (bytes : List ℕ) : Type 0 where
  kept : List Logged
  lost : List Logged
  rest : List ℕ
  all : records ≡ kept ++ lost
  spelled : bytes ≡ flat_map spelling kept ++ rest
  ends : (rest ≡ []) ⊎ IsTorn limits rest

-- one more record in front
one_more : (limits : Limits) (r : Logged) (rs : List Logged) (more bytes : List ℕ) → bytes ≡ spelling r ++ more → AreFirst limits rs more
    → AreFirst limits (r ∷ rs) bytes
one_more limits r rs more bytes same later = record {
  kept = r ∷ later.kept;
  lost = later.lost;
  rest = later.rest;
  all = ap (λ (l : List Logged). r ∷ l) later.all;
  spelled = same ∙ ap (λ (l : List ℕ). spelling r ++ l) later.spelled ∙ sym (append_assoc (spelling r) (flat_map spelling later.kept) later.rest);
  ends = later.ends;
}

-- the first record is whole, or is cut
first_or_more : (limits : Limits) (r : Logged) (rs : List Logged) (all bytes lost : List ℕ) → IsLawful limits r
    → ((more : List ℕ) → all ≡ more ++ lost → AreFirst limits rs more) → spelling r ++ all ≡ bytes ++ lost
    → GoTogether (spelling r) bytes → AreFirst limits (r ∷ rs) bytes
first_or_more limits r rs all bytes lost is next e (inl (x ∷ xs, u)) =
    record { kept = []; lost = r ∷ rs; rest = bytes; all = refl; spelled = refl; ends = cut_record limits r bytes (x ∷ xs) is u (omega arith) }
first_or_more limits r rs all bytes lost is next e (inl ([], u)) =
    let same : bytes ≡ spelling r ++ [] = sym (append-nil bytes) ∙ sym u ∙ sym (append-nil (spelling r)) in
    one_more limits r rs [] bytes same (next [] (same_split (spelling r) (spelling r) all ([] ++ lost) refl (e ∙ behind_on (spelling r) bytes [] lost same)).1)
first_or_more limits r rs all bytes lost is next e (inr (more, same)) =
    one_more limits r rs more bytes same (next more (same_split (spelling r) (spelling r) all (more ++ lost) refl (e ∙ behind_on (spelling r) bytes more lost same)).1)

-- a beginning of records and a tail is the first of them, and then nothing or the beginning of a record
first_records : (limits : Limits) (low : ℕ) (rs : List Logged) (tail bytes lost : List ℕ) → AreRecords limits low rs → (tail ≡ []) ⊎ IsTorn limits tail
    → flat_map spelling rs ++ tail ≡ bytes ++ lost → AreFirst limits rs bytes
first_records limits low [] tail bytes lost are ends e =
    record { kept = []; lost = []; rest = bytes; all = refl; spelled = refl; ends = cut_end (IsRecordLength limits) tail bytes lost e ends }
first_records limits low (r ∷ rs) tail bytes lost are ends e =
    let all = flat_map spelling rs ++ tail in
    let apart_e = sym (append_assoc (spelling r) (flat_map spelling rs) tail) ∙ e in
    first_or_more limits r rs all bytes lost are.0 (λ more f. first_records limits r.timestamp rs tail more lost are.2 ends f) apart_e
    (apart (spelling r) bytes all lost apart_e)

-- the first of lawful records are lawful
front_lawful : (limits : Limits) (low : ℕ) (kept lost : List Logged) → AreRecords limits low (kept ++ lost) → AreRecords limits low kept
front_lawful limits low [] lost are = tt
front_lawful limits low (r ∷ rs) lost are = (are.0, are.1, front_lawful limits r.timestamp rs lost are.2)

-- ---- the log

-- a beginning of a log that has a whole header is a log
pub cut_log : (left written : List ℕ) (log : LogReading) → IsReading written log → IsCutOf left written → SaysBeginning left log
cut_log left written log is cut =
    let limits = limits_of log.head.format in
    let header = cut.header in
    let front = head_bytes log.head in
    let begins = behind_on (head_bytes header.head) left header.more cut.lost header.spelled in
    let written_log = plain_log written log is header.head (header.more ++ cut.lost) (cut.begins ∙ begins) in
    let all = flat_map spelling log.records ++ is.tail in
    let both : left ++ cut.lost ≡ front ++ all = sym cut.begins ∙ written_log.spelled in
    let one = same_head header.head log.head (header.more ++ cut.lost) all header.is_head written_log.is_head (sym begins ∙ both) in
    let heads : header.head ≡ log.head = one.0 in
    let behind : left ≡ front ++ header.more = header.spelled ∙ ap (λ (head : Head). head_bytes head ++ header.more) heads in
    let first = first_records limits 0 log.records is.tail header.more cut.lost written_log.lawful written_log.ends (sym one.1) in
    let new : LogReading = record { head = log.head; records = first.kept; torn = not (length first.rest == 0) } in
    record {
      log = new;
      is_reading = plain_reading left new first.rest
          (record {
            spelled = behind ∙ ap (λ (bytes : List ℕ). front ++ bytes) first.spelled;
            is_head = written_log.is_head;
            lawful = front_lawful limits 0 first.kept first.lost (subst (AreRecords limits 0) first.all written_log.lawful);
            ends = first.ends;
          })
          (tells_torn limits first.rest (length first.rest == 0) refl first.ends);
      begins = record { head = refl; lost = first.lost; records = first.all };
    }

-- ---- the file

-- whether the text has a torn tail, or something torn follows it
pub torn_of : (limits : Limits) (tail : List ℕ) (ended torn : Bool) → IsTrue torn ↔ IsTorn limits tail → IsTrue (ended || torn) ↔ (IsTrue ended ⊎ IsTorn limits tail)
torn_of limits tail true torn tells = (λ _. inl refl, λ _. refl)
torn_of limits tail false torn tells = (λ is. inr (tells.0 is), λ either. elim either as (λ _. IsTrue torn) [ inl wrong ↦ absurd (false≢true wrong) | inr is ↦ tells.1 is ])

-- what the text says
pub record SaysText (text : List ℕ) (log : LogReading) : Type 0 where
  pub tail : List ℕ
  pub is_log : IsLog text log.head log.records tail
  pub torn : IsTrue log.torn ↔ IsTorn (limits_of log.head.format) tail

-- a file says what its text says
pub file_says : (file text : List ℕ) (ended : Bool) (log : LogReading) → Opens file text ended → SaysText text log → IsReading file (record log { torn = ended || log.torn })
file_says file text ended log opens says = record {
  text = text;
  ended = ended;
  opens = opens;
  tail = says.tail;
  is_log = says.is_log;
  torn = torn_of (limits_of log.head.format) says.tail ended log.torn says.torn;
}

-- a text that begins with a header is read as what it says
pub text_says : (text : List ℕ) (log : LogReading) → HasHeader text → IsReading text log → SaysText text log
text_says text log header is =
    let own = plain_text text is.text is.ended header.head header.more header.spelled is.opens in record {
      tail = is.tail;
      is_log = plain_log text log is header.head header.more header.spelled;
      torn = (λ t. elim (is.torn.0 t) as (λ _. IsTorn (limits_of log.head.format) is.tail) [ inl ended ↦ absurd (false≢true (sym own.1 ∙ ended)) | inr torn ↦ torn ], λ torn. is.torn.1 (inr torn));
    }

-- what is left of a file says a beginning of what was written
pub cut_file : (left written : List ℕ) (log : LogReading) → IsReading written log → IsCutFileOf left written → SaysBeginning left log
cut_file left written log is cut =
    let whole = text_of_file written cut.whole cut.ended log cut.opens_written is in
    let said = cut_log cut.text cut.whole (record log { torn = whole.0 }) whole.1 cut.is_cut in record {
      log = record said.log { torn = cut.torn || said.log.torn };
      is_reading = file_says left cut.text cut.torn said.log cut.opens (text_says cut.text said.log cut.is_cut.header said.is_reading);
      begins = record { head = said.begins.head; lost = said.begins.lost; records = said.begins.records };
    }
