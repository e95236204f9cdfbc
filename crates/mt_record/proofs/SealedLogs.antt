-- Logs of format 4 that are resumed.
use Rattle.std.proofs.Common.{◌≡◌, ◌⊎◌, inl, inr, ℕ, ◌^◌, ◌<◌, min, Bool, List, [], ◌++◌, length, refl, sym, ap, ◌∙◌, subst, append_assoc, arith}
use Rattle.std.specs.Prelude.{◌==◌, not}
use Rattle.std.specs.List.{flat_map}
use Rattle.mt_words.specs.declared.fault.What.{What}
use Rattle.mt_words.specs.declared.fault.What.TheVariants.{Checksum}
use Rattle.mt_words.specs.Limits.{limits_of}
use Rattle.mt_words.specs.Changes.{Logged}
use Rattle.mt_block.specs.declared.header.Header.{Header}
use Rattle.mt_block.specs.Blocks.{IsHeader, mark_of, IsTornEnd, Begins, IsFile}
use Rattle.mt_record.specs.declared.front.LogFront.{LogFront}
use Rattle.mt_record.specs.declared.front.Rest.{Rest}
use Rattle.mt_record.specs.declared.front.Rest.TheVariants.{Nothing, Torn, Faulty}
use Rattle.mt_record.specs.declared.open.FileEnd.{FileEnd}
use Rattle.mt_record.specs.declared.open.FileEnd.TheVariants as ends
use Rattle.mt_record.specs.declared.open.OpenedFile.{OpenedFile}
use Rattle.mt_record.specs.declared.read.FeedFault.{FeedFault}
use Rattle.mt_record.specs.declared.read.FeedFault.TheVariants as faults
use Rattle.mt_record.specs.Spelling.{spelling}
use Rattle.mt_record.specs.Heads.{head_bytes}
use Rattle.mt_record.specs.Opening.{IsDamagedAfter, text_head, text_of, joined, is_torn, Opens}
use Rattle.mt_record.specs.OpenFiles.{IsFileEnd, IsOpened}
use Rattle.mt_record.specs.Logs.{latest, IsLog, LogReading, IsReading, count_of}
use Rattle.mt_record.specs.LogFronts.{IsRest, IsFrontOf}
use Rattle.mt_record.specs.LogFaults.{IsTextFault, HasTextFault, IsDamagedLog, IsLogFault}
use Rattle.mt_record.specs.Resuming.{resumed_header, IsResumed, IsSealedAgain}
use Rattle.mt_record.proofs.Opened.{plain_reading, one_text}
use Rattle.mt_record.proofs.OneReading.{damage_not_log}
use Rattle.mt_record.proofs.Records.{tells_torn}
use Rattle.mt_record.proofs.FileFeeds.{text_is_head}

-- ---- faults

-- the fault of the text of blocks is one of the file
pub sealed_fault : (bytes : List ℕ) (header : Header) (bodies : List (List ℕ)) (rest : List ℕ) (fault : FeedFault) → Begins bytes header bodies rest → IsTextFault (text_of header bodies) fault → IsLogFault bytes fault
sealed_fault bytes header bodies rest faults.Header begins h = absurd (h (text_head header) (joined bodies) (text_is_head header begins.is_header) refl)
sealed_fault bytes header bodies rest (faults.Record nth what) begins h =
    inl (record { text = text_of header bodies; opens = inr (record { header = header; bodies = bodies; rest = rest; begins = begins; is_text = refl }); fault = h })
sealed_fault bytes header bodies rest faults.Memory begins h = h

-- what follows the records in a damaged file is faulty
pub damaged_faulty : (bytes part : List ℕ) (records : List Logged) (front : LogFront) → IsFrontOf bytes records front → IsDamagedAfter bytes part → (what : What) × (front.rest ≡ Faulty what)
damaged_faulty bytes part records front is damaged = by front.rest is.is_rest refl
  where
    by : (rest : Rest) → IsRest bytes is.text (limits_of front.head.format) (latest 0 records) is.rest rest → front.rest ≡ rest → (what : What) × (front.rest ≡ Faulty what)
    by Nothing (opens, none) e = absurd (damage_not_log bytes is.text part _ opens damaged)
    by Torn (ended, opens, more, told) e = absurd (damage_not_log bytes is.text part ended opens damaged)
    by (Faulty what) fault e = (what, e)

-- a faulty front tells the fault of the file
pub front_fault : (bytes : List ℕ) (records : List Logged) (front : LogFront) (what : What) → IsFrontOf bytes records front → front.rest ≡ Faulty what → IsLogFault bytes (faults.Record front.count what)
front_fault bytes records front what is e = by (rw e at is.is_rest)
  where
    number : front.count ≡ count_of records
    number = ap (λ (f : LogFront). f.count) is.numbers

    spelled : is.text ≡ head_bytes front.head ++ (flat_map spelling records ++ is.rest)
    spelled = is.spelled ∙ append_assoc (head_bytes front.head) (flat_map spelling records) is.rest

    by : IsRest bytes is.text (limits_of front.head.format) (latest 0 records) is.rest (Faulty what) → HasTextFault bytes front.count what ⊎ ((what ≡ Checksum) × IsDamagedLog bytes front.count)
    by (inl (opens, fault)) = inl (record {
      text = is.text;
      opens = opens;
      fault = record { records = records; fault = record { head = front.head; rest = is.rest; spelled = spelled; is_head = is.is_head; lawful = is.lawful; fault = fault }; number = number };
    })
    by (inr (same, damaged, ends)) = inr (
      same,
      record {
        text = is.text;
        is_damaged = damaged;
        head = front.head;
        records = records;
        tail = is.rest;
        is_log = record { spelled = spelled; is_head = is.is_head; lawful = is.lawful; ends = ends };
        number = number;
      },
    )

-- ---- files

-- a file that was opened up to its end
pub opened_file : (bytes : List ℕ) (opened : OpenedFile) → (is : IsOpened bytes opened) → (opened.end ≡ ends.Damaged → ⊥) → IsFile bytes opened.header is.bodies is.rest
opened_file bytes opened is whole = record { begins = is.begins; ends = by opened.end is.ends refl }
  where
    by : (end : FileEnd) → IsFileEnd (mark_of opened.header) is.rest end → opened.end ≡ end → (is.rest ≡ []) ⊎ IsTornEnd (mark_of opened.header) is.rest
    by ends.Nothing h e = inl h
    by ends.Torn h e = inr h
    by ends.Damaged h e = absurd (whole e)

-- it has this text
pub opened_text : (bytes : List ℕ) (opened : OpenedFile) → (is : IsOpened bytes opened) → (opened.end ≡ ends.Damaged → ⊥) → Opens bytes opened.text.items (is_torn is.rest)
opened_text bytes opened is whole =
    inr (record { header = opened.header; bodies = is.bodies; end = is.rest; is_file = opened_file bytes opened is whole; is_text = is.is_text; ends = refl })

-- the text of a file is read as a log with the file's header and records
pub text_of_file : (file text : List ℕ) (ended : Bool) (log : LogReading) → Opens file text ended → IsReading file log → (torn : Bool) × IsReading text (record log { torn = torn })
text_of_file file text ended log opens is =
    let one = one_text file text is.text ended is.ended opens is.opens in
    let torn = not (length is.tail == 0) in
    let tells = tells_torn (limits_of log.head.format) is.tail (length is.tail == 0) refl is.is_log.ends in
    (torn, plain_reading text (record log { torn = torn }) is.tail (subst (λ (bytes : List ℕ). IsLog bytes log.head log.records is.tail) (sym one.0) is.is_log) tells)

-- the numbers of the header of a file that replaces one fit their fields
pub resumed_fits : (cutoff salt workers : ℕ) (header new : Header) → IsHeader header → cutoff < 2 ^ 64 → salt < 2 ^ 64 → workers < 2 ^ 32 → new ≡ resumed_header cutoff salt workers header → IsHeader new
resumed_fits cutoff salt workers header new is fits random few e =
    let from : min header.from cutoff < 2 ^ 64 = omega (arith, is.from, fits) in
    subst IsHeader (sym e) (record { salt = random; worker = is.worker; segment = is.segment; workers = few; from = from })

-- a file whose blocks have what replaces the text of another file replaces that file
pub sealed_again : (bytes : List ℕ) (opened : OpenedFile) (cutoff salt workers : ℕ) (text front records marks file : List ℕ) (new : Header) (bodies : List (List ℕ)) → (is : IsOpened bytes opened) → (opened.end ≡ ends.Damaged → ⊥)
    → text ≡ opened.text.items → IsResumed cutoff text (front ++ (records ++ marks)) → front ≡ head_bytes (record (text_head opened.header) { from = min opened.header.from cutoff })
    → new ≡ resumed_header cutoff salt workers opened.header → IsFile file new bodies [] → joined bodies ≡ records ++ marks → IsSealedAgain cutoff salt workers bytes file
sealed_again bytes opened cutoff salt workers text front records marks file new bodies is whole same to begins header is_file joins =
    let after : front ++ (records ++ marks) ≡ text_of (resumed_header cutoff salt workers opened.header) bodies = λ i. begins i ++ sym joins i in record {
      header = opened.header;
      bodies = is.bodies;
      end = is.rest;
      is_file = opened_file bytes opened is whole;
      new = bodies;
      replaces = subst (λ (h : Header). IsFile file h bodies []) header is_file;
      is_resumed = subst (λ (l : List ℕ). IsResumed cutoff l (text_of (resumed_header cutoff salt workers opened.header) bodies)) (same ∙ is.is_text) (subst (λ (l : List ℕ). IsResumed cutoff text l) after to);
    }
