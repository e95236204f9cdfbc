-- The fields of entries.
use Rattle.std.proofs.Common.{◌≡◌, ◌≢◌, ◌∙◌, inl, inr, ℕ, ◌^◌, ◌<◌, List, [], ◌++◌, length, refl, sym, ap, subst, arith}
use Rattle.std.specs.Prelude.{Result, Ok, Err, IfErr, OnErr}
use Rattle.byteorder.specs.Endian.{big_bytes}
use Rattle.mt_words.specs.declared.fault.What.{What}
use Rattle.mt_words.specs.declared.fault.What.TheVariants.{Length, Trailer, Kind, Frame, Version, Key, Columns, Clock, Checksum}
use Rattle.mt_words.specs.declared.limits.Format.{Format}
use Rattle.mt_words.specs.declared.record.Change.{Change}
use Rattle.mt_words.specs.declared.update.Kind.{Kind as AnyKind}
use Rattle.mt_words.specs.declared.update.Kind.TheVariants.{Put, Remove, Whole, Erase}
use Rattle.mt_words.specs.Limits.{limits_of}
use Rattle.mt_words.specs.Changes.{IsWhole, IsEntry}
use Rattle.mt_words.proofs.ColumnBytes.{same_split, same_number}
use Rattle.mt_record.specs.Spelling.{kind_byte, change_bytes, framed, FitsChange}
use Rattle.mt_record.specs.LogFaults.{HasTrailerFault}
use Rattle.mt_record.specs.PartTexts.{IsEntryLength}
use Rattle.mt_record.specs.PartFeeding.{HasWrongEntry, ShowsNoEntry}
use Rattle.mt_record.specs.Steps.Bodies.{AreNoFields, IsChangeWith, IsChangeFault, IsFrame, IsFrameFault}
use Rattle.mt_record.proofs.Unique.{same_change}
use Rattle.mt_record.proofs.Frames.{body_frame}
use Rattle.mt_record.proofs.Entries.{entry_length, short_entry}
use Rattle.mt_record.proofs.Lawful.{key_room, kind_fits}

-- a lawful entry fits its fields
pub entry_fits : (format : Format) (change : Change) → IsEntry (limits_of format) change → FitsChange change
entry_fits format change entry =
    let key = key_room format in
    record { version = entry.0.version_fits; key = omega (arith, entry.0.key, key); kind = kind_fits format change.kind entry.0.kind }

-- a `Whole` has byte 0
pub whole_code : (kind : AnyKind) → IsWhole kind → kind_byte kind ≡ 0
whole_code (Put columns) whole = absurd whole
whole_code Remove whole = absurd whole
whole_code (Whole columns) whole = refl
whole_code (Erase numbers) whole = absurd whole

-- if the bytes are the fields of a change for which `P` holds, and `P` holds for no lawful entry, they are not the fields of any entry
other_entry : (format : Format) (bytes : List ℕ) (P : Change → Type 0) → IsChangeWith 0 bytes P → ((entry : Change) → IsEntry (limits_of format) entry → P entry → ⊥)
    → (entry : Change) → IsEntry (limits_of format) entry → bytes ≢ change_bytes entry
other_entry format bytes P has refused entry is e =
    let same : has.change ≡ entry = same_change has.change entry has.fits (entry_fits format entry is) (has.code ∙ sym (whole_code entry.kind is.1)) (sym has.spelled ∙ e) in
    refused entry is (subst P same has.holds)

-- bytes with a fault of a `Whole` are not the fields of any entry
pub no_entry_text : (format : Format) (bytes : List ℕ) (what : What) → IsChangeFault (limits_of format) 0 bytes what → AreNoFields (limits_of format) bytes
no_entry_text format bytes Length h entry is e = h
no_entry_text format bytes Trailer h entry is e = h
no_entry_text format bytes Kind h entry is e = h
no_entry_text format bytes Frame h entry is e = h entry (entry_fits format entry is) (whole_code entry.kind is.1) e
no_entry_text format bytes Version h entry is e =
    other_entry format bytes _ h (λ other lawful zero. let some = lawful.0.version in omega (arith, some, zero)) entry is e
no_entry_text format bytes Key h entry is e = other_entry format bytes _ h (λ other lawful wrong. wrong.1 lawful.0.key) entry is e
no_entry_text format bytes Columns h entry is e = other_entry format bytes _ h (λ other lawful wrong. wrong.refused lawful.0.kind) entry is e
no_entry_text format bytes Clock h entry is e = h
no_entry_text format bytes Checksum h entry is e = h

-- ---- frames

-- if a length, a body and a number are the frame of some fields, the body is these fields, and the number is their length
same_parts : (body fields : List ℕ) (n : ℕ) → length body < 2 ^ 32 → length fields < 2 ^ 32 → n < 2 ^ 32
    → big_bytes 4 (length body) ++ (body ++ big_bytes 4 n) ≡ framed fields → (body ≡ fields) × (n ≡ length fields)
same_parts body fields n fits_body fits_fields fits_n e =
    let number = same_number 4 (length body) (length fields) (body ++ big_bytes 4 n) (fields ++ big_bytes 4 (length fields)) fits_body fits_fields e in
    let split = same_split body fields (big_bytes 4 n) (big_bytes 4 (length fields)) number.0 number.1 in
    (split.0, (same_number 4 n (length fields) [] [] fits_n fits_fields split.1).0)

-- the length of an entry's fields fits in four bytes
short_fields : (format : Format) (entry : Change) → IsEntry (limits_of format) entry → length (change_bytes entry) < 2 ^ 32
short_fields format entry is = short_entry format (length (change_bytes entry)) (entry_length (limits_of format) entry is)

-- framed bytes that are not the fields of any entry are a wrong entry
pub wrong_entry : (format : Format) (bytes body after : List ℕ) → IsFrame (IsEntryLength (limits_of format)) bytes body after
    → AreNoFields (limits_of format) body → HasWrongEntry (limits_of format) bytes
wrong_entry format bytes body after frame none = (
  body_frame (IsEntryLength (limits_of format)) (short_entry format) bytes body after frame.fits frame.spelled,
  λ entry is e. none entry is (same_parts body (change_bytes entry) (length body) (short_entry format (length body) frame.fits) (short_fields format entry is) (short_entry format (length body) frame.fits) e).0,
)

-- a number after the body that is not its length makes a wrong entry too
other_length : (format : Format) (bytes : List ℕ) → HasTrailerFault (IsEntryLength (limits_of format)) bytes → HasWrongEntry (limits_of format) bytes
other_length format bytes (f, differs) = (
  f,
  λ entry is same.
      let parts = same_parts f.body (change_bytes entry) f.number (short_entry format (length f.body) f.is_length) (short_fields format entry is) f.fits same in
      differs (parts.1 ∙ ap length (sym parts.0)),
)

-- bytes with a frame fault show that they do not begin with an entry
pub frame_no_entry : (format : Format) (bytes : List ℕ) (what : What) → IsFrameFault (IsEntryLength (limits_of format)) bytes what → ShowsNoEntry (limits_of format) bytes
frame_no_entry format bytes Length h = inl h
frame_no_entry format bytes Trailer h = inr (other_length format bytes h)
frame_no_entry format bytes Kind h = absurd h
frame_no_entry format bytes Frame h = absurd h
frame_no_entry format bytes Version h = absurd h
frame_no_entry format bytes Key h = absurd h
frame_no_entry format bytes Columns h = absurd h
frame_no_entry format bytes Clock h = absurd h
frame_no_entry format bytes Checksum h = absurd h

-- if a check returns a fault of a `Whole`, the bytes are not the fields of any entry
pub entry_fault : (format : Format) (bytes : List ℕ) (outcome : Result (Unit {0}) What) → IfErr outcome (IsChangeFault (limits_of format) 0 bytes) → OnErr outcome (AreNoFields (limits_of format) bytes)
entry_fault format bytes (Ok u) h = tt
entry_fault format bytes (Err what) h = no_entry_text format bytes what h
