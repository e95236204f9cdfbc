-- The entry that bytes begin with, and the footer that they end with.
use Rattle.std.proofs.Common.{◌≡◌, inl, inr, ℕ, ◌+◌, ◌<◌, ◌^◌, List, [], ◌++◌, length, take, drop, sym, ap, ◌∙◌, arith}
use Rattle.std.proofs.lemmas.List.{length-append, length-drop, take-append-drop, append-nil, nil_from_length}
use Rattle.byteorder.specs.Endian.{big_bytes}
use Rattle.byteorder.specs.Numbers.{length-bytes_high_first}
use Rattle.mt_words.specs.declared.limits.Format.{Format}
use Rattle.mt_words.specs.declared.record.Change.{Change}
use Rattle.mt_words.specs.Limits.{limits_of, widest}
use Rattle.mt_record.specs.Spelling.{framed}
use Rattle.mt_record.specs.Steps.Bodies.{AreFieldsOf, IsNextEntry}
use Rattle.mt_record.specs.PartFaults.{HasNoEntry}
use Rattle.mt_record.specs.PartFronts.{IsNextEntryOf, IsFooterOf}
use Rattle.mt_record.specs.PartFeeding.{ShowsNoEntry}
use Rattle.mt_record.proofs.Copying.{entry_within, same_entry}
use Rattle.mt_record.proofs.OnePart.{length_no_entry}
use Rattle.mt_record.proofs.OnePartFault.{shown_no_entry}

-- the entry that was copied from the fields at the front is at the front
pub entry_found : (format : Format) (bytes fields after : List ℕ) (made : Change) → IsNextEntry (limits_of format) bytes fields after → AreFieldsOf widest fields made
    → IsNextEntryOf (limits_of format) bytes made after
entry_found format bytes fields after made found copied =
    let same : found.next ≡ made = same_entry fields found.next made (entry_within format fields found.next found.fields) copied in
    rw (← same) (record { lawful = found.fields.lawful; spelled = found.spelled ∙ ap (λ (x : List ℕ). framed x ++ after) found.fields.spelled })

-- bytes that show that no entry is at the front begin with none
pub no_entry_found : (format : Format) (bytes : List ℕ) → ShowsNoEntry (limits_of format) bytes → HasNoEntry (limits_of format) bytes
no_entry_found format bytes (inl h) = length_no_entry format bytes h.number h.more h.fits h.wrong h.spelled
no_entry_found format bytes (inr h) = shown_no_entry format 0 bytes (inr (inl h))

-- the last 16 bytes, read as a zero and two numbers, are a footer
pub footer_found : (bytes a b c : List ℕ) (start n end count : ℕ) → start + 16 ≡ length bytes → n ≡ 0 → drop start bytes ≡ big_bytes 4 n ++ a → a ≡ big_bytes 8 end ++ b → b ≡ big_bytes 4 count ++ c
    → end < 2 ^ 64 → count < 2 ^ 32 → IsFooterOf bytes end count
footer_found bytes a b c start n end count long zero first second third end_fits count_fits =
    let none : c ≡ [] = nil_from_length c (omega (
      arith,
      long,
      length-drop start bytes,
      ap length first,
      ap length second,
      ap length third,
      length-append (big_bytes 4 n) a,
      length-append (big_bytes 8 end) b,
      length-append (big_bytes 4 count) c,
      length-bytes_high_first 4 n,
      length-bytes_high_first 8 end,
      length-bytes_high_first 4 count,
    )) in
    let last : b ≡ big_bytes 4 count = third ∙ ap (λ (x : List ℕ). big_bytes 4 count ++ x) none ∙ append-nil (big_bytes 4 count) in
    record {
      front = take start bytes;
      spelled = sym (take-append-drop start bytes)
          ∙ ap (λ (x : List ℕ). take start bytes ++ x) (first ∙ λ i. big_bytes 4 (zero i) ++ ((second ∙ ap (λ (x : List ℕ). big_bytes 8 end ++ x) last) i));
      end_fits = end_fits;
      count_fits = count_fits;
    }
