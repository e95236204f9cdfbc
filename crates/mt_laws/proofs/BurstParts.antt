-- A burst of errors makes no part of a part of format 4.
use Rattle.std.proofs.Common.{◌≡◌, inl, inr, ℕ, List, [], ◌∷◌, ◌++◌, length, drop, sym, ap, ◌∙◌, subst, arith}
use Rattle.std.specs.List.{flat_map, AllByRecursion}
use Rattle.std.proofs.lemmas.List.{take-append-drop}
use Rattle.byteorder.specs.Endian.{big_bytes, big_from}
use Rattle.byteorder.specs.Numbers.{big_number-reads_back}
use Rattle.mt_words.specs.declared.limits.Format.{Format}
use Rattle.mt_words.specs.declared.record.Change.{Change}
use Rattle.mt_words.specs.Limits.{limits_of}
use Rattle.mt_words.specs.Changes.{IsEntry}
use Rattle.mt_crc.specs.Crc.{IsBurst}
use Rattle.mt_block.specs.Blocks.{blocks}
use Rattle.mt_block.specs.Parts.{part_mark}
use Rattle.mt_block.proofs.Older.{no_older_part}
use Rattle.mt_block.proofs.PartErrors.{part_seen_of}
use Rattle.mt_record.specs.Spelling.{change_bytes}
use Rattle.mt_record.specs.declared.part_text.PartHead.{PartHead}
use Rattle.mt_record.specs.Parts.{part_head, part_head_bytes, entry_spelling, footer_bytes, IsPart, PartReading, IsSealedPart, OpensPart, IsPartReading}
use Rattle.mt_record.proofs.Entries.{entry_length, short_entry}

-- what a part of an older format has after its header is no length of 1
not_one : (head : PartHead) (entries : List Change) (end : ℕ) (bytes : List ℕ) → AllByRecursion (IsEntry (limits_of head.format)) entries
    → bytes ≡ part_head_bytes head ++ (flat_map entry_spelling entries ++ footer_bytes end (length entries)) → big_from 20 4 bytes ≡ 1 → ⊥
not_one head [] end bytes are e one =
    let back : big_from 20 4 bytes ≡ 0 = ap (big_from 20 4) e ∙ big_number-reads_back 4 0 (big_bytes 8 end ++ big_bytes 4 0) (omega arith) in
    omega (arith, back, one)
not_one head (c ∷ cs) end bytes are e one =
    let n = length (change_bytes c) in
    let is = entry_length (limits_of head.format) c are.0 in
    let rest = ((change_bytes c ++ big_bytes 4 n) ++ flat_map entry_spelling cs) ++ footer_bytes end (length (c ∷ cs)) in
    let back : big_from 20 4 bytes ≡ n = ap (big_from 20 4) e ∙ big_number-reads_back 4 n rest (short_entry head.format n is) in
    omega (arith, back, one, is.0)

pub part_seen : (before after : List ℕ) (part other : PartReading) → IsSealedPart before → IsPartReading before part → IsBurst before after → IsPartReading after other → ⊥
part_seen before after part other sealed is burst said = by is.opens said.opens
  where
    by : OpensPart before is.text → OpensPart after said.text → ⊥
    by (inl own) opens = own.0 sealed
    by (inr was) (inr now) = part_seen_of before after was.header now.header was.bodies now.bodies was.begins now.begins burst
    by (inr was) (inl own) = elim (no_older_part before after was.header (blocks (part_mark was.header) was.bodies ++ []) was.begins.spelled burst) as (λ _. ⊥) [
      | inl same ↦ own.0 (record { more = drop 4 after; spelled = sym (take-append-drop 4 after) ∙ ap (λ (x : List ℕ). x ++ drop 4 after) same })
      | inr one ↦ plain said.is_part.0 (subst (λ (text : List ℕ). IsPart text (part_head said.is_part.0 other.number other.begin other.part other.parts) other.entries other.end) own.1 said.is_part.1) one
    ]
      where
        plain : (format : Format) → IsPart after (part_head format other.number other.begin other.part other.parts) other.entries other.end → big_from 20 4 after ≡ 1 → ⊥
        plain format text one = not_one (part_head format other.number other.begin other.part other.parts) other.entries other.end after text.lawful text.spelled one
