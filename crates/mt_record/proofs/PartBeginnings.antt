-- The header of a part, number by number.
use Rattle.std.proofs.Common.{◌≡◌, ℕ, List, ◌++◌, length, drop, refl, sym, ◌∙◌, arith}
use Rattle.std.proofs.lemmas.List.{length-drop}
use Rattle.std.specs.Prelude.{codes}
use Rattle.byteorder.specs.Endian.{big_bytes, big_from}
use Rattle.byteorder.specs.Numbers.{big_from-lt}
use Rattle.mt_words.specs.declared.limits.Format.{Format}
use Rattle.mt_words.specs.Limits.{magic}
use Rattle.mt_record.specs.declared.part_text.PartHead.{PartHead}
use Rattle.mt_record.specs.Parts.{part_head, part_head_bytes, IsPartHead}
use Rattle.mt_record.specs.Fronts.{GoesWithMagic, ShowsNone, IsUnfinishedFront}
use Rattle.mt_record.specs.Heads.{NoneBegins}
use Rattle.mt_record.proofs.Beginnings.{shows_none, cut_front}
use Rattle.mt_record.proofs.Numbers.{AreBytes, two, four, eight, number_front}

-- the bytes after the magic are the numbers of a header
pub part_whole : (format : Format) (xs : List ℕ) → length xs ≡ 16 → AreBytes xs → (head : PartHead) × IsPartHead head × (part_head_bytes head ≡ magic (codes "MTC") format ++ xs)
part_whole format xs long small =
    let behind = drop 4 xs in
    let parts = drop 8 behind in
    let last = drop 2 parts in
    let number = number_front 4 xs four (omega (arith, long)) small in
    let begin = number_front 8 behind eight (omega (arith, long, length-drop 4 xs)) number.2 in
    let part = number_front 2 parts two (omega (arith, long, length-drop 4 xs, length-drop 8 behind)) begin.2 in
    let rest = two last (omega (arith, long, length-drop 4 xs, length-drop 8 behind, length-drop 2 parts)) part.2 in
    let whole : xs ≡ big_bytes 4 (big_from 0 4 xs) ++ (big_bytes 8 (big_from 0 8 behind) ++ (big_bytes 2 (big_from 0 2 parts) ++ big_bytes 2 (big_from 0 2 last))) =
    number.1 ∙ λ i. big_bytes 4 (big_from 0 4 xs) ++ (begin.1 ∙ λ j. big_bytes 8 (big_from 0 8 behind) ++ (part.1 ∙ λ k. big_bytes 2 (big_from 0 2 parts) ++ sym rest k) j) i in (
      part_head format (big_from 0 4 xs) (big_from 0 8 behind) (big_from 0 2 parts) (big_from 0 2 last),
      record { number = number.0; begin = begin.0; part = part.0; parts = big_from-lt 0 2 last part.2 },
      λ i. magic (codes "MTC") format ++ sym whole i,
    )

-- bytes that do not go with the magic of a part show that there is no header
pub part_none : (bytes : List ℕ) → (GoesWithMagic (codes "MTC") bytes → ⊥) → ShowsNone IsPartHead part_head_bytes bytes
part_none bytes not_so = shows_none IsPartHead part_head_bytes (λ (head : PartHead). magic (codes "MTC") head.format)
    (λ head. (big_bytes 4 head.number ++ (big_bytes 8 head.begin ++ (big_bytes 2 head.part ++ big_bytes 2 head.parts)), refl)) bytes (λ head goes. not_so (head.format, goes))

-- bytes that go with it but do not begin with a header are a proper prefix of one
pub part_cut : (bytes : List ℕ) → GoesWithMagic (codes "MTC") bytes → AreBytes bytes → NoneBegins IsPartHead part_head_bytes bytes → IsUnfinishedFront IsPartHead part_head_bytes bytes
part_cut bytes goes = cut_front IsPartHead part_head_bytes (magic (codes "MTC") goes.0) 16 (part_whole goes.0) bytes goes.1
