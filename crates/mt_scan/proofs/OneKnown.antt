-- The bytes of a part determine what is known of it.
use Rattle.std.proofs.Common.{◌≡◌, ℕ, List, refl, ap}
use Rattle.mt_record.specs.declared.part_text.PartFault.{PartFault}
use Rattle.mt_record.specs.declared.part_text.PartFault.TheVariants as of_part
use Rattle.mt_record.proofs.PartFiles.{one_part_of, one_part_fault, part_not_both}
use Rattle.mt_scan.specs.PartScans.{KnownPart, whole, broken, nameless, IsKnown}

-- what is known of a part with this fault, unless it is `Memory`
abbrev known_from : PartFault → KnownPart
known_from (of_part.Broken number entries) = broken number entries
known_from of_part.Header = nameless
known_from of_part.Memory = nameless

-- a missing header and a broken part are different faults
no_header_broken : (number entries : ℕ) → of_part.Header ≡ of_part.Broken number entries → ⊥
no_header_broken number entries e = cc

pub one_known : (bytes : List ℕ) (a b : KnownPart) → IsKnown bytes a → IsKnown bytes b → a ≡ b
one_known bytes (whole p) (whole q) x y = ap whole (one_part_of bytes p q x y)
one_known bytes (whole p) (broken n k) x y = absurd (part_not_both bytes p (of_part.Broken n k) x y)
one_known bytes (whole p) nameless x y = absurd (part_not_both bytes p of_part.Header x y)
one_known bytes (broken n k) (whole q) x y = absurd (part_not_both bytes q (of_part.Broken n k) y x)
one_known bytes (broken n k) (broken m j) x y = ap known_from (one_part_fault bytes (of_part.Broken n k) (of_part.Broken m j) x y)
one_known bytes (broken n k) nameless x y = absurd (no_header_broken n k (one_part_fault bytes of_part.Header (of_part.Broken n k) y x))
one_known bytes nameless (whole q) x y = absurd (part_not_both bytes q of_part.Header y x)
one_known bytes nameless (broken m j) x y = absurd (no_header_broken m j (one_part_fault bytes of_part.Header (of_part.Broken m j) x y))
one_known bytes nameless nameless x y = refl
