use Rattle.std.proofs.Common.{◌∙◌, sym, rules}
use Rattle.std.specs.Prelude.{nat_lt}
use Rattle.mt_words.proofs.SliceLemmas.{bytes_from_fits}
use Rattle.mt_record.proofs.RisingKeys.{slices_tell}
use Rattle.mt_record.proofs.key_order.is_below_by.Goals as goal

pub returns-then-head-other : goal.returns-then-head-other
returns-then-head-other c =
    (λ i. nat_lt (c.requires.head i) (c.requires.other i))
    ∙ slices_tell c.args.first.now c.args.second.now (bytes_from_fits c.args.first.now (search rules)) (bytes_from_fits c.args.second.now (search rules)) (λ same. c.if-head-other.true (c.requires.head ∙ same ∙ sym c.requires.other))
