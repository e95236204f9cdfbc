use Rattle.std.proofs.Common.{sym, ap, ◌∙◌}
use Rattle.std.proofs.lemmas.List.{drop_all}
use Rattle.mt_words.specs.Slices.{slice_in}
use Rattle.mt_words.proofs.SliceLemmas.{slice_of_none}
use Rattle.mt_words.proofs.slice.slice_at.Goals as goal

pub returns-then-key-at : goal.returns-then-key-at
returns-then-key-at c = sym (ap slice_in (drop_all c.args.at c.args.key.now c.if-key-at.true) ∙ slice_of_none)
