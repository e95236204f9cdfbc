use Rattle.std.proofs.Common.{arith}
use Rattle.mt_words.specs.Slices.{slice_in}
use Rattle.mt_words.proofs.slice.short_slice.Goals as goal

pub returns : goal.returns
unfolding slice_in
returns c = omega arith
