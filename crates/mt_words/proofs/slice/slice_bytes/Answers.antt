use Rattle.mt_words.specs.Slices.{slice_bytes}
use Rattle.mt_words.proofs.slice.slice_bytes.Goals as goal

pub returns : goal.returns
unfolding slice_bytes
returns c = c.to_be_bytes.ensures
