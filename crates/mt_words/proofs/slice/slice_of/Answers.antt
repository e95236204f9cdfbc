use Rattle.mt_words.specs.Slices.{slice_in}
use Rattle.mt_words.proofs.SliceLemmas.{bytes_from_fits}
use Rattle.mt_words.proofs.slice.slice_of.Goals as goal

pub returns-clause-value : goal.returns-clause-value
unfolding slice_in
returns-clause-value c = c.read_u64.ensures

pub returns-clause-bytes : goal.returns-clause-bytes
returns-clause-bytes c = bytes_from_fits c.args.key.now c.type_inv.key
