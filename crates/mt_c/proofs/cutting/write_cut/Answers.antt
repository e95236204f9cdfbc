use Rattle.std.proofs.Common.{List, ℕ, subst}
use Rattle.mt_words.specs.Walks.{Pair}
use Rattle.mt_c.specs.Buffers.{Writes}
use Rattle.mt_c.specs.Cuts.{BeginsRange}
use Rattle.mt_c.proofs.cutting.write_cut.Goals as goal

pub returns-clause-written : goal.returns-clause-written
returns-clause-written c =
    let key = c.cut_key-key.result.items in (
      key,
      subst (λ (pairs : List Pair). BeginsRange pairs c.args.i c.args.n key) c.tree_of.ensures.pairs c.cut_key-key.ensures,
      subst (λ (bytes : List ℕ). Writes bytes c.args.out.now c.write_bytes.new.out c.write_bytes.new.count c.write_bytes.result) c.as_slice.ensures.value c.write_bytes.ensures.written,
    )
