use Rattle.std.proofs.Common.{None, [], List, ℕ, sym, subst, rules}
use Rattle.mt_writer.specs.PartFiles.{IsPartOf}
use Rattle.mt_writer.proofs.PartLemmas.{begun}
use Rattle.mt_writer.proofs.part_writer.PartWriter.begin.Goals as goal

pub returns-clause-begins : goal.returns-clause-begins
returns-clause-begins c =
    subst (λ (x : List ℕ × List ℕ). IsPartOf (record { header = c.args.header; last = None; count = 0; end = None; held = x.0; ready = x.1 }) None [] []) (λ i. (sym c.new-2.ensures.items i, sym c.in_ok-bytes.ensures i))
    (begun c.args.header (record { salt = search rules; number = search rules; part = search rules; parts = search rules; begin = search rules }))
