use Rattle.std.proofs.Common.{sym, refl, subst, arith, rules}
use Rattle.mt_writer.specs.PartFiles.{Part, IsPartOf}
use Rattle.mt_writer.proofs.PartLemmas.{ended}
use Rattle.mt_writer.proofs.part_writer.PartWriter.end.Goals as goal

pub returns-clause-ok : goal.returns-clause-ok
returns-clause-ok c = λ above entries taken is.
    let w = c.self.inside in
    let here = subst (λ (p : Part). IsPartOf p above entries taken) (sym c.self.view_is) is in
    ended _ above entries taken c.args.end w.mark w.count c.close.new.held.items c.close.new.ready.items here (search rules) (omega arith) (omega arith) c.self.invariant.0 refl c.in_ok-close.ensures.ok
