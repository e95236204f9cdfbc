use Rattle.std.proofs.Common.{refl, subst}
use Rattle.std.proofs.lemmas.Result.{on_ok_weaker}
use Rattle.mt_checkpoint.specs.Steps.Writing.{HaveSealed}
use Rattle.mt_checkpoint.proofs.Texts.{one_text, added_sealed}
use Rattle.mt_checkpoint.proofs.entries.EntriesVisitorRest.visit.Goals as goal

pub returns : goal.returns
returns g c =
    let rest = c.args.rest.now in
    let contents = g.W.Write.contents in
    let new = c.seal_full.new.self in
    on_ok_weaker c.seal_full.result
    (λ sealed. record {
      left = sealed.left;
      sealed = subst (HaveSealed contents rest (record new { left = rest.left })) (one_text rest.version rest.left (c.args.key.now, c.args.columns.now) c.if-rest-eq0.false)
          (added_sealed contents rest _ new _ refl refl refl refl c.in_ok-write_entry.ensures sealed);
    })
    c.seal_full.ensures
