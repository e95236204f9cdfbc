use Rattle.std.proofs.Common.{◌≡◌, ap, sym, subst, length, map, arith}
use Rattle.std.proofs.lemmas.Iterator.{items_from_collect, YieldsList-from_zip}
use Rattle.std.proofs.lemmas.Iterator.Adapters.{YieldsList-from_vec}
use Rattle.std.proofs.lemmas.Result.{IfOk-at_ok}
use Rattle.mt_recover.specs.Steps.Scanning.{AreDealt}
use Rattle.mt_recover.proofs.ScanLemmas.{in_two_steps, shares_fresh, with_passes}
use Rattle.mt_recover.proofs.Works.{length-fresh}
use Rattle.mt_recover.proofs.scans.share_out.Goals as goal

-- the shares with their passes
shares : (g : _) (c : goal.In_ok-shares g) → (map (λ share. share.0) c.in_ok-shares.shares.items ≡ c.in_ok-dealt.dealt.items) × (map (λ share. share.1) c.in_ok-shares.shares.items ≡ c.in-Ok.passes.items) × (length c.in_ok-shares.shares.items ≡ length c.in_ok-dealt.dealt.items)
shares g c =
    let dealt = c.in_ok-dealt.dealt.items in
    let passes = c.in-Ok.passes.items in
    with_passes c.in_ok-shares.shares.items dealt passes
    (IfOk-at_ok _ c.in_ok-shares.was (items_from_collect c.collect.result c.collect.ensures.ran (YieldsList-from_zip (YieldsList-from_vec dealt (cc) (cc)) (YieldsList-from_vec passes (cc) (cc)))))
    (omega (arith, c.len.ensures, ap length c.in-Ok.ensures.passes, length-fresh c.in-Ok.board c.len.result, c.in_ok-dealt.dealt.ok.0))

pub returns-clause-dealt : goal.returns-clause-dealt
returns-clause-dealt g c =
    subst (AreDealt c.args.jobs.items) (sym (in_two_steps (λ share. share.0) (λ jobs. jobs.items) c.in_ok-shares.shares.items c.in_ok-dealt.dealt.items (shares g c).0)) c.in_ok-dealt.ensures.dealt

pub returns-clause-fresh : goal.returns-clause-fresh
returns-clause-fresh g c = shares_fresh c.in-Ok.board c.len.result c.in_ok-shares.shares.items c.in-Ok.passes.items (shares g c).1 c.in-Ok.ensures.passes

pub returns-clause-some : goal.returns-clause-some
returns-clause-some g c = omega (arith, (shares g c).2, c.in_ok-dealt.ensures.some)

pub returns-clause-few : goal.returns-clause-few
returns-clause-few g c = omega (arith, (shares g c).2, c.in_ok-dealt.ensures.few)

pub returns-clause-many : goal.returns-clause-many
returns-clause-many g c = omega (arith, (shares g c).2, c.len.ensures, c.in-Ok.ensures.board.1, c.in_ok-dealt.dealt.ok.0)
