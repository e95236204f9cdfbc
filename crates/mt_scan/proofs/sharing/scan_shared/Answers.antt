use Rattle.std.proofs.Common.{rules, ◌∙◌, ◌<◌, ◌^◌, ℕ, length, refl, sym, ap, subst, arith}
use Rattle.mt_board.specs.Board.{PassView, least_of}
use Rattle.mt_scan.specs.Scans.{IsScanFault, OfTold}
use Rattle.std.specs.Prelude.{Option}
use Rattle.mt_scan.specs.Dropping.{HasAllBelow, KeepsOnlyBelow, IsSharedScan, noted_for, lowered_by}
use Rattle.mt_scan.specs.Steps.Feeding.{IsFedAbove}
use Rattle.mt_scan.proofs.Telling.{some_bytes}
use Rattle.mt_scan.proofs.Steps.{answered, none_fed, ready_again, last_fed}
use Rattle.mt_scan.proofs.Shares.{first_look, next_look, has_looked, noted_on, few_bytes}
use Rattle.mt_scan.proofs.sharing.scan_shared.Goals as goal

pub pieces-init : goal.pieces-init
pieces-init g c =
    let least = c.least-limit.result in record {
      failed = search rules;
      steady = λ is. is;
      looks = first_look c.args.pass.now c.least-limit.new.pass least c.least-limit.ensures.pass (omega (arith, c.least-limit.type_inv)) c.least-limit.ensures.noted c.least-limit.ensures.seen;
      fed = none_fed _ (g.S.Source.seen c.args.source.now) c.new-feed.result (least, omega arith, c.new-feed.ensures least);
    }

pub pieces-smaller : goal.pieces-smaller
pieces-smaller g c =
    let s = c.pieces.invariant.fed in
    let step = c.in_ok-feed_below.ensures.fed s.fed.0 s.bytes s.fed.1 s.fed.2 s.few in
    omega (arith, step.falls, step.some c.if-branch.true)

pub pieces-preserved : goal.pieces-preserved
pieces-preserved g c =
    let s = c.pieces.invariant.fed in
    let step = c.in_ok-feed_below.ensures.fed s.fed.0 s.bytes s.fed.1 s.fed.2 s.few in
    let look = next_look _ _ _ _ _ c.pieces.invariant.looks c.least-limit-in-pieces.ensures.pass (omega (arith, c.least-limit-in-pieces.type_inv)) c.least-limit-in-pieces.ensures.noted c.least-limit-in-pieces.ensures.seen in
    record {
      failed = search rules;
      steady = λ is. (c.in_ok-feed_below.ensures.steady (c.pieces.invariant.steady is)).1;
      looks = look.0;
      fed = ready_again _ _ _ _ _ _ _ _ s step (IsFedAbove c.least-limit-in-pieces.result) (c.pieces.limit, look.1, step.fed.fed);
    }

pub returns-in_err-feed_below-clause-fault : goal.returns-in_err-feed_below-clause-fault
returns-in_err-feed_below-clause-fault g c =
    let told = (g.S.Source.seen c.args.source.now).told in
    let some = some_bytes told in
    let h : OfTold told (λ bytes. IsScanFault c.args.log bytes c.in_err-feed_below.field-0.0) = (some.0, some.1, subst (IsScanFault c.args.log some.0) (sym c.in_err-feed_below.ensures.fault) refl) in
    search (rules, h)

pub returns-in_err-scan-clause-fault : goal.returns-in_err-scan-clause-fault
returns-in_err-scan-clause-fault g c =
    let told = (g.S.Source.seen c.args.source.now).told in
    let s = c.pieces.invariant.fed in
    let all = last_fed _ _ _ _ _ _ _ _ s (c.in_ok-feed_below.ensures.fed s.fed.0 s.bytes s.fed.1 s.fed.2 s.few) c.if-branch.false in
    let is = c.in_err-scan.ensures.fault _ all.0 all.2.fed in
    let h : OfTold told (λ bytes. IsScanFault c.args.log bytes c.in_err-scan.field-0.0) = (all.0, all.1, subst (IsScanFault c.args.log all.0) (sym is.is) (answered c.args.log all.0 is.of_bytes is.answered)) in
    search (rules, h)

pub returns-clause-scan : goal.returns-clause-scan
returns-clause-scan g c =
    let s = c.pieces.invariant.fed in
    let looks = c.pieces.invariant.looks in
    let all = last_fed _ _ _ _ _ _ _ _ s (c.in_ok-feed_below.ensures.fed s.fed.0 s.bytes s.fed.1 s.fed.2 s.few) c.if-branch.false in
    let noted : Option ℕ = noted_for c.in_ok-scan.scan in
    let looked = has_looked c.args.pass.now _ _ looks in
    let few : length all.0 < 2 ^ 64 = few_bytes (length all.0) c.finish.result c.in_ok-scan.scan all.2.few c.finish.ensures.stopped c.in_ok-scan.was in
    let is = c.in_ok-scan.ensures.scan _ all.0 all.2.fed few in
    let least = looks.least ∙ sym (ap (λ (p : PassView). least_of p.looks) c.note_last.ensures) in
    let scan : IsSharedScan c.args.log c.args.pass.now c.note_last.new.pass all.0 c.in_ok-scan.scan = record {
      looked = noted_on _ c.args.pass.now _ c.note_last.new.pass looked.0 c.note_last.ensures;
      noted = ap (λ (p : PassView). p.noted) c.note_last.ensures ∙ ap (λ (n : ℕ). lowered_by n noted) looked.1;
      is = subst (λ (n : ℕ). HasAllBelow n c.args.log all.0 c.in_ok-scan.scan) least is.0;
      kept = subst (λ (n : ℕ). KeepsOnlyBelow n c.in_ok-scan.scan) least is.1;
    } in
    (all.0, all.1, scan)
