use Rattle.std.proofs.Common.{rules, ◌≡◌, ◌∙◌, ℕ, ◌≤◌, ◌+◌, ◌<◌, ◌^◌, Option, List, [], ◌++◌, length, map, refl, sym, ap, subst, arith}
use Rattle.std.proofs.lemmas.Bool.{false≢true}
use Rattle.std.proofs.lemmas.List.{append-nil, length-map, nil_from_length}
use Rattle.std.proofs.lemmas.Result.{err_from_is_err_and}
use Rattle.mt_board.specs.Board.{PassView, least_of}
use Rattle.mt_record.proofs.Feeds.{nil_if_empty, some_if_not}
use Rattle.mt_scan.specs.Scans.{IsScanFault, OfTold}
use Rattle.mt_scan.specs.Dropping.{HasAllBelow, KeepsOnlyBelow, IsSharedScan, noted_for, lowered_by}
use Rattle.mt_scan.specs.Steps.DroppingFeeds.{IsFedBelow}
use Rattle.mt_scan.proofs.Steps.{answered}
use Rattle.mt_scan.proofs.Shares.{first_look, next_look, has_looked, noted_on}
use Rattle.mt_scan.proofs.Stretched.{first_round, all_ahead, all_checked, next_round, all_fed, enough_fed, some_left, memory_fault, source_fault, stopped_fault, stopped_scan}
use Rattle.mt_scan.proofs.by_workers.scan_by_workers.Goals as goal

pub rounds-init : goal.rounds-init
rounds-init g c =
    let least = c.least-limit.result in record {
      looks = first_look c.args.pass.now c.least-limit.new.pass least c.least-limit.ensures.pass (omega (arith, c.least-limit.type_inv)) c.least-limit.ensures.noted c.least-limit.ensures.seen;
      on = first_round g.S.Source.seen (g.S.Source.seen c.args.source) least c.new-feed.result c.new.result c.in_ok-reader.reader _ (c.new-feed.ensures least) c.new.ensures c.in_ok-reader.ensures;
    }

pub feed_checked-requires : goal.feed_checked-requires
feed_checked-requires g c =
    let h = c.rounds.invariant.on in
    all_ahead (λ stretch. stretch.items) c.rounds.feed h.fed.0 h.bytes h.fed.2 c.rounds.stretches.items c.in_ok-done.done.checked.items c.in_ok-done.ensures.checked

pub rounds-preserved : goal.rounds-preserved
rounds-preserved g c =
    let h = c.rounds.invariant.on in
    let look = next_look _ _ _ _ _ c.rounds.invariant.looks c.least-limit-in-rounds.ensures.pass (omega (arith, c.least-limit-in-rounds.type_inv)) c.least-limit-in-rounds.ensures.noted c.least-limit-in-rounds.ensures.seen in
    record {
      looks = look.0;
      on = next_round g.S.Source.seen (g.S.Source.seen c.args.source) c.rounds.limit c.least-limit-in-rounds.result c.rounds.feed c.feed_checked.new.feed c.rounds.reader c.in_ok-done.done.reader _ _ h look.1
          (all_checked (λ stretch. stretch.items) c.rounds.limit c.rounds.feed c.feed_checked.new.feed h.bytes c.rounds.stretches.items c.in_ok-done.done.checked.items c.in_ok-done.ensures.checked (c.feed_checked.ensures.fed h.bytes h.fed))
          c.in_ok-done.ensures.reads;
    }

pub rounds-smaller : goal.rounds-smaller
rounds-smaller g c =
    let h = c.rounds.invariant.on in
    let some = some_left (λ stretch. stretch.items) c.rounds.stretches.items (some_if_not c.rounds.stretches.items _ c.is_empty.result c.rounds.stretches.ok.0 c.is_empty.ensures c.rounds-test.true) in
    omega (arith, c.in_ok-done.ensures.reads.reads.falls, h.some, some)

pub returns-in_err-reader-clause-fault : goal.returns-in_err-reader-clause-fault
returns-in_err-reader-clause-fault g c =
    let p = err_from_is_err_and c.from_residual.result c.from_residual.ensures.1 in
    rw p.1 (memory_fault c.args.log (g.S.Source.seen c.args.source).told p.0 p.2)

pub returns-in_err-reader-clause-unnoted : goal.returns-in_err-reader-clause-unnoted
returns-in_err-reader-clause-unnoted g c =
    let p = err_from_is_err_and c.from_residual.result c.from_residual.ensures.1 in
    let least = c.least-limit.result in
    let look = first_look c.args.pass.now c.least-limit.new.pass least c.least-limit.ensures.pass (omega (arith, c.least-limit.type_inv)) c.least-limit.ensures.noted c.least-limit.ensures.seen in
    rw p.1 (has_looked c.args.pass.now c.least-limit.new.pass least look)

pub returns-in_err-done-clause-fault : goal.returns-in_err-done-clause-fault
returns-in_err-done-clause-fault g c =
    let p = err_from_is_err_and c.from_residual-in_err-done.result c.from_residual-in_err-done.ensures.1 in
    rw p.1 (memory_fault c.args.log (g.S.Source.seen c.args.source).told p.0 p.2)

pub returns-then-not-feed_checked-clause-scan : goal.returns-then-not-feed_checked-clause-scan
returns-then-not-feed_checked-clause-scan g c = stopped_scan c.finish.result _ (c.finish.ensures.stopped (c.feed_checked.ensures.stops c.if-not-feed_checked.true))

pub returns-then-not-feed_checked-clause-fault : goal.returns-then-not-feed_checked-clause-fault
returns-then-not-feed_checked-clause-fault g c =
    let h = c.rounds.invariant.on in
    let seen = g.S.Source.seen in
    let first = g.S.Source.seen c.args.source in
    let fed = all_checked (λ stretch. stretch.items) c.rounds.limit c.rounds.feed c.feed_checked.new.feed h.bytes c.rounds.stretches.items c.in_ok-done.done.checked.items c.in_ok-done.ensures.checked (c.feed_checked.ensures.fed h.bytes h.fed) in
    stopped_fault c.args.log c.rounds.limit first.told c.feed_checked.new.feed c.finish.result
    (enough_fed seen first c.rounds.limit c.rounds.limit c.rounds.feed c.feed_checked.new.feed c.rounds.reader (map (λ stretch. stretch.items) c.rounds.stretches.items) h fed (c.feed_checked.ensures.stops c.if-not-feed_checked.true)) c.finish.ensures.fault

pub returns-then-reader-clause-fault : goal.returns-then-reader-clause-fault
returns-then-reader-clause-fault g c = source_fault c.args.log (g.S.Source.seen c.args.source).told

pub returns-then-reader-clause-steady : goal.returns-then-reader-clause-steady
returns-then-reader-clause-steady g c is = absurd (false≢true (sym (c.rounds.invariant.on.returned.steady is).1 ∙ c.if-reader.true))

pub returns-in_err-scan-clause-fault : goal.returns-in_err-scan-clause-fault
returns-in_err-scan-clause-fault g c =
    let h = c.rounds.invariant.on in
    let told = (g.S.Source.seen c.args.source).told in
    let none = ap (λ items. map (λ stretch. stretch.items) items) (nil_if_empty c.rounds.stretches.items _ c.is_empty.result c.rounds.stretches.ok.0 c.is_empty.ensures c.rounds-test.false) in
    let all = all_fed g.S.Source.seen (g.S.Source.seen c.args.source) c.rounds.limit c.rounds.feed c.rounds.reader _ h none c.if-reader.false in
    let fed = subst (λ (l : List ℕ). IsFedBelow c.feed_below.new.self c.rounds.limit l) (append-nil all.0) (c.feed_below.ensures.fed all.2.0.0 all.0 all.2.0.1 all.2.0.2) in
    let is = c.in_err-scan.ensures.fault c.rounds.limit all.0 fed in
    let h : OfTold told (λ bytes. IsScanFault c.args.log bytes c.in_err-scan.field-0.0) = (all.0, all.1, subst (IsScanFault c.args.log all.0) (sym is.is) (answered c.args.log all.0 is.of_bytes is.answered)) in
    search (rules, h)

pub returns-clause-scan : goal.returns-clause-scan
returns-clause-scan g c =
    let h = c.rounds.invariant.on in
    let looks = c.rounds.invariant.looks in
    let none = ap (λ items. map (λ stretch. stretch.items) items) (nil_if_empty c.rounds.stretches.items _ c.is_empty.result c.rounds.stretches.ok.0 c.is_empty.ensures c.rounds-test.false) in
    let all = all_fed g.S.Source.seen (g.S.Source.seen c.args.source) c.rounds.limit c.rounds.feed c.rounds.reader _ h none c.if-reader.false in
    let fed = subst (λ (l : List ℕ). IsFedBelow c.feed_below.new.self c.rounds.limit l) (append-nil all.0) (c.feed_below.ensures.fed all.2.0.0 all.0 all.2.0.1 all.2.0.2) in
    let noted : Option ℕ = noted_for c.in_ok-scan.scan in
    let looked = has_looked c.args.pass.now _ _ looks in
    let is = c.in_ok-scan.ensures.scan c.rounds.limit all.0 fed all.2.1 in
    let least = looks.least ∙ sym (ap (λ (p : PassView). least_of p.looks) c.note_last.ensures) in
    let scan : IsSharedScan c.args.log c.args.pass.now c.note_last.new.pass all.0 c.in_ok-scan.scan = record {
      looked = noted_on _ c.args.pass.now _ c.note_last.new.pass looked.0 c.note_last.ensures;
      noted = ap (λ (p : PassView). p.noted) c.note_last.ensures ∙ ap (λ (n : ℕ). lowered_by n noted) looked.1;
      is = subst (λ (n : ℕ). HasAllBelow n c.args.log all.0 c.in_ok-scan.scan) least is.0;
      kept = subst (λ (n : ℕ). KeepsOnlyBelow n c.in_ok-scan.scan) least is.1;
    } in
    (all.0, all.1, scan)
