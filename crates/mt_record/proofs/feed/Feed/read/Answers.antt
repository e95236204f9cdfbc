use Rattle.std.proofs.Common.{[]}
use Rattle.std.proofs.lemmas.List.{append-nil}
use Rattle.std.proofs.lemmas.Result.{err_from_is_err_and}
use Rattle.mt_record.proofs.Feeds.{then_read, nil_if_empty}
use Rattle.mt_record.proofs.feed.Feed.read.Goals as goal

pub returns-in_err-rest-clause-fault : goal.returns-in_err-rest-clause-fault
returns-in_err-rest-clause-fault g c =
    let p = err_from_is_err_and c.from_residual.result c.from_residual.ensures.1 in
    let step = c.in_err-rest.ensures.fault in
    rw (p.1, p.2) (record { shown = step.shown; more = step.more; read = then_read g.I.Items.holds _ _ _ _ _ _ c.held.invariant.read step.read; fault = step.fault })

pub returns-in_err-rest-2-clause-fault : goal.returns-in_err-rest-2-clause-fault
returns-in_err-rest-2-clause-fault g c =
    let p = err_from_is_err_and c.from_residual-in_err-rest-2.result c.from_residual-in_err-rest-2.ensures.1 in
    let none = nil_if_empty c.held.self.held.items _ c.is_empty.result c.held.self.held.ok.0 c.is_empty.ensures c.held-test.false in
    let whole = c.in_err-rest-2.ensures in
    rw (p.1, p.2) (record { shown = whole.0; more = []; read = rw append-nil (then_read g.I.Items.holds _ _ _ _ _ _ (rw none at c.held.invariant.read) whole.1); fault = whole.2 })

pub returns-in_err-append-clause-fault : goal.returns-in_err-append-clause-fault
returns-in_err-append-clause-fault g c =
    let p = err_from_is_err_and c.from_residual-in_err-append.result c.from_residual-in_err-append.ensures.1 in
    let none = nil_if_empty c.held.self.held.items _ c.is_empty.result c.held.self.held.ok.0 c.is_empty.ensures c.held-test.false in
    let whole = c.in_ok-rest-2.ensures in
    let rest = c.in_ok-rest-2.rest.now in
    let refused = g.met.I.Items.refused c.read_whole.new.items rest c.in_err-append.field-0.0 p.0 p.2 in
    rw p.1 (record { shown = rest; more = []; read = rw append-nil (then_read g.I.Items.holds _ _ _ _ _ _ (rw none at c.held.invariant.read) whole.0); fault = refused })

pub returns-clause-ok : goal.returns-clause-ok
returns-clause-ok g c = λ left.
    let none = nil_if_empty c.held.self.held.items _ c.is_empty.result c.held.self.held.ok.0 c.is_empty.ensures c.held-test.false in
    let whole = c.in_ok-rest-2.ensures in
    rw (c.in_ok-append.ensures, none) (then_read g.I.Items.holds _ _ _ _ _ _ (rw none at c.held.invariant.read) whole.0, whole.1)
