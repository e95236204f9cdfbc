use Rattle.std.proofs.Common.{ℕ, [], length, refl, ap, arith}
use Rattle.std.proofs.lemmas.List.{append-nil, length-append}
use Rattle.std.proofs.lemmas.Result.{err_from_is_err_and}
use Rattle.mt_record.proofs.feed.Feed.read_held.Goals as goal

pub returns-in_err-rest-clause-fault : goal.returns-in_err-rest-clause-fault
returns-in_err-rest-clause-fault g c =
    let p = err_from_is_err_and c.from_residual.result c.from_residual.ensures.1 in
    let items = c.args.self.now.items in
    let held = c.args.self.now.held.items in
    rw p.1 (record {
      shown = held;
      more = c.args.piece.now;
      read = record { front = []; joins = refl; read = λ taken front is. rw append-nil is };
      fault = g.met.I.Items.refused items held c.in_err-rest.field-0.0 p.0 p.2;
    })

pub returns-clause-less : goal.returns-clause-less
returns-clause-less g c =
    let top = c.in_ok-rest.ensures in
    omega (arith, ap length top.joins, top.size, c.max-wanted.ensures, c.len.ensures, c.args.self.now.held.ok.0, length-append {A = ℕ})
