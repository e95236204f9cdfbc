use Rattle.std.proofs.Common.{◌≡◌, inl, inr, ℕ, ◌+◌, List, sym, ap, ◌∙◌, subst, arith}
use Rattle.std.proofs.lemmas.Result.{err_from_is_err_and}
use Rattle.mt_words.specs.Changes.{Logged}
use Rattle.mt_words.specs.Built.{mark_of}
use Rattle.mt_writer.specs.Journals.{Keeps, holding}
use Rattle.mt_laws.specs.Writing.{append}
use Rattle.mt_keeper.specs.declared.keeper.Log.{Log}
use Rattle.mt_keeper.specs.contracts.keeper.Keeper.{the_view}
use Rattle.mt_keeper.specs.Keeping.{Keeping, Holds}
use Rattle.mt_keeper.proofs.OneChanged.{reads, put_back}
use Rattle.mt_keeper.proofs.Writes.{writes, holds_more}
use Rattle.mt_keeper.proofs.Refused.{not_written, refused, refused_mark_at}
use Rattle.mt_keeper.proofs.keeper.Keeper.mark.Goals as goal

pub returns-in_default-stage : goal.returns-in_default-stage
returns-in_default-stage c =
    let k = the_view c.self.inside in
    let x = c.in-Some.log.now in record {
      step = λ s holds. tt;
      err = ap (λ (logs : List Log). record k { logs = logs }) (put_back k.logs c.args.log x c.in-Some.ensures.value) ∙ c.self.view_is;
      failed = λ is. absurd (let e = c.in_ok-stamp.ensures.failed is in cc);
      fault = inr (inr (inl (not_written k c.args.self.now c.args.log x c.self.view_is (reads k.logs c.args.log x c.in-Some.ensures.item.3.0 c.in-Some.ensures.value) c.in_default-stage.not-Writing)));
    }

pub returns-in_err-mark-clause-fault : goal.returns-in_err-mark-clause-fault
returns-in_err-mark-clause-fault c =
    let p = err_from_is_err_and c.from_residual-in_err-mark.result c.from_residual-in_err-mark.ensures.1 in
    let k = the_view c.self.inside in
    let x = c.in-Some.log.now in
    rw (p.1, p.2) (inr (inr (inr (refused k c.args.self.now c.args.log x c.in-Writing.writer _ _ c.self.view_is
    (reads k.logs c.args.log x c.in-Some.ensures.item.3.0 c.in-Some.ensures.value) c.in-Writing.is
    (refused_mark_at c.in_ok-stamp.stamp (c.args.self.now.clock + 1) c.in-Writing.writer _ c.in_ok-stamp.ensures.ok.0 c.in_err-mark.ensures.fault)))))

pub returns-clause-step : goal.returns-clause-step
returns-clause-step c = λ s holds.
    let k = the_view c.self.inside in
    let here = subst (λ (x : Keeping). Holds x s) (sym c.self.view_is) holds in
    let x = c.in-Some.log.now in
    let w = c.in-Writing.writer in
    let later = c.mark.new.self in
    let stamp = c.args.self.now.clock + 1 in
    let is : c.in_ok-stamp.stamp ≡ stamp = c.in_ok-stamp.ensures.ok.0 in
    let same : stamp ≡ k.clock + 1 = ap (λ (y : Keeping). y.clock + 1) (sym c.self.view_is) in
    let r : Logged = mark_of stamp in
    writes k s c.args.log x w later k.clock s.clock (λ j. holding j r) here (reads k.logs c.args.log x c.in-Some.ensures.item.3.0 c.in-Some.ensures.value) c.in-Writing.is
    (omega arith) here.clock
    (λ j keeps failed last.
    let time : c.in_ok-mark.field-0 ≡ stamp = omega (arith, c.in_ok-mark.ensures.time, last, is, same) in
    holds_more k.clock w later j r failed c.in_ok-mark.ensures.same (omega (arith, same)) (subst (λ (t : ℕ). Keeps later (holding j (mark_of t))) time (c.in_ok-mark.ensures.ok j keeps)))
    (λ front back j keeps kept. append s front back later j r kept tt)
