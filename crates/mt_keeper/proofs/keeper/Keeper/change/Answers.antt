use Rattle.std.proofs.Common.{◌≡◌, inl, inr, ℕ, ◌+◌, List, refl, sym, ap, ◌∙◌, subst, arith}
use Rattle.std.proofs.lemmas.Result.{err_from_is_err_and}
use Rattle.mt_words.specs.declared.record.Change.{Change}
use Rattle.mt_words.specs.Changes.{Logged, changed}
use Rattle.mt_record.specs.Given.{kind_of}
use Rattle.mt_writer.specs.Journals.{Keeps, holding}
use Rattle.mt_laws.specs.Writing.{append}
use Rattle.mt_keeper.specs.declared.keeper.Log.{Log}
use Rattle.mt_keeper.specs.contracts.keeper.Keeper.{the_view}
use Rattle.mt_keeper.specs.Keeping.{Keeping, Holds}
use Rattle.mt_keeper.proofs.OneChanged.{reads, put_back}
use Rattle.mt_keeper.proofs.Writes.{writes, holds_more}
use Rattle.mt_keeper.proofs.Refused.{not_written, refused, refused_at}
use Rattle.mt_keeper.proofs.keeper.Keeper.change.Goals as goal

pub returns-in_default-stage : goal.returns-in_default-stage
returns-in_default-stage c =
    let k = the_view c.self.inside in
    let x = c.in-Some.log.now in record {
      step = λ s holds. tt;
      stamp = tt;
      err = ap (λ (logs : List Log). record k { logs = logs }) (put_back k.logs c.args.log x c.in-Some.ensures.value) ∙ c.self.view_is;
      failed = λ is. absurd (let e = c.in_ok-version.ensures.failed is in cc);
      fault = inr (inr (inl (not_written k c.args.self.now c.args.log x c.self.view_is (reads k.logs c.args.log x c.in-Some.ensures.item.3.0 c.in-Some.ensures.value) c.in_default-stage.not-Writing)));
    }

pub returns-in_err-change-clause-fault : goal.returns-in_err-change-clause-fault
returns-in_err-change-clause-fault c =
    let p = err_from_is_err_and c.from_residual-in_err-change.result c.from_residual-in_err-change.ensures.1 in
    let k = the_view c.self.inside in
    let x = c.in-Some.log.now in
    rw (p.1, p.2) (inr (inr (inr (refused k c.args.self.now c.args.log x c.in-Writing.writer _ _ c.self.view_is
    (reads k.logs c.args.log x c.in-Some.ensures.item.3.0 c.in-Some.ensures.value) c.in-Writing.is
    (refused_at c.in_ok-version.version (c.args.self.now.clock + 1) (λ v. record { version = v; key = c.args.key.now; kind = kind_of c.args.kind }) c.in-Writing.writer _
    c.in_ok-version.ensures.ok.0 c.in_err-change.ensures.fault)))))

pub returns-clause-step : goal.returns-clause-step
returns-clause-step c = λ s holds.
    let k = the_view c.self.inside in
    let here = subst (λ (x : Keeping). Holds x s) (sym c.self.view_is) holds in
    let x = c.in-Some.log.now in
    let w = c.in-Writing.writer in
    let later = c.change.new.self in
    let version = c.in_ok-version.version in
    let is : version ≡ k.clock + 1 = c.in_ok-version.ensures.ok.0 ∙ ap (λ (y : Keeping). y.clock + 1) (sym c.self.view_is) in
    let change : Change = record { version = version; key = c.args.key.now; kind = kind_of c.args.kind } in
    let r : Logged = changed version change in
    writes k s c.args.log x w later version version (λ j. holding j r) here (reads k.logs c.args.log x c.in-Some.ensures.item.3.0 c.in-Some.ensures.value) c.in-Writing.is
    (omega (arith, is)) refl
    (λ j keeps failed last.
    let time : c.in_ok-change.field-0 ≡ version = omega (arith, c.in_ok-change.ensures.time, last, is) in
    holds_more version w later j r failed c.in_ok-change.ensures.same (omega arith) (subst (λ (t : ℕ). Keeps later (holding j (changed t change))) time (c.in_ok-change.ensures.ok j keeps)))
    (λ front back j keeps kept. append s front back later j r kept (refl, omega (arith, here.clock, is)))
