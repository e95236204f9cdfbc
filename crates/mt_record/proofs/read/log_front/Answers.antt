use Rattle.std.proofs.Common.{◌≡◌, ◌≤◌, ◌++◌, List, ℕ, length, take, refl, sym, subst, arith}
use Rattle.std.proofs.lemmas.List.{take_all}
use Rattle.std.proofs.lemmas.Grind.{common_steps}
use Rattle.std.proofs.lemmas.Result.{err_from_is_err_and}
use Rattle.mt_record.specs.Answered.{IsAnswered}
use Rattle.mt_record.specs.LogFeeding.{IsLogFed}
use Rattle.mt_record.specs.LogFronts.{IsFrontOf}
use Rattle.mt_record.proofs.LogFeeds.{chunk_read}
use Rattle.mt_record.proofs.read.log_front.Goals as goal

pub loop-read-preserved : goal.loop-read-preserved
loop-read-preserved c =
    let bytes = c.args.bytes.now in
    let I = c.loop-read.invariant in
    let end = c.min-end.result in
    let within : end ≤ length bytes = grind (arith, common_steps, c.min-end.ensures) in
    let le : c.loop-read.read ≤ end = grind (arith, common_steps, c.min-end.ensures, c.saturating_add.ensures, I.within) in
    record {
      within = within;
      taken = I.taken ++ c.feed.new.self.so_far.ready;
      fed = c.drop_kept.ensures.fed (take end bytes) I.taken
          (subst (λ (b : List ℕ). IsLogFed c.feed.new.self b I.taken) (sym (chunk_read bytes _ c.loop-read.read end le within refl)) (c.feed.ensures.fed (take c.loop-read.read bytes) I.taken I.fed));
    }

pub returns-clause-front : goal.returns-clause-front
returns-clause-front c =
    let bytes = c.args.bytes.now in
    let I = c.loop-read.invariant in
    let records = I.taken ++ c.loop-read.feed.so_far.ready in
    let all : take c.loop-read.read bytes ≡ bytes = take_all c.loop-read.read bytes (omega (arith, c.loop-read-test.false)) in
    (records, subst (λ (b : List ℕ). IsFrontOf b records c.in_ok-front.front) all (c.in_ok-front.ensures.front (take c.loop-read.read bytes) I.taken I.fed))

pub returns-in_err-front-clause-fault : goal.returns-in_err-front-clause-fault
returns-in_err-front-clause-fault c =
    let bytes = c.args.bytes.now in
    let I = c.loop-read.invariant in
    let all : take c.loop-read.read bytes ≡ bytes = take_all c.loop-read.read bytes (omega (arith, c.loop-read-test.false)) in
    let p = err_from_is_err_and c.from_residual.result c.from_residual.ensures.1 in
    rw (p.1, p.2) (subst (λ (b : List ℕ). IsAnswered b c.in_err-front.field-0.0) all (c.in_err-front.ensures.fault (take c.loop-read.read bytes) I.taken I.fed))
