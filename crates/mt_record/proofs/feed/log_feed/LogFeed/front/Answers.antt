use Rattle.std.proofs.Common.{◌≡◌, ◌++◌, ◌∙◌, Some, sym, ap, subst, rules}
use Rattle.std.proofs.lemmas.Result.{err_from_is_err_and}
use Rattle.mt_record.specs.declared.read.FeedFault.{FeedFault}
use Rattle.mt_record.specs.declared.read.FeedFault.TheVariants as faults
use Rattle.mt_record.specs.declared.front.Rest.{Rest}
use Rattle.mt_record.specs.declared.front.Rest.TheVariants.{Nothing, Torn, Faulty}
use Rattle.mt_record.specs.LogFaults.{IsLogFault}
use Rattle.mt_record.specs.LogFronts.{IsFrontOf}
use Rattle.mt_record.specs.LogFeeding.{fed_log}
use Rattle.mt_record.proofs.FileFeeds.{fed_shows, shown_fault, front_nothing, front_cut, front_fault, fault_begun, no_front, no_header_fed}
use Rattle.mt_record.proofs.feed.log_feed.LogFeed.front.Goals as goal
use Rattle.mt_record.proofs.feed.log_feed.LogFeed.front.Goals.{in-Some-Record, in-None, in-None-2}

pub returns-in-Some : goal.returns-in-Some
returns-in-Some g c = record {
  front = λ bytes taken fed. tt;
  fault = λ bytes taken fed other.
      let fault = c.in-Some.fault in
      shown_fault fault bytes (fed_shows (fed_log g.R.Records.listed c.self.inside.file) fault bytes taken (rw (← c.self.view_is) at fed) (sym c.fault.ensures ∙ c.in-Some.is) other);
  sound = λ what none. tt;
}

pub returns-in_err-front-clause-fault : goal.returns-in_err-front-clause-fault
returns-in_err-front-clause-fault g c bytes taken fed =
    let file = fed_log g.R.Records.listed c.self.inside.file in
    let is = rw (← c.self.view_is) at fed in
    let p = err_from_is_err_and c.from_residual.result c.from_residual.ensures.1 in
    let none = no_front file.so_far.front c.ok_or.result c.in_err-front.field-0.0 c.ok_or.ensures.value c.in_err-front.was in
    rw (p.1, p.2) (λ other. subst (IsLogFault bytes) (sym none.1) (elim c.match-fault.branch as (λ _. IsLogFault bytes faults.Header) [
      | in-Some-Record w ↦
          let it = w.in-Some-Record in
          let same : it.field-0 ≡ faults.Record it.field-0-0 it.what = it.field-0-is in
          absurd (fault_begun file bytes taken it.field-0-0 it.what is none.0 (sym c.fault.ensures ∙ it.is ∙ ap (λ (f : FeedFault). Some f) same))
      | in-None w ↦ no_header_fed file bytes taken is none.0 (sym c.fault.ensures ∙ w.in-None.is)
      | in-None-2 w ↦ no_header_fed file bytes taken is none.0 (sym c.fault.ensures ∙ w.in-None.is)
    ]))

pub returns-clause-front : goal.returns-clause-front
returns-clause-front g c bytes taken fed =
    let file = fed_log g.R.Records.listed c.self.inside.file in
    let front = c.in_ok-front.front in
    let is = rw (← c.self.view_is) at fed in
    let some : file.so_far.front ≡ Some front = search rules in
    let ends : (rest : Rest) → c.match-fault.rest ≡ rest → IsFrontOf bytes (taken ++ file.so_far.ready) (record front { rest = rest }) → IsFrontOf bytes (taken ++ file.so_far.ready) (record front { rest = c.match-fault.rest }) =
    λ rest same it. rw same it in
    rw (← c.self.view_is) (elim c.match-fault.branch [
      | in-Some-Record w ↦
          let it = w.in-Some-Record in
          let same : it.field-0 ≡ faults.Record it.field-0-0 it.what = it.field-0-is in
          ends (Faulty it.what) w.rest-is (front_fault file bytes taken front is some it.field-0-0 it.what (sym c.fault.ensures ∙ it.is ∙ ap (λ (f : FeedFault). Some f) same))
      | in-None w ↦ ends Nothing w.rest-is (front_nothing file bytes taken front is some (sym c.fault.ensures ∙ w.in-None.is) (rw w.if-is_all_read.true at w.is_all_read.ensures))
      | in-None-2 w ↦ ends Torn w.rest-is (front_cut file bytes taken front is some (sym c.fault.ensures ∙ w.in-None.is) (rw w.if-is_all_read.false at w.is_all_read.ensures))
    ])
