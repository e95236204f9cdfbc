use Rattle.std.proofs.Common.{[], ◌++◌, sym, subst, arith}
use Rattle.mt_record.specs.LogFeeding.{FedLog, IsLogFed}
use Rattle.mt_c.proofs.feeds.FedLog.feed.Goals as goal
use Rattle.mt_c.proofs.feeds.FedLog.feed.Goals.{in-Ok, in-Err-Memory, in-Err-Header, in-Err-Record}

pub invariant_of-self : goal.invariant_of-self
invariant_of-self c = let was = c.self.invariant in (was.0 ++ c.args.chunk.now, c.feed.ensures.fed was.0 [] was.1)

pub returns-clause-fed : goal.returns-clause-fed
returns-clause-fed c = λ bytes fed. c.feed.ensures.fed bytes [] (subst (λ (feed : FedLog). IsLogFed feed bytes []) (sym c.self.view_is) fed)

pub returns-clause-judged : goal.returns-clause-judged
returns-clause-judged c = λ bytes fed.
    let was = subst (λ (feed : FedLog). IsLogFed feed bytes []) (sym c.self.view_is) fed in
    elim c.match-feed.branch [
      | in-Ok w ↦ record { sound = λ done. w.in-Ok.ensures.ok bytes [] was; faulty = λ is. absurd (omega (arith, is, w.result-is)) }
      | in-Err-Memory w ↦ record { sound = λ done. absurd (omega (arith, done, w.result-is)); faulty = λ is. absurd (omega (arith, is, w.result-is)) }
      | in-Err-Header w ↦ record { sound = λ done. absurd (omega (arith, done, w.result-is)); faulty = λ is. (w.in-Err-Header.field-0, w.in-Err-Header.ensures.fault bytes [] was (λ same. let kind = w.in-Err-Header.field-0-is in cc)) }
      | in-Err-Record w ↦ record { sound = λ done. absurd (omega (arith, done, w.result-is)); faulty = λ is. (w.in-Err-Record.field-0, w.in-Err-Record.ensures.fault bytes [] was (λ same. let kind = w.in-Err-Record.field-0-is in cc)) }
    ]
