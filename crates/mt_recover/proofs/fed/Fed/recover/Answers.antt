use Rattle.std.proofs.Common.{map, sym, subst}
use Rattle.std.proofs.lemmas.Result.{on_ok_weaker}
use Rattle.mt_record.proofs.Feeds.{nil_if_empty, some_if_not}
use Rattle.mt_recover.specs.Fed.{AreFed, seen_fed}
use Rattle.mt_recover.specs.Report.{IsRecoveredOf}
use Rattle.mt_recover.proofs.FedLemmas.{no_logs_fed, outcomes_fed, whole_fed}
use Rattle.mt_recover.proofs.SourceLemmas.{answer_seen}
use Rattle.mt_recover.proofs.fed.Fed.recover.Goals as goal

pub returns-then-is_empty-clause-recovery : goal.returns-then-is_empty-clause-recovery
returns-then-is_empty-clause-recovery c = λ logs parts fed.
    let held = c.self.inside.outcomes in
    no_logs_fed logs parts (record { logs = held.logs.items; parts = held.parts.items }) (nil_if_empty held.logs.items _ c.is_empty.result held.logs.ok.0 c.is_empty.ensures c.if-is_empty.true) (subst (AreFed logs parts) (sym c.self.view_is) fed)

pub recover_scanned-requires : goal.recover_scanned-requires
recover_scanned-requires c =
    let held = c.self.inside.outcomes in
    let was = c.self.invariant in
    (map seen_fed was.0, map seen_fed was.1, outcomes_fed was.0 was.1 held (some_if_not held.logs.items _ c.is_empty.result held.logs.ok.0 c.is_empty.ensures c.if-is_empty.false) was.2)

pub returns-clause-recovery : goal.returns-clause-recovery
returns-clause-recovery c = λ logs parts fed.
    let held = c.self.inside.outcomes in
    answer_seen seen_fed logs parts IsRecoveredOf c.recover_scanned.result (c.recover_scanned.ensures.recovery (map seen_fed logs) (map seen_fed parts)
    (outcomes_fed logs parts held (some_if_not held.logs.items _ c.is_empty.result held.logs.ok.0 c.is_empty.ensures c.if-is_empty.false) (subst (AreFed logs parts) (sym c.self.view_is) fed)))

pub returns-clause-whole : goal.returns-clause-whole
returns-clause-whole c = λ logs parts fed.
    on_ok_weaker c.recover_scanned.result (λ ok. whole_fed logs parts c.self.inside.outcomes ok (subst (AreFed logs parts) (sym c.self.view_is) fed)) c.recover_scanned.ensures.whole
