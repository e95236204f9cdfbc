use Rattle.std.proofs.Common.{map, sym, subst}
use Rattle.std.proofs.lemmas.Result.{on_ok_weaker}
use Rattle.mt_record.proofs.Feeds.{nil_if_empty, some_if_not}
use Rattle.mt_recover.specs.Fed.{AreFed, seen_fed}
use Rattle.mt_recover.specs.Tasks.{IsDividingOf}
use Rattle.mt_recover.proofs.FedLemmas.{no_logs_fed, outcomes_fed, whole_fed}
use Rattle.mt_recover.proofs.SourceLemmas.{answer_seen}
use Rattle.mt_recover.proofs.fed.Fed.divide.Goals as goal

pub returns-then-is_empty-clause-divided : goal.returns-then-is_empty-clause-divided
returns-then-is_empty-clause-divided c = λ logs parts fed.
    let held = c.self.inside.outcomes in
    let none = no_logs_fed logs parts (record { logs = held.logs.items; parts = held.parts.items }) (nil_if_empty held.logs.items _ c.is_empty.result held.logs.ok.0 c.is_empty.ensures c.if-is_empty.true) (subst (AreFed logs parts) (sym c.self.view_is) fed) in
    record { value = tt; fault = none.fault }

pub divide_scanned-requires : goal.divide_scanned-requires
divide_scanned-requires c =
    let held = c.self.inside.outcomes in
    let was = c.self.invariant in
    (map seen_fed was.0, map seen_fed was.1, outcomes_fed was.0 was.1 held (some_if_not held.logs.items _ c.is_empty.result held.logs.ok.0 c.is_empty.ensures c.if-is_empty.false) was.2)

pub returns-clause-divided : goal.returns-clause-divided
returns-clause-divided c = λ logs parts fed.
    let held = c.self.inside.outcomes in
    answer_seen seen_fed logs parts (λ ls ps made. IsDividingOf ls ps made.0) c.divide_scanned.result (c.divide_scanned.ensures.divided (map seen_fed logs) (map seen_fed parts)
    (outcomes_fed logs parts held (some_if_not held.logs.items _ c.is_empty.result held.logs.ok.0 c.is_empty.ensures c.if-is_empty.false) (subst (AreFed logs parts) (sym c.self.view_is) fed)))

pub returns-clause-whole : goal.returns-clause-whole
returns-clause-whole c = λ logs parts fed.
    on_ok_weaker c.divide_scanned.result (λ ok. whole_fed logs parts c.self.inside.outcomes ok (subst (AreFed logs parts) (sym c.self.view_is) fed)) c.divide_scanned.ensures.whole
