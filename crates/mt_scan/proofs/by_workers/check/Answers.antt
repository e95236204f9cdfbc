use Rattle.std.proofs.Common.{refl, subst}
use Rattle.mt_record.specs.LogFeeding.{IsFedBehind}
use Rattle.mt_scan.proofs.Stretched.{fed_behind}
use Rattle.mt_scan.proofs.by_workers.check.Goals as goal

pub returns-in_default : goal.returns-in_default
returns-in_default c = record { same = refl; ahead = λ limit fed h. tt }

pub returns : goal.returns
returns c =
    record {
      same = refl;
      ahead = λ limit fed h. subst (IsFedBehind c.feed.new.self) c.deref.ensures.value (fed_behind c.in-Some.ahead c.feed.new.self c.deref.result.now (c.in-Some.ensures limit fed h) c.feed.ensures.fed);
    }
