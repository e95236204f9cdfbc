use Rattle.std.proofs.lemmas.Result.{IfOk-weaker, IfErr-weaker}
use Rattle.mt_recover.proofs.checking.front_of.Goals as goal

pub returns-in-Ok : goal.returns-in-Ok
returns-in-Ok c limit seen checked =
    let own = rw c.in-Ok.is at checked.check in
    record {
      front = IfOk-weaker c.sound_front.result _ _ (λ front is. (own.0, own.1, is)) (c.sound_front.ensures.front limit own.0 own.2);
      fault = IfErr-weaker c.sound_front.result _ _ (λ fault is. (own.0, own.1, is)) (c.sound_front.ensures.fault limit own.0 own.2);
      steady = λ _. c.sound_front.ensures.no_source;
    }
