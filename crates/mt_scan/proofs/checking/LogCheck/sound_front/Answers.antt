use Rattle.mt_scan.proofs.CheckLemmas.{front_of_check}
use Rattle.mt_scan.proofs.checking.LogCheck.sound_front.Goals as goal

pub returns-clause-front : goal.returns-clause-front
returns-clause-front c limit bytes is = front_of_check limit bytes c.args.self.now is c.in_default.not-Faulty
