use Rattle.mt_replay.proofs.AuditorLemmas.{pieces_are_audit}
use Rattle.mt_replay.proofs.laws.pieces_make_the_audit.Goals as goal

pub returns : goal.returns
returns c = pieces_are_audit
