-- What an audit of logs and checkpoint parts finds.
use Rattle.std.specs.Prelude.{ℕ, List}
use Rattle.mt_replay.specs.Survivors.{log_survivors}
use Rattle.mt_replay.specs.Clashes.{Clash, AreClashes}
use Rattle.mt_recover.specs.Recovery.{Basis, records_of, begin_of}

-- the audit of logs and parts: these are the clashes of the log updates that survive
pub record IsAuditOf (logs parts : List (List ℕ)) (clashes : List Clash) : Type 0 where
  pub basis : Basis logs parts
  pub exact : AreClashes (log_survivors (record { begin = begin_of basis.facts.chosen; cutoff = basis.facts.cutoff }) (records_of basis.facts.readings)) clashes
