-- Logs and parts to recover from, as they were added.
use Rattle.std.specs.Prelude.{Option, Some, None, List, [], ◌∷◌, ◌++◌}
use Rattle.std.specs.List.{AllZip}
use Rattle.mt_record.specs.LogFeeding.{FedLog, IsLogFed}
use Rattle.mt_record.specs.PartFeeding.{FedPart, IsPartFed}
use Rattle.mt_recover.specs.Fed.{Input}

-- what contracts see of inputs: the logs and the parts, each fed or failed
pub record Added : Type 0 where
  pub logs : List (Option FedLog)
  pub parts : List (Option FedPart)

-- none yet
abbrev pub none_added : Added
none_added = record { logs = []; parts = [] }

-- one log more, and one part more
abbrev pub with_log : Option FedLog → Added → Added
with_log log added = record added { logs = added.logs ++ log ∷ [] }

abbrev pub with_part : Option FedPart → Added → Added
with_part part added = record added { parts = added.parts ++ part ∷ [] }

-- the log has had these bytes so far, or its device failed
abbrev pub IsLog : Input → Option FedLog → Type 0
IsLog (Some bytes) (Some feed) = IsLogFed feed bytes []
IsLog None None = Unit {0}
IsLog log fed = ⊥

-- the part has had these bytes so far, or its device failed
abbrev pub IsPart : Input → Option FedPart → Type 0
IsPart (Some bytes) (Some feed) = IsPartFed feed bytes
IsPart None None = Unit {0}
IsPart part fed = ⊥

-- these logs and parts were added, in this order
abbrev pub AreAdded : List Input → List Input → Added → Type 0
AreAdded logs parts added = AllZip IsLog logs added.logs × AllZip IsPart parts added.parts
