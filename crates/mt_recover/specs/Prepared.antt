-- What is prepared before replay, and what is made of it.
use Rattle.std.specs.Prelude.{◌≡◌, ℕ, List, length, IsPermutation}
use Rattle.mt_words.specs.declared.update.Update.{Update}
use Rattle.mt_words.specs.Walks.{Pair}
use Rattle.mt_replay.specs.Walk.{IsWalk}
use Rattle.mt_tree.specs.Layers.{CountsLayers}
use Rattle.mt_recover.specs.declared.report.Report.{Report}
use Rattle.mt_recover.specs.Recovery.{Basis, records_of, survivors}
use Rattle.mt_recover.specs.Report.{IsReportOf, Outcome}

-- what is prepared: the surviving updates in any order, the cuts that divide them into pieces, and the report without the keys and layers of the store
pub record PreparedView : Type 0 where
  pub updates : List Update
  pub cuts : List (List ℕ)
  pub report : Report

-- the report of what is prepared, for a store with these numbers of keys and layers
abbrev pub reported : PreparedView → ℕ → ℕ → Report
reported prepared keys layers = record prepared.report { keys = keys; layers = layers }

-- This was prepared from these logs and parts. Its updates are the survivors, in some order. For any pairs, with their layers counted, the report made
-- from it is the report of these facts and pairs.
pub record IsPreparedOf (logs parts : List (List ℕ)) (prepared : PreparedView) : Type 0 where
  pub basis : Basis logs parts
  pub updates : IsPermutation (survivors basis.facts.cutoff basis.facts.chosen (records_of basis.facts.readings)) prepared.updates
  pub report : (pairs : List Pair) (layers : ℕ) → CountsLayers pairs layers → IsReportOf basis.facts pairs (reported prepared (length pairs) layers)

-- the outcome made of what was prepared: the store is the walk of its updates, and the report counts that store
pub record IsMadeOf (prepared : PreparedView) (outcome : Outcome) : Type 0 where
  pub walk : IsWalk prepared.updates outcome.store
  pub layers : CountsLayers outcome.store outcome.report.layers
  pub report : outcome.report ≡ reported prepared (length outcome.store) outcome.report.layers
