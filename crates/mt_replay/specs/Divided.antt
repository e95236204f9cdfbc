-- The surviving updates, divided by their keys into pieces.
use Rattle.std.specs.Prelude.{◌≡◌, ℕ, List}
use Rattle.mt_words.specs.declared.update.Update.{Update}
use Rattle.mt_replay.specs.Ranges.{dealt_by}

-- updates, and the cuts that divide them into pieces
pub record DividedView : Type 0 where
  pub updates : List Update
  pub cuts : List (List ℕ)

-- some updates were dealt to these ranges
pub record AreRangesOf (cuts : List (List ℕ)) (ranges : List (List Update)) : Type 0 where
  pub updates : List Update
  pub dealt : ranges ≡ dealt_by cuts updates
