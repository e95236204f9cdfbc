-- Lists of updates that are made longer.
use Rattle.std.specs.Prelude.{List, [], ◌∷◌, ◌++◌}
use Rattle.mt_words.specs.declared.update.Update.{Update}

-- each list, and then the list at its place among the others, if there is one
abbrev pub extended : List (List Update) → List (List Update) → List (List Update)
extended lists [] = lists
extended [] (other ∷ others) = []
extended (list ∷ lists) (other ∷ others) = (list ++ other) ∷ extended lists others
