-- What contracts see of a stored place. `below` is the walk of what it links to.
use Rattle.std.specs.Prelude.{ℕ, List, [], map}
use Rattle.std.specs.List.{flat_map}
use Rattle.mt_tree.specs.Layer.{PlaceView, short, long, link}
use Rattle.mt_words.specs.Walks.{Pair}
use Rattle.mt_tree.specs.declared.place.Place.{Place}
use Rattle.mt_tree.specs.declared.place.Content.{Content}
use Rattle.mt_tree.specs.declared.place.Content.TheVariants.{Short, Suffix, Link}

abbrev pub view_of_content : {L : Type 0} → (L → List Pair) → ℕ → Content L → PlaceView
view_of_content below slice (Short len columns) = short slice len columns
view_of_content below slice (Suffix suffix columns) = long slice suffix.items columns
view_of_content below slice (Link linked) = link slice (below linked)

abbrev pub view_of : {L : Type 0} → (L → List Pair) → Place L → PlaceView
view_of below place = view_of_content below place.slice place.content

abbrev pub views : {L : Type 0} → (L → List Pair) → List (Place L) → List PlaceView
views below = map (view_of below)

-- what `each` takes from the linked layer, if this is a link
abbrev pub below_link : {L X : Type 0} → (L → List X) → Content L → List X
below_link each (Short len columns) = []
below_link each (Suffix suffix columns) = []
below_link each (Link linked) = each linked

-- what `each` takes from each layer that these places link to, in order
abbrev pub below_links : {L X : Type 0} → (L → List X) → List (Place L) → List X
below_links each = flat_map (λ place. below_link each place.content)
