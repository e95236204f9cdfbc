-- What becomes of a place whose value is lent.
use Rattle.std.specs.Prelude.{◌≡◌, true, refl, ⊤, Option, Some, IsSome}
use mathlib.Core.Option.{none}
use Rattle.std.specs.Borrow.{Lends, LendsIf, LendsSo, MutBor, Fml, follows_so}
use Rattle.mt_c.specs.Borrowing.{BorrowerView}
use Rattle.mt_c.specs.contracts.borrower.Borrower as borrower
use Rattle.mt_c.specs.declared.held.Held.{Held}
use Rattle.mt_c.specs.declared.held.Held.TheVariants as held
use Rattle.mt_c.specs.contracts.held.Held.{the_row}
use Rattle.mt_c.specs.declared.place.Handle.{Handle}
use Rattle.mt_c.specs.contracts.place.Handle as handle
use Rattle.mt_c.specs.declared.place.Place.{Place}
use Rattle.mt_c.specs.contracts.place.Place as place

-- once the borrow r ends, the handle behind h has its last value
abbrev pub HandleLends : MutBor Handle → MutBor Held → Fml
HandleLends h r = Lends handle.the_row the_row h r (λ w. record h.now { value = Some w })

-- the place with this value
abbrev pub with_held : Place → Held → Place
with_held p w = record { handle = record p.handle { value = Some w }; full = true; tied = ((λ is. refl), (λ is. refl)) }

-- once the borrow r ends, the place behind p has its last value
abbrev pub PlaceLends : MutBor Place → Option (MutBor Held) → Fml
PlaceLends p r = LendsIf place.the_row the_row p r (with_held p.now) p.now

-- once the borrow r ends, the place behind p holds the borrower with its last value
abbrev pub BorrowerLends : MutBor Place → Option (MutBor BorrowerView) → Fml
BorrowerLends p r = LendsSo place.the_row borrower.the_row p r (λ n w. IsSome r → n.handle.value ≡ Some (held.Borrower w)) (λ n. n.handle.value ≡ p.now.handle.value)

-- the place behind p stays as it is
abbrev pub PlaceStays : MutBor Place → Fml
PlaceStays p = follows_so place.the_row place.the_row p.ghost_name none (λ _ _. ⊤) (λ n. n.handle.value ≡ p.now.handle.value)
