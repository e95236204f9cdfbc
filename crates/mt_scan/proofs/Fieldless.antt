-- A struct without fields, as the machine represents it. Assumes `Logic`.
use Rattle.std.proofs.Common.{List, [], ◌∷◌, refl}
use seplogic.Ra.Ura.{Ura}
use mir.Val.{Val, vstruct, vnil}
use types.Logic.{Logic}
use types.Kit.{Goal, Step, step, Item, ‵, ◌$◌}
use denote.Laws.{Is}
use denote.RattleType.{RattleType}
use denote.Steps.{owned}
use denote.Struct.Struct.{Struct, Struct-Makes}

abbrev pub fieldless : RattleType
fieldless = Struct (record { name = []; args = []; types = []; fields = [] })

abbrev pub none : Val
none = vstruct vnil

module _ {M : Type 1} {𝓤 : Ura M} {𝓛 : Logic 𝓤} {K : Type 0} {Γ : List (Item 𝓤)} {G : Goal 𝓤 𝓛.H} where
  -- a value of it is made of nothing
  pub none_made : K → Step K 𝓛 (‵ (fieldless.own_val tt (none ∷ [])) ∷ Γ) G Γ G
  none_made t = step (λ s. owned t fieldless (Is fieldless) (Struct-Makes 𝓛 (record { name = []; args = []; types = []; fields = [] }) tt) tt (none ∷ []) (tt, (refl, tt)) $ s)
