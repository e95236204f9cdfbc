-- Structs of one pointer, as the machine has them. Assumes `Logic`.
use Rattle.std.proofs.Common.{◌≡◌, List, [], ◌∷◌, Option, Some, None, refl, sym, true≢false, lit<}
use Rattle.std.specs.Prelude.{IsSome}
use seplogic.Ra.Ura.{Ura}
use mir.Syntax.{ty_ptr, ty_struct, tnil, tcons}
use mir.Val.{Val, vstruct, vcons, vnil}
use base.Logic.{ent, emp}
use base.Fml.{Fml}
use types.Logic.{Logic, sem}
use types.Kit.{◌$◌, ◌∵◌, !, qed, fjoin, fpack, feq_i, done}
use denote.Builtin.{RawPtr}
use denote.RattleType.{Valss}
use denote.RawPtr.{Ptr, block_ptr, null_ptr, ptr_val}
use denote.Steps.{nothing}
use denote.Struct.Owning.{shape}
use denote.Struct.Struct.{Struct, within}
use Rattle.core.proofs.cell.Inside.{Good}
use Rattle.mt_c.specs.contracts.place.Handle as handle

-- a struct of this pointer
abbrev pub word : Ptr → Val
word p = vstruct (vcons (ptr_val p) vnil)

-- what its field owns, which is nothing
abbrev pub field_owns : Ptr → Fml
field_owns p = (Struct (shape handle.the_type)).own_val (p, tt) (word p ∷ [])

pub pointer_good : (p : Ptr) → Good ty_ptr (ptr_val p)
pointer_good (block_ptr b o) = (tt, tt)
pointer_good null_ptr = (tt, record { fits = lit< tt })

pub word_good : (p : Ptr) → Good (ty_struct [] (tcons ty_ptr tnil)) (word p)
word_good (block_ptr b o) = (tt, (tt, tt))
word_good null_ptr = (tt, (record { fits = lit< tt }, tt))

pub field_made : {M : Type 1} {𝓤 : Ura M} (𝓛 : Logic 𝓤) (p : Ptr) → ent 𝓤 (emp 𝓤) (sem 𝓛 (field_owns p))
field_made 𝓛 p =
    qed 𝓛 [] ∵ nothing ! $ feq_i ! (List Val) (ptr_val p ∷ []) (ptr_val p ∷ []) refl $ fjoin ! $
    feq_i ! (List Val) (word p ∷ []) (word p ∷ []) refl $ fjoin ! $
    fpack ! (Valss (RawPtr ∷ [])) (within (shape handle.the_type) (p, tt) (word p ∷ [])) (ptr_val p ∷ [], tt) $ done !

pub value_in : {X : Type 0} (value : Option X) → IsSome value → (x : X) × (value ≡ Some x)
value_in (Some x) some = (x, refl)
value_in None some = absurd (true≢false (sym some))
