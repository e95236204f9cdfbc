-- The handle of no value owns nothing. Assumes `Logic`.
use Rattle.std.proofs.Common.{◌≡◌, [], ◌∷◌, None, refl}
use base.Logic.{emp}
use base.Fml.{ftrue}
use contract.Monad.{fact, fact_i}
use types.Kit.{‵, raw, ◌⊛◌, ◌$◌, ◌∵◌, !, qed, by, keep, use0, split, fjoin}
use types.Part.{agg}
use types.Run.{lit, no_more, and_then, returns, enter}
use types.ByLocal.{alloc_all, pass_all, free_all, look_at, sets}
use denote.RattleType.{owns}
use denote.RawPtr.{null_ptr}
use denote.Signature.{types_at}
use denote.Steps.{nothing}
use denote.Triple.Entry.{alive}
use Rattle.std.proofs.raw_atomic.Walks.{proved, leaves}
use Rattle.mt_c.proofs.Pointers.{word, word_good, field_owns, field_made}
use Rattle.mt_c.specs.contracts.place.Handle as handle
use Rattle.mt_c.specs.contracts.place.Handle.empty as f
use Rattle.mt_c.proofs.place.Handle.empty.Statement.{statement}
use Rattle.mt_c.proofs.place.Handle.empty.Code as code

pub empty_spec : {M : Type 1} → statement M
empty_spec 𝓤 𝓛 𝓜 𝓡 wired =
    let c = f.clauses 𝓛 𝓜.mem 𝓡.returns in
    proved 𝓛 f.ended tt c 𝓜 𝓡 tt f.Key.name code.function (code.unfolded 𝓤 𝓛.H 𝓜 𝓡 wired) (λ κs. tt) (λ κs. tt) (λ κs qs bounds a n are.
    let x : (handle.the_row).Denot = record { at = null_ptr; value = None } in
    qed 𝓛 ((raw (alive 𝓛 f.signature κs qs) ⊛ ‵ (owns (types_at f.signature.params κs) a tt)) ∷ ‵ ftrue ∷ []) ∵ split ! $
    enter ! _ _ _ _ _ $ alloc_all ! (λ l. pass_all ! refl tt $
    sets ! (agg ! (and_then ! (lit ! tt) (no_more !))) refl (word_good null_ptr) $
    returns ! (look_at ! 0 refl) $ free_all ! refl $
    -- [nothing, for the parameters; the tokens; nothing]
    nothing ! $ use0 𝓛 (‵ (field_owns null_ptr)) (field_made 𝓛 null_ptr) $ fjoin ! $
    use0 𝓛 (raw (fact 𝓤 (x.value ≡ None))) (fact_i 𝓤 (x.value ≡ None) (emp 𝓤) refl) $
    keep ! (2 ∷ 3 ∷ 1 ∷ 0 ∷ []) $ by ! (leaves 𝓛 f.ended tt c ((κs, qs, bounds, a, tt), n) (word null_ptr) x tt tt)))
