-- The pointer of a box owns what a handle with a value owns. Assumes `Logic`.
use Rattle.std.proofs.Common.{◌≡◌, List, [], ◌∷◌, Option, Some, refl}
use Rattle.std.specs.Prelude.{IsSome}
use mir.Val.{Val}
use base.Logic.{id⊢, emp}
use contract.Monad.{fact, fact_i}
use types.Kit.{‵, raw, ◌⊛◌, ◌$◌, ◌∵◌, !, qed, by, move, keep, use0, use1, split, fsplit, fjoin, rewrite}
use types.Part.{whole, sub, agg}
use types.Run.{stop, fld, of_opd, no_more, and_then, returns, enter}
use types.ByLocal.{alloc_all, pass_all, free_all, look_at, get, get_in, sets}
use denote.Exit.{yes}
use denote.RattleType.{RattleType, owns}
use denote.Signature.{types_at, plain}
use denote.Steps.{nothing, heard}
use denote.Triple.Entry.{alive}
use denote.Triple.Walked.{Stays, stay_dropped}
use Rattle.core.proofs.alloc.Calls.{Goes-blank}
use Rattle.std.proofs.raw_atomic.Walks.{proved, leaves}
use Rattle.mt_c.proofs.Pointers.{word, word_good, pointer_good, value_in}
use Rattle.mt_c.specs.contracts.bare.Bare as bare
use Rattle.mt_c.specs.contracts.held.Held as held
use Rattle.mt_c.specs.contracts.place.Handle as handle
use Rattle.mt_c.proofs.place.Handle.TheLaws as handle_laws
use Rattle.mt_c.specs.contracts.place.Handle.into_bare as f
use Rattle.mt_c.proofs.place.Handle.into_bare.Statement.{statement}
use Rattle.mt_c.proofs.place.Handle.into_bare.Code as code

abbrev H : RattleType
H = handle.the_row

abbrev B : RattleType
B = bare.the_row held.the_row

abbrev stayed : Stays f.ended.signature.params f.ended.kept
stayed = (stay_dropped (plain (λ _. H)) yes, tt)

pub into_bare_spec : {M : Type 1} → statement M
into_bare_spec 𝓤 𝓛 𝓜 𝓡 wired =
    let c = f.clauses 𝓛 𝓜.mem 𝓡.returns in
    proved 𝓛 f.ended stayed c 𝓜 𝓡 (Goes-blank 𝓛 0 (plain (λ _. H)) yes (λ κs x w. tt), tt) f.Key.name code.function (code.unfolded 𝓤 𝓛.H 𝓜 𝓡 wired)
    (λ κs. (λ (h : H.Denot). word h.at ∷ [], tt)) (λ κs. ((handle_laws.lowers).val_is, tt)) (λ κs qs bounds a n are.
    let p = a.0.at in let vs : List Val × Unit {0} = (word p ∷ [], tt) in
    qed 𝓛 ((raw (alive 𝓛 f.signature κs qs) ⊛ ‵ (owns (types_at f.signature.params κs) a vs)) ∷ raw (fact 𝓤 (IsSome a.0.value)) ∷ []) ∵
    move ! (1 ∷ []) $ heard ! (IsSome a.0.value) (λ some. let found = value_in a.0.value some in
    let x : B.Denot = record { at = p; value = found.0 } in
    split ! $ move ! (1 ∷ []) $ fsplit ! $
    rewrite ! 0 (λ (value : Option (held.the_row).Denot). ‵ (H.own_val (record { at = p; value = value }) (word p ∷ []))) found.1 refl $
    enter ! _ _ _ _ _ $ alloc_all ! (λ l. pass_all ! refl (word_good p, tt) $
    sets ! (of_opd ! (get_in ! (fld ! refl (stop !)) (sub ! 0 refl (whole !)))) refl (pointer_good p) $
    sets ! (of_opd ! (get ! refl)) refl (pointer_good p) $
    sets ! (agg ! (and_then ! (get ! refl) (no_more !))) refl (word_good p) $
    returns ! (look_at ! 0 refl) $ free_all ! refl $
    -- [what the handle owns; nothing; the tokens]
    use1 𝓛 (‵ (B.own_val x (word p ∷ []))) (id⊢ 𝓤 _) $
    use0 𝓛 (raw (fact 𝓤 (a.0.value ≡ Some found.0))) (fact_i 𝓤 (a.0.value ≡ Some found.0) (emp 𝓤) found.1) $ nothing ! $ nothing ! $ fjoin ! $
    keep ! (4 ∷ 0 ∷ 2 ∷ 1 ∷ []) $ by ! (leaves 𝓛 f.ended stayed c ((κs, qs, bounds, a, vs), n) (word p) x (tt, tt) (tt, tt)))))
