-- A box owns what its pointer owned. Assumes `Logic`.
use Rattle.std.proofs.Common.{◌≡◌, List, [], ◌∷◌, refl, sym, ap, subst}
use mir.Syntax.{Dict, a_type, impl, tnil, tcons, dcons, dnil}
use mir.Val.{Val}
use mir.MapTy.{inst_fn}
use mir.Raw.{raw as plain_type}
use base.Fraction.{full_share}
use base.Logic.{emp, id⊢}
use base.Fml.{flft, ftrue}
use types.Kit.{‵, raw, ◌⊛◌, some, later, at_ret, ◌$◌, ◌∵◌, !, qed, by, move, keep, drop, use0, use1, split, join, fsplit, fjoin, pick, await, rewrite, feq_i}
use types.Part.{whole, sub}
use types.Run.{stop, fld, of_opd, no_more, and_then, first, blocks, exec, returns, enter}
use types.ByLocal.{alloc_all, pass_all, free_all, look_at, get, get_in, sets, lands_last, env}
use contract.BorrowLft.{◌⊑◌, ⊑_refl}
use contract.Monad.{fact, fact_i}
use contract.Running.{tables, tables_of}
use denote.Exit.{yes, no}
use denote.Param.{arg, param, layout, bounded}
use denote.Param.Laws.{Laws, arg_laws, param_laws}
use denote.Param.NoDrop as no_drop
use denote.RattleType.{RattleType, owns}
use denote.RawPtr.{ptr_val}
use denote.Signature.{types_at, plain}
use denote.Steps.{nothing, only, heard}
use denote.Triple.Call.{calls_at_last}
use denote.Triple.Clauses.{Lasts, lasts}
use denote.Triple.Spec.{triple_of}
use denote.Triple.Walked.{Stays, stay_dropped, walk_of}
use Rattle.core.proofs.alloc.Calls.{Goes-blank}
use Rattle.core.proofs.atomic.Steps.{fm}
use Rattle.core.proofs.alloc.Shapes.{after}
use Rattle.core.proofs.cell.Inside.{Good}
use Rattle.std.proofs.raw_atomic.Walks.{proved, leaves}
use Rattle.std_alloc.specs.contracts.boxed.Box as boxed
use Rattle.std_alloc.proofs.BoxSteps.Form as box
use Rattle.std_alloc.proofs.BoxSteps.Steps.{box_out, box_in}
use Rattle.std_alloc.specs.contracts.boxed.Box.from_raw as callee
use Rattle.std_alloc.proofs.boxed.Box.from_raw.Met as callee_met
use Rattle.std_heap.specs.contracts.Global as global
use Rattle.std_heap.proofs.Global.TheLaws as global_laws
use Rattle.std_heap.specs.contracts.GlobalAllocator.TheImpl as heap
use Rattle.std_heap.proofs.GlobalAllocator.TheImpl.Met as heap_met
use Rattle.mt_c.proofs.Destruct++none.drop.Code as no_drop_code
use Rattle.std_heap.proofs.Handle.{heap_val, heap_Tells}
use Rattle.mt_c.proofs.Pointers.{word, word_good, pointer_good}
use Rattle.mt_c.specs.contracts.bare.Bare as bare
use Rattle.mt_c.proofs.bare.Bare.TheLaws as bare_laws
use Rattle.mt_c.specs.contracts.bare.Bare.into_box as f
use Rattle.mt_c.proofs.bare.Bare.into_box.Statement.{statement}
use Rattle.mt_c.proofs.bare.Bare.into_box.Code as code

abbrev Z : RattleType
Z = global.the_row

-- the allocator as the call passes it
abbrev A : RattleType
A = arg (plain_type (layout Z)) no Z

A_laws : Laws A
A_laws = arg_laws (plain_type (layout Z)) no Z global_laws.the_row_laws refl

abbrev spares : Dict
spares = impl ("mt_c::Destruct++none::drop" ∷ []) (tcons (layout A) tnil) dnil

pub into_box_spec : {M : Type 1} → statement M
unfolding tables_of no_drop_code.code
into_box_spec 𝓤 𝓛 𝓜 𝓡 wired T L drops glue =
    let 𝓣 = tables 𝓤 𝓛.H 𝓜 𝓡 𝓡.env in let g = heap.ghosts in
    let R : RattleType = param 0 T in let S : RattleType = bare.the_row R in let B : RattleType = boxed.the_row R Z g in
    let E : box.Bx = record { row = T; laws = L; al = record { row = A; laws = A_laws; g = g; d = heap.dict; drops = spares } } in
    let En = f.ended T drops in let c = f.clauses T drops 𝓛 𝓜.mem 𝓡.returns in
    let inst = bounded (a_type ∷ []) (T, tt) (dcons drops dnil) in let fn = inst_fn inst code.function in
    let stayed : Stays En.signature.params En.kept = (stay_dropped (plain (λ _. S)) no, (stay_dropped (plain (λ _. Z)) yes, tt)) in
    let Ke = callee.ended T A g heap.dict spares in
    let K = triple_of 𝓛 (callee.signature T A g heap.dict spares) (callee.spec T A g heap.dict spares 𝓛 𝓜.mem 𝓡.returns) in
    let known = callee_met.met 𝓤 𝓛 𝓜 𝓡 (code.calls-std_alloc::boxed::Box::from_raw 𝓡.env wired) T A L A_laws g heap.dict spares
    (heap_met.passed 𝓡.env (code.calls-std_heap::GlobalAllocator::allocate 𝓡.env wired) (code.calls-std_heap::GlobalAllocator::deallocate 𝓡.env wired) (code.calls-std_heap::GlobalAllocator::grow 𝓡.env wired) (code.calls-std_heap::GlobalAllocator::shrink 𝓡.env wired) _ 𝓤 𝓛 𝓜 𝓡)
    (no_drop.glues "mt_c::Destruct++none::drop" 𝓡.env (code.calls-mt_c::Destruct++none::drop 𝓡.env wired) A A_laws _ 𝓤 𝓛 𝓜 𝓡) in
    proved 𝓛 En stayed c 𝓜 𝓡 (Goes-blank 𝓛 1 (plain (λ _. S)) no (λ κs x w. tt), (Goes-blank 𝓛 1 (plain (λ _. Z)) yes (λ κs x w. tt), tt)) (f.Key.name inst) fn (code.unfolded 𝓤 𝓛.H 𝓜 𝓡 wired (T, tt) drops)
    (λ κs. (λ (s : S.Denot). word s.at ∷ [], (λ (a : Z.Denot). heap_val ∷ [], tt))) (λ κs. ((bare_laws.lowers R (param_laws 0 T L)).val_is, (heap_Tells, tt))) (λ κs qs bounds a n are.
    let κ = κs.0 in let q = qs.0 in let s : S.Denot = a.0 in let p = s.at in let inT = κ ⊑ T.lives in let in_heap = [] ⊑ A.lives in
    let vs : List Val × (List Val × Unit {0}) = (word p ∷ [], (heap_val ∷ [], tt)) in let z : (walk_of 𝓛 En stayed c).Ghost = ((κs, qs, bounds, a, vs), n) in
    qed 𝓛 (((‵ (flft κ q) ⊛ ‵ ftrue) ⊛ ‵ (owns (types_at En.signature.params κs) a vs)) ∷ (raw (fact 𝓤 inT) ⊛ ‵ ftrue) ∷ []) ∵
    move ! (1 ∷ []) $ split ! $ heard ! inT (λ within. drop ! $ split ! $ move ! (1 ∷ []) $ fsplit ! $ fsplit ! $ drop ! $
    -- [what the pointer owns; the allocator; the token of T]
    let y : K.Ghost = (((κ, ([], tt)), (q, (full_share, tt)), tt, (a.1.0, (p, tt)), (heap_val ∷ [], (ptr_val p ∷ [], tt))), s.value) in
    use0 𝓛 (raw (fact 𝓤 in_heap)) (fact_i 𝓤 in_heap (emp 𝓤) (⊑_refl [])) $ join ! $ use0 𝓛 (raw (fact 𝓤 inT)) (fact_i 𝓤 inT (emp 𝓤) within) $ join ! $
    move ! (1 ∷ []) $ fsplit ! $ move ! (1 ∷ []) $ feq_i ! (List Val) (ptr_val p ∷ []) (ptr_val p ∷ []) refl $ fjoin ! $ move ! (1 ∷ 0 ∷ []) $ fjoin ! $
    move ! (2 ∷ []) $ split ! $ use0 𝓛 (‵ (flft [] full_share)) (𝓛.lfts.lft-nil full_share) $ move ! (0 ∷ 2 ∷ []) $ join ! $ move ! (1 ∷ 0 ∷ []) $ join ! $ join ! $ join ! $
    use1 𝓛 (raw (K.pre y)) (id⊢ 𝓤 _) $
    enter ! _ _ _ _ _ $ alloc_all ! (λ l. pass_all ! refl (word_good p, ((tt, ((tt, tt), tt)), tt)) $ let Ev = env fn.locals l in
    sets ! (of_opd ! (get_in ! (fld ! refl (stop !)) (sub ! 0 refl (whole !)))) refl (pointer_good p) $ first ! $ blocks ! $
    calls_at_last ! (fm 𝓛 𝓜 𝓡) K known y (and_then ! (get ! refl) (and_then ! (get ! refl) (no_more !))) (λ u.
    use1 𝓛 (later (some (λ (r : B.Denot). ((‵ (flft κ q) ⊛ ‵ (flft [] full_share) ⊛ ‵ ftrue) ⊛ ‵ (B.own_val r (u ∷ []))) ⊛ some (λ (ls : Lasts Ke y.0.0 y.0.3).
    ‵ (lasts Ke y.0.0 y.0.3 ls) ⊛ (raw (fact 𝓤 (r.value ≡ s.value)) ⊛ raw (fact 𝓤 (r.alloc ≡ a.1.0))))))) (id⊢ 𝓤 (K.post y u)) $
    await ! tt $ pick ! (λ r. split ! $ move ! (1 ∷ []) $ pick ! (λ ls. split ! $ drop ! $ split ! $ move ! (1 ∷ []) $ drop ! $ move ! (1 ∷ []) $ split ! $ move ! (1 ∷ []) $
    use1 𝓛 (‵ ((box.B E).own_val r (u ∷ []))) (id⊢ 𝓤 _) $
    box_out E ! r (u ∷ []) (λ b o h e us fits. box_in E ! r b o r.value e refl $ rewrite ! 0 (λ (ws : List Val). ‵ ((box.B E).own_val r ws)) (sym us) refl $
    let good : Good (layout B) u = subst (Good (layout B)) (sym (ap only us)) (box.box_typed E h b o fits) in
    lands_last ! refl good $ exec ! 𝓣.C 𝓣.Λ Ev (after 2 fn.body) (at_ret Ev ((walk_of 𝓛 En stayed c).post z)) $
    sets ! (of_opd ! (get ! refl)) refl good $ returns ! (look_at ! 0 refl) $ free_all ! refl $
    -- [the box; the tokens; the fact]
    move ! (1 ∷ []) $ split ! $ move ! (1 ∷ []) $ split ! $ drop ! $ move ! (1 ∷ 0 ∷ []) $ join ! $
    nothing ! $ nothing ! $ fjoin ! $ nothing ! $ fjoin ! $
    keep ! (1 ∷ 0 ∷ 2 ∷ 3 ∷ []) $ by ! (leaves 𝓛 En stayed c z u r (tt, (tt, tt)) (tt, (tt, tt))))))))))
