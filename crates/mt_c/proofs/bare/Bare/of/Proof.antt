-- The pointer of a box owns what the box owned. Assumes `Logic`.
use Rattle.std.proofs.Common.{◌≡◌, List, [], ◌∷◌, ◌++◌, refl, sym, ap, subst}
use mir.Syntax.{Dict, a_type, impl, tnil, tcons, dcons, dnil}
use mir.Val.{Val}
use mir.MapTy.{inst_fn}
use mir.Raw.{raw as plain_type}
use base.Fraction.{full_share}
use base.Logic.{SProp, ent, emp, id⊢}
use base.Fml.{flft, ftrue}
use prog.Wp.{WpFn}
use types.Kit.{‵, raw, ◌⊛◌, some, later, ◌$◌, ◌∵◌, !, qed, by, move, keep, drop, use0, use1, split, join, fsplit, fjoin, pick, suffices, await, feq_l}
use types.Part.{agg}
use types.Run.{of_opd, no_more, and_then, returns, enter}
use types.ByLocal.{alloc_all, pass_all, free_all, look_at, get, sets, lands_as}
use contract.BorrowLft.{◌⊑◌, ⊑_refl}
use contract.Monad.{fact, fact_i}
use contract.Running.{tables, tables_of}
use denote.Builtin.{RawPtr}
use denote.Exit.{no}
use denote.Param.{arg, param, layout, bounded}
use denote.Param.Laws.{Laws, arg_laws}
use denote.Param.NoDrop as no_drop
use denote.RattleType.{RattleType, owns}
use denote.RawPtr.{Ptr}
use denote.Signature.{types_at, plain}
use denote.Steps.{nothing, only, heard}
use denote.Triple.Call.{calls_at}
use denote.Triple.Clauses.{Lasts, lasts}
use denote.Triple.Spec.{triple_of}
use denote.Triple.Walked.{Stays, stay_dropped, walk_of}
use Rattle.core.proofs.alloc.Calls.{Goes-blank}
use Rattle.core.proofs.atomic.Steps.{fm}
use Rattle.std.proofs.raw_atomic.Walks.{proved_at, leaves}
use Rattle.std_alloc.specs.Box.Ownership.{box_owns}
use Rattle.std_alloc.specs.contracts.boxed.Box as boxed
use Rattle.std_alloc.proofs.BoxSteps.Form as box
use Rattle.std_alloc.proofs.BoxSteps.Steps.{box_out, box_in}
use Rattle.std_alloc.specs.contracts.boxed.Box.into_raw as callee
use Rattle.std_alloc.proofs.boxed.Box.into_raw.Met as callee_met
use Rattle.std_heap.specs.contracts.Global as global
use Rattle.std_heap.proofs.Global.TheLaws as global_laws
use Rattle.std_heap.specs.contracts.GlobalAllocator.TheImpl as heap
use Rattle.std_heap.proofs.GlobalAllocator.TheImpl.Met as heap_met
use Rattle.mt_c.proofs.Destruct++none.drop.Code as no_drop_code
use Rattle.mt_c.proofs.Pointers.{word, word_good, pointer_good, field_owns, field_made}
use Rattle.mt_c.specs.contracts.bare.Bare as bare
use Rattle.mt_c.specs.contracts.bare.Bare.of as f
use Rattle.mt_c.proofs.bare.Bare.of.Statement.{statement}
use Rattle.mt_c.proofs.bare.Bare.of.Code as code

abbrev Z : RattleType
Z = global.the_row

-- the allocator as the call passes it
abbrev A : RattleType
A = arg (plain_type (layout Z)) no Z

A_laws : Laws A
A_laws = arg_laws (plain_type (layout Z)) no Z global_laws.the_row_laws refl

abbrev spares : Dict
spares = impl ("mt_c::Destruct++none::drop" ∷ []) (tcons (layout A) tnil) dnil

pub of_spec : {M : Type 1} → statement M
unfolding tables_of no_drop_code.code
of_spec 𝓤 𝓛 𝓜 𝓡 wired T L drops glue =
    let 𝓣 = tables 𝓤 𝓛.H 𝓜 𝓡 𝓡.env in let g = heap.ghosts in
    let R : RattleType = param 0 T in let B : RattleType = boxed.the_row R Z g in
    let E : box.Bx = record { row = T; laws = L; al = record { row = A; laws = A_laws; g = g; d = heap.dict; drops = spares } } in
    let En = f.ended T drops in let c = f.clauses T drops 𝓛 𝓜.mem 𝓡.returns in
    let inst = bounded (a_type ∷ []) (T, tt) (dcons drops dnil) in let fn = inst_fn inst code.function in
    let stayed : Stays En.signature.params En.kept = (stay_dropped (plain (λ _. B)) no, tt) in
    let K = triple_of 𝓛 (callee.signature T A g heap.dict spares drops) (callee.spec T A g heap.dict spares drops 𝓛 𝓜.mem 𝓡.returns) in
    let known = callee_met.met 𝓤 𝓛 𝓜 𝓡 (code.calls-std_alloc::boxed::Box::into_raw 𝓡.env wired) T A L A_laws g heap.dict spares drops
    (heap_met.passed 𝓡.env (code.calls-std_heap::GlobalAllocator::allocate 𝓡.env wired) (code.calls-std_heap::GlobalAllocator::deallocate 𝓡.env wired) (code.calls-std_heap::GlobalAllocator::grow 𝓡.env wired) (code.calls-std_heap::GlobalAllocator::shrink 𝓡.env wired) _ 𝓤 𝓛 𝓜 𝓡)
    (no_drop.glues "mt_c::Destruct++none::drop" 𝓡.env (code.calls-mt_c::Destruct++none::drop 𝓡.env wired) A A_laws _ 𝓤 𝓛 𝓜 𝓡) glue in
    proved_at 𝓛 En stayed c 𝓜 𝓡 (Goes-blank 𝓛 1 (plain (λ _. B)) no (λ κs x w. tt), tt) (f.Key.name inst) fn (code.unfolded 𝓤 𝓛.H 𝓜 𝓡 wired (T, tt) drops) (λ z are.
    let κ = z.0.0.0 in let q = z.0.1.0 in let v : B.Denot = z.0.3.0 in let inT = κ ⊑ T.lives in let in_heap = [] ⊑ A.lives in
    let Run : List Val → SProp 𝓤 = λ ws. WpFn 𝓤 𝓛.H 𝓣.C 𝓣.Λ fn ws ((walk_of 𝓛 En stayed c).post z) in
    qed 𝓛 (((‵ (flft κ q) ⊛ ‵ ftrue) ⊛ ‵ (owns (types_at En.signature.params z.0.0) z.0.3 z.0.4)) ∷ (raw (fact 𝓤 inT) ⊛ ‵ ftrue) ∷ []) ∵
    move ! (1 ∷ []) $ split ! $ heard ! inT (λ within. drop ! $ split ! $ move ! (1 ∷ []) $ fsplit ! $
    -- [the box; nothing; the token of T]
    use1 𝓛 (‵ ((box.B E).own_val v z.0.4.0)) (id⊢ 𝓤 _) $
    box_out E ! v z.0.4.0 (λ b o h e ws fits. box_in E ! v b o v.value e refl $
    let w : Val = box.word E h b o in
    let y : K.Ghost = (((κ, ([], tt)), (q, (full_share, tt)), tt, (v, tt), (w ∷ [], tt)), tt) in
    fjoin ! $ move ! (1 ∷ []) $ split ! $ use0 𝓛 (‵ (flft [] full_share)) (𝓛.lfts.lft-nil full_share) $ move ! (0 ∷ 2 ∷ []) $ join ! $ move ! (1 ∷ 0 ∷ []) $ join ! $ join ! $
    nothing ! $ use0 𝓛 (raw (fact 𝓤 in_heap)) (fact_i 𝓤 in_heap (emp 𝓤) (⊑_refl [])) $ join ! $ use0 𝓛 (raw (fact 𝓤 inT)) (fact_i 𝓤 inT (emp 𝓤) within) $ join ! $ move ! (1 ∷ 0 ∷ []) $ join ! $
    use1 𝓛 (raw (K.pre y)) (id⊢ 𝓤 _) $
    suffices ! (Run (w ∷ [])) (subst (λ (us : List Val). ent 𝓤 (Run (w ∷ [])) (Run us)) (sym (λ i. ws i ++ [])) (id⊢ 𝓤 (Run (w ∷ [])))) $
    enter ! 𝓣.C 𝓣.Λ fn (w ∷ []) _ $ alloc_all ! (λ l. pass_all ! refl (box.box_typed E h b o fits, tt) $
    sets ! (of_opd ! (get ! refl)) refl (box.box_typed E h b o fits) $
    calls_at ! (fm 𝓛 𝓜 𝓡) K known y (and_then ! (get ! refl) (no_more !)) (λ u.
    use1 𝓛 (later (some (λ (r : Ptr). ((‵ (flft κ q) ⊛ ‵ (flft [] full_share) ⊛ ‵ ftrue) ⊛ ‵ (RawPtr.own_val r (u ∷ []))) ⊛ some (λ (ls : Lasts (callee.ended T A g heap.dict spares drops) y.0.0 y.0.3).
    ‵ (lasts (callee.ended T A g heap.dict spares drops) y.0.0 y.0.3 ls) ⊛ ‵ (box_owns (g.dealloc_token v.alloc) R r v.value))))) (id⊢ 𝓤 (K.post y u)) $
    await ! tt $ pick ! (λ r. split ! $ move ! (1 ∷ []) $ pick ! (λ ls. split ! $ drop ! $ move ! (1 ∷ []) $ split ! $ move ! (1 ∷ []) $ feq_l ! (λ eu.
    lands_as ! (ap only eu) refl (pointer_good r) $
    sets ! (agg ! (and_then ! (get ! refl) (no_more !))) refl (word_good r) $
    returns ! (look_at ! 0 refl) $ free_all ! refl $
    -- [the tokens; what the pointer owns]
    let x : (bare.the_row R).Denot = record { at = r; value = v.value } in
    split ! $ move ! (1 ∷ []) $ split ! $ drop ! $ move ! (1 ∷ 0 ∷ []) $ join ! $ move ! (1 ∷ []) $
    use0 𝓛 (‵ (field_owns r)) (field_made 𝓛 r) $ fjoin ! $
    use0 𝓛 (raw (fact 𝓤 (x.value ≡ v.value))) (fact_i 𝓤 (x.value ≡ v.value) (emp 𝓤) refl) $ nothing ! $ nothing ! $ fjoin ! $
    keep ! (3 ∷ 0 ∷ 2 ∷ 1 ∷ []) $ by ! (leaves 𝓛 En stayed c z (word r) x (tt, tt) (tt, tt))))))))))
