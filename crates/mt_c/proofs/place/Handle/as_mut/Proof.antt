-- `as_mut` lends the value, and the handle follows it. Assumes `Logic`.
use Rattle.std.proofs.Common.{◌≡◌, ℕ, List, [], ◌∷◌, ◌++◌, Option, Some, refl, sym, subst}
use Rattle.std.specs.Prelude.{IsSome}
use seplogic.Ra.Ura.{Ura}
use mir.Syntax.{named}
use mir.Raw.{raw as plain_type}
use mir.Val.{Val, vptr, vstruct, of_list}
use base.Fraction.{full_share}
use base.Logic.{ent, sep, never, fst∗}
use base.Fml.{GName, Fml, ftrue, fsep, flft}
use contract.Monad.{fact}
use contract.Running.{tables}
use types.Logic.{Logic, sem}
use types.Kit.{‵, raw, ◌⊛◌, some, later, at_ret, ◌$◌, ◌∵◌, !, qed, by, move, keep, drop, use0, use1, split, join, group, pick, fsplit, fsplit3, fjoin, fpick, fpack, feq_l, rewrite, suffices, await, frame, done}
use types.Part.{whole, sub, look_in}
use types.Run.{stop, fld, addr, load, of_opd, first, blocks, exec, returns, enter}
use types.ByLocal.{alloc_all, pass_all, free_all, look_at, get, through, sets, sets_last, env}
use denote.Exit.{no}
use denote.Follow.{follows, Part, lends_Part}
use denote.Memory.{part_at, part_of, mem, cell_at, lone}
use denote.RattleType.{RattleType, owns}
use denote.RawPtr.{Ptr, block_ptr, null_ptr, in_a_block}
use denote.Ref.{MutRef, mut_vals, mut_Tells}
use denote.Signature.{plain, mut_ref_to}
use denote.Steps.{nothing, heard, opens}
use denote.Triple.Walked.{says, Stays, stay_dropped, walk_of, ends_at, Goes-spent_ref}
use Rattle.core.proofs.alloc.Shapes.{after}
use Rattle.std.proofs.raw_atomic.Walks.{proved}
use Rattle.std.specs.contracts.impls.GlobalAllocator.TheImpl.{ghosts}
use Rattle.std_alloc.specs.Box.Ownership.{box_owns}
use Rattle.mt_c.specs.Owning.{heap, boxed_at}
use Rattle.mt_c.specs.contracts.held.Held as held
use Rattle.mt_c.specs.contracts.place.Handle as handle
use Rattle.mt_c.specs.contracts.place.Handle.as_mut as f
use Rattle.mt_c.proofs.Pointers.{word, field_owns, field_made, value_in}
use Rattle.mt_c.proofs.place.Handle.as_mut.Statement.{statement}
use Rattle.mt_c.proofs.place.Handle.as_mut.Code as code

abbrev H : RattleType
H = handle.the_row

abbrev R : RattleType
R = held.the_row

abbrev stayed : Stays f.ended.signature.params f.ended.kept
stayed = (stay_dropped (mut_ref_to (0 ∷ []) tt (plain (λ _. H))) no, tt)

-- the right to free the block at the pointer
abbrev token : Ptr → Fml
token p = ghosts.dealloc_token heap (plain_type (lone R.mir)) p

abbrev with_held : H.Denot → R.Denot → H.Denot
with_held h w = record h { value = Some w }

-- all of a handle but its value
abbrev Rest : ℕ → ℕ → ℕ → ℕ → Fml
Rest rb ro b o = fsep (token (block_ptr b o)) (cell_at full_share H.mir (word (block_ptr b o) ∷ []) rb ro)

module _ {M : Type 1} {𝓤 : Ura M} (𝓛 : Logic 𝓤) (rb ro : ℕ) (h : H.Denot) (b o : ℕ) where
  back : h.at ≡ block_ptr b o → (w : R.Denot) → ent 𝓤 (sep 𝓤 (sem 𝓛 ((mem R).own_at w b o)) (sem 𝓛 (Rest rb ro b o))) (sem 𝓛 ((mem H).own_at (with_held h w) rb ro))
  unfolding part_of
  back e w =
      qed 𝓛 (‵ (part_at R full_share w b o) ∷ ‵ (Rest rb ro b o) ∷ []) ∵ move ! (1 ∷ []) $ fsplit ! $ move ! (2 ∷ 0 ∷ []) $ fjoin ! $
      rewrite ! 0 (λ (p : Ptr). ‵ (box_owns (ghosts.dealloc_token heap) R p w)) (sym e) refl $
      rewrite ! 1 (λ (p : Ptr). ‵ (cell_at full_share H.mir (word p ∷ []) rb ro)) (sym e) refl $
      use0 𝓛 (‵ (field_owns h.at)) (field_made 𝓛 h.at) $ fjoin ! $ move ! (1 ∷ 0 ∷ []) $ fjoin ! $
      fpack ! (List Val) (λ us. fsep (cell_at full_share H.mir us rb ro) (H.own_val (with_held h w) us)) (word h.at ∷ []) $ done !

pub as_mut_spec : {M : Type 1} → statement M
as_mut_spec 𝓤 𝓛 𝓜 𝓡 wired =
    let c = f.clauses 𝓛 𝓜.mem 𝓡.returns in let 𝓣 = tables 𝓤 𝓛.H 𝓜 𝓡 𝓡.env in let fn = code.function in
    proved 𝓛 f.ended stayed c 𝓜 𝓡 (Goes-spent_ref 𝓛 1 (0 ∷ []) tt (plain (λ _. H)), tt) f.Key.name fn (code.unfolded 𝓤 𝓛.H 𝓜 𝓡 wired)
    (λ κs. (mut_vals, tt)) (λ κs. (mut_Tells (named 0) κs.0 H, tt)) (λ κs qs bounds a n are.
    let κ = κs.0 in let q = qs.0 in let rb = a.0.ref_ptr.0 in let ro = a.0.ref_ptr.1 in let γ = a.0.ghost_name in let h : H.Denot = a.0.now in
    let y : (walk_of 𝓛 f.ended stayed c).Ghost = ((κs, qs, bounds, a, (mut_vals a.0, tt)), n) in
    qed 𝓛 (((‵ (flft κ q) ⊛ ‵ ftrue) ⊛ ‵ (owns (MutRef (named 0) κ H ∷ []) (a.0, tt) (vptr rb ro ∷ [], tt))) ∷ raw (fact 𝓤 (IsSome h.value)) ∷ []) ∵
    move ! (1 ∷ []) $ heard ! (IsSome h.value) (λ has. let found = value_in h.value has in let x = found.0 in
    split ! $ enter ! _ _ _ _ _ $ alloc_all ! (λ l. pass_all ! refl ((tt, tt), tt) $ let Ev = env fn.locals l in
    move ! (1 ∷ []) $ fsplit ! $ fsplit3 ! $ drop ! $ move ! (3 ∷ []) $ split ! $ move ! (2 ∷ 3 ∷ 0 ∷ []) $
    opens ! tt H {h = h} rb ro (λ vs. move ! (1 ∷ []) $ fsplit ! $ fpick ! (λ vss. fsplit ! $ feq_l ! (λ ev. fsplit ! $ feq_l ! (λ ep. drop ! $
    rewrite ! 0 (λ (value : Option R.Denot). ‵ (boxed_at (ghosts.dealloc_token heap) R h.at value)) found.1 refl $
    in_a_block ! h.at (λ p. box_owns (ghosts.dealloc_token heap) R p x) (fst∗ 𝓤 (never 𝓤) (sem 𝓛 (token null_ptr))) (λ b o e. fsplit ! $
    let ws : vs ≡ word (block_ptr b o) ∷ [] = subst (λ (p : Ptr). vs ≡ word p ∷ []) e (subst (λ (ps : List Val). vs ≡ vstruct (of_list (ps ++ [])) ∷ []) ep ev) in
    rewrite ! 2 (λ (us : List Val). ‵ (cell_at full_share H.mir us rb ro)) ws refl $
    -- [the value; the right to free it; the word; the open borrow; obs; auth]
    first ! $ blocks ! $
    sets ! (of_opd ! (load ! (through ! refl (fld ! refl (stop !))) (look_in ! 2 (sub ! 0 refl (whole !))))) refl (tt, tt) $
    sets ! (of_opd ! (get ! refl)) refl (tt, tt) $
    sets_last ! (addr ! (through ! refl (stop !))) refl (tt, tt) $
    exec ! 𝓣.C 𝓣.Λ Ev (after 1 fn.body) (at_ret Ev ((walk_of 𝓛 f.ended stayed c).post y)) $
    sets ! (of_opd ! (get ! refl)) refl (tt, tt) $
    move ! (1 ∷ 2 ∷ []) $ fjoin ! $ move ! (2 ∷ 3 ∷ 4 ∷ 1 ∷ 0 ∷ []) $ group ! 5 $
    use1 𝓛 (later (some (λ (γ' : GName). raw (Part 𝓛 H R (with_held h) (named 0) κ q rb ro b o γ (sem 𝓛 (Rest rb ro b o)) (back 𝓛 rb ro h b o e) x γ'))))
    (lends_Part 𝓛 H R (with_held h) (named 0) κ q rb ro b o γ (sem 𝓛 (Rest rb ro b o)) (back 𝓛 rb ro h b o e) (H.coded.code h) (H.coded.code h) x) $ await ! tt $ pick ! (λ γ'.
    returns ! (look_at ! 0 refl) $ free_all ! refl $ keep ! (0 ∷ []) $
    by ! (qed 𝓛 (‵ ((MutRef (named 0) κ R).own_val (record { ref_ptr = (b, o); ghost_name = γ'; now = x }) (vptr b o ∷ [])) ∷ ‵ (flft κ q) ∷ ‵ (follows H R γ γ' (with_held h)) ∷ []) ∵
    suffices ! _ (ends_at 𝓛 f.ended stayed c y (vptr b o) (record { ref_ptr = (b, o); ghost_name = γ'; now = x }) (tt, tt) (tt, tt)) $
    nothing ! $ nothing ! $ fjoin ! $ join ! $ nothing ! $ move ! (2 ∷ 0 ∷ []) $ join ! $ join ! $ frame ! $ says ! found.1 $ done !))))))))))
