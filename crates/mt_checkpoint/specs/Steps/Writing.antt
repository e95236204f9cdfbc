-- What a walk adds to the entries that were written of a part. The proofs stand here since a ghost member cites none of proofs/.
use Rattle.std.specs.Prelude.{◌≡◌, ◌-◌, ℕ, zero, suc, Option, List, [], ◌∷◌, ◌++◌, length, take, All}
use Rattle.std.specs.List.{flat_map}
use Rattle.std.specs.Io.KnownBytes.{Appends}
use Rattle.std.proofs.Common.{refl, sym, ap, ◌∙◌, subst, arith, length-append, append_assoc}
use Rattle.std.proofs.KnownBytes.{Appends-nil, Appends-trans}
use Rattle.std.proofs.Math.Seq.{take-nil}
use Rattle.std.proofs.lemmas.List.{append-nil, map-append}
use Rattle.std.proofs.lemmas.List.Concat.{flat_map-append}
use Rattle.std.proofs.lemmas.List.Elements.{All-append, All-nil}
use Rattle.mt_block.specs.Blocks.{IsBody, block, blocks}
use Rattle.mt_block.specs.Sealing.{joined}
use Rattle.mt_words.specs.Walks.{Pair}
use Rattle.mt_words.specs.Built.{entry_of}
use Rattle.mt_record.specs.Parts.{entry_spelling, footer_bytes}
use Rattle.mt_checkpoint.specs.Checkpoints.{entries_with, entries_text}
use Rattle.mt_checkpoint.specs.declared.entries.Rest.{Rest}

-- blocks of these bytes, however they are cut
pub record AreBlocksOf (mark : ℕ) (bytes sealed : List ℕ) : Type 0 where
  pub bodies : List (List ℕ)
  pub are_bodies : All IsBody bodies
  pub joins : bytes ≡ joined bodies
  pub spelled : sealed ≡ blocks mark bodies

-- Blocks of some bytes were written, and others are in no block yet. These are the bytes so far, and then `text`.
pub record HaveSealed {W : Type 0} (contents : W → Option (List ℕ)) (old new : Rest W) (text : List ℕ) : Type 0 where
  pub same_out : new.out.ghost_name ≡ old.out.ghost_name
  pub version : new.version ≡ old.version
  pub left : new.left ≡ old.left
  pub mark : new.mark ≡ old.mark
  pub bodies : List (List ℕ)
  pub are_bodies : All IsBody bodies
  pub joins : old.body.now.items ++ text ≡ joined bodies ++ new.body.now.items
  pub written : Appends (contents old.out.now) (contents new.out.now) (blocks old.mark bodies)

-- of these pairs, the entries of the first ones were written, as far as their number allows
pub record HaveWritten {W : Type 0} (contents : W → Option (List ℕ)) (old new : Rest W) (pairs : List Pair) : Type 0 where
  pub left : new.left ≡ old.left - length pairs
  pub sealed : HaveSealed contents old (record new { left = old.left }) (entries_text old.version (take old.left pairs))

-- the entries of these pairs and a footer were written, and no byte is left
pub record HaveWrittenAll {W : Type 0} (contents : W → Option (List ℕ)) (old new : Rest W) (end : ℕ) (pairs : List Pair) : Type 0 where
  pub same_out : new.out.ghost_name ≡ old.out.ghost_name
  pub sealed : HaveSealed contents old (record new { left = old.left }) (entries_text old.version pairs ++ footer_bytes end (length pairs))
  pub empty : new.body.now.items ≡ []

pub text_both : (version : ℕ) (v w : List Pair) → entries_text version (v ++ w) ≡ entries_text version v ++ entries_text version w
text_both version v w =
    ap (flat_map entry_spelling) (map-append (λ pair. entry_of version pair.0 pair.1) v w) ∙ flat_map-append entry_spelling (entries_with version v) (entries_with version w)

take_both : (n : ℕ) (v w : List Pair) → take n v ++ take (n - length v) w ≡ take n (v ++ w)
take_both zero [] w = refl
take_both zero (p ∷ v) w = let none : 0 - length (p ∷ v) ≡ 0 = omega arith in ap (λ (n : ℕ). take n w) none
take_both (suc n) [] w = let all : suc n - 0 ≡ suc n = omega arith in ap (λ (m : ℕ). take m w) all
take_both (suc n) (p ∷ v) w =
    let less : suc n - length (p ∷ v) ≡ n - length v = omega arith in
    ap (λ (m : ℕ). p ∷ (take n v ++ take m w)) less ∙ ap (λ z. p ∷ z) (take_both n v w)

-- ---- blocks

pub none_sealed : {W : Type 0} (contents : W → Option (List ℕ)) (rest : Rest W) → HaveSealed contents rest rest []
none_sealed contents rest = record {
  same_out = refl;
  version = refl;
  left = refl;
  mark = refl;
  bodies = [];
  are_bodies = All-nil IsBody;
  joins = append-nil rest.body.now.items;
  written = Appends-nil (contents rest.out.now);
}

pub both_sealed : {W : Type 0} (contents : W → Option (List ℕ)) (a b c : Rest W) (v w : List ℕ) → HaveSealed contents a b v → HaveSealed contents b c w → HaveSealed contents a c (v ++ w)
both_sealed contents a b c v w f g = record {
  same_out = g.same_out ∙ f.same_out;
  version = g.version ∙ f.version;
  left = g.left ∙ f.left;
  mark = g.mark ∙ f.mark;
  bodies = f.bodies ++ g.bodies;
  are_bodies = All-append IsBody f.bodies g.bodies f.are_bodies g.are_bodies;
  joins =
      sym (append_assoc a.body.now.items v w)
      ∙ ap (λ (l : List ℕ). l ++ w) f.joins
      ∙ append_assoc (joined f.bodies) b.body.now.items w
      ∙ ap (λ (l : List ℕ). joined f.bodies ++ l) g.joins
      ∙ sym (append_assoc (joined f.bodies) (joined g.bodies) c.body.now.items)
      ∙ ap (λ (l : List ℕ). l ++ c.body.now.items) (sym (flat_map-append (λ (body : List ℕ). body) f.bodies g.bodies));
  written =
      subst (Appends (contents a.out.now) (contents c.out.now)) (sym (flat_map-append (block a.mark) f.bodies g.bodies))
      (Appends-trans (contents a.out.now) (contents b.out.now) (contents c.out.now) (blocks a.mark f.bodies) (blocks a.mark g.bodies) f.written
      (subst (λ (mark : ℕ). Appends (contents b.out.now) (contents c.out.now) (blocks mark g.bodies)) f.mark g.written));
}

-- how many entries are left makes no difference to the bytes
pub left_as : {W : Type 0} (contents : W → Option (List ℕ)) (old new : Rest W) (n : ℕ) (text : List ℕ) → HaveSealed contents old new text → HaveSealed contents (record old { left = n }) (record new { left = n }) text
left_as contents old new n text is = record {
  same_out = is.same_out;
  version = is.version;
  left = refl;
  mark = is.mark;
  bodies = is.bodies;
  are_bodies = is.are_bodies;
  joins = is.joins;
  written = is.written;
}

-- ---- entries

pub none_written : {W : Type 0} (contents : W → Option (List ℕ)) (rest : Rest W) → HaveWritten contents rest rest []
none_written contents rest = record {
  left = omega arith;
  sealed = subst (λ z. HaveSealed contents rest rest (entries_text rest.version z)) (sym (take-nil rest.left)) (none_sealed contents rest);
}

pub both_written : {W : Type 0} (contents : W → Option (List ℕ)) (a b c : Rest W) (v w : List Pair) → HaveWritten contents a b v → HaveWritten contents b c w → HaveWritten contents a c (v ++ w)
both_written contents a b c v w f g = record {
  left = omega (arith, f.left, g.left, length-append v w);
  sealed =
      let version : b.version ≡ a.version = f.sealed.version in
      let later = left_as contents b (record c { left = b.left }) a.left (entries_text a.version (take (a.left - length v) w))
      (subst (λ z. HaveSealed contents b (record c { left = b.left }) z) (λ i. entries_text (version i) (take (f.left i) w)) g.sealed) in
      let text = sym (text_both a.version (take a.left v) (take (a.left - length v) w)) ∙ ap (entries_text a.version) (take_both a.left v w) in
      subst (λ z. HaveSealed contents a (record c { left = a.left }) z) text
      (both_sealed contents a (record b { left = a.left }) (record c { left = a.left }) (entries_text a.version (take a.left v)) (entries_text a.version (take (a.left - length v) w)) f.sealed later);
}

-- a target that takes no more is left as it is
pub full_written : {W : Type 0} (contents : W → Option (List ℕ)) (rest : Rest W) → rest.left ≡ 0 → (pairs : List Pair) → HaveWritten contents rest rest pairs
full_written contents rest full pairs = record {
  left = omega (arith, full);
  sealed = subst (λ (n : ℕ). HaveSealed contents rest rest (entries_text rest.version (take n pairs))) (sym full) (none_sealed contents rest);
}
