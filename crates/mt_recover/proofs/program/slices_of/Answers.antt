use Rattle.std.proofs.Common.{◌≡◌, ◌∙◌, ◌+◌, ◌<◌, ◌∷◌, [], ◌++◌, ℕ, List, length, map, take, slice_index_or, sym, ap}
use Rattle.std.proofs.lemmas.List.{map_push, take_more}
use Rattle.mt_recover.proofs.program.slices_of.Goals as goal

-- one more of both
more : {A B C : Type 0} (f : A → C) (g : B → C) (xs after : List A) (ys : List B) (i : ℕ) (x : A) (y : B) → i < length ys → after ≡ xs ++ x ∷ [] → y ≡ slice_index_or ys i y → f x ≡ g y → map f xs ≡ map g (take i ys)
    → map f after ≡ map g (take (i + 1) ys)
more f g xs after ys i x y lt pushed at same so_far =
    ap (map f) pushed ∙ map_push f xs x ∙ (λ j. so_far j ++ same j ∷ []) ∙ sym (map_push g (take i ys) y) ∙ ap (map g) (ap (λ z. take i ys ++ z ∷ []) at ∙ sym (take_more ys i y lt))

pub loop-file-preserved : goal.loop-file-preserved
loop-file-preserved c =
    more (λ slice. slice.now) (λ file. file.items) c.loop-file.slices.items c.push.new.self.items c.args.files.now c.loop-file.file-index c.as_slice.result c.file-item.result c.loop-file-test.true c.in_ok-push.ensures.items
    c.file-item.is c.as_slice.ensures.value c.loop-file.invariant
