use Rattle.std.proofs.Common.{◌≡◌, [], ◌∷◌, ◌++◌, ℕ, List, Result, Ok, Err, OnOk, OnErr, sym, subst}
use Rattle.std.specs.List.{All}
use Rattle.std.proofs.lemmas.List.Elements.{All-push}
use Rattle.mt_record.specs.Steps.Texts.{IsUpdateText}
use Rattle.mt_record.proofs.kept.bodies.Bodies.push.Goals as goal

-- one text more
all_told : {T E : Type 0} (pushed : Result T E) (old new : List (List ℕ)) (text : List ℕ) → OnOk pushed (new ≡ old ++ text ∷ []) → OnErr pushed (new ≡ old) → IsUpdateText text → All IsUpdateText old → All IsUpdateText new
all_told (Ok x) old new text ok err is all = subst (All IsUpdateText) (sym ok) (All-push IsUpdateText old text all is)
all_told (Err e) old new text ok err is all = subst (All IsUpdateText) (sym err) all

pub invariant_of-self : goal.invariant_of-self
invariant_of-self c = all_told c.push_joined.result c.self.inside.texts c.push_joined.new.self (c.parts.result.0.now ++ c.parts.result.1.now) c.push_joined.ensures.ok c.push_joined.ensures.err c.parts.ensures.text c.self.invariant
