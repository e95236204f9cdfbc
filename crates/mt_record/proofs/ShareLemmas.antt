-- The records of a log in shares.
use Rattle.std.proofs.Common.{◌≡◌, ◌∙◌, ℕ, suc, ◌+◌, ◌<◌, ◌^◌, List, [], ◌∷◌, ◌++◌, length, map, All, sym, ap, subst, append_assoc, arith}
use Rattle.std.specs.List.{flat_map}
use Rattle.std.proofs.lemmas.List.{length-append, append-nil, map-append, length-map, get_or_append_left, get_or-append-add}
use Rattle.std.proofs.lemmas.Grind.{flat_map-append}
use Rattle.mt_words.specs.declared.update.Update.{Update}
use Rattle.mt_words.specs.Walks.{joined}
use Rattle.mt_words.specs.Changes.{Logged}
use Rattle.mt_words.specs.Updates.{update_of, updates_from}
use Rattle.mt_record.specs.Shares.{ShareView, updates_of_share}
use Rattle.mt_record.specs.Steps.Bodies.{IsLawfulBody}
use Rattle.mt_record.specs.Steps.Kept.{IsShare}
use Rattle.mt_record.specs.Decoding.{decode}

-- the updates of records are those of the first ones and those of the others
pub updates_split : (log from next : ℕ) (first others : List Logged) → next ≡ from + length first → updates_from log from (first ++ others) ≡ updates_from log from first ++ updates_from log next others
updates_split log from next [] others is = ap (λ (n : ℕ). updates_from log n others) (omega (arith, is))
updates_split log from next (r ∷ rs) others is =
    ap (λ (us : List Update). update_of log from r ++ us) (updates_split log (suc from) next rs others (omega (arith, is)))
    ∙ sym (append_assoc (update_of log from r) (updates_from log (suc from) rs) (updates_from log next others))

parts_are : {X : Type 0} (P : X → Type 0) (xs ys : List X) → All P (xs ++ ys) → All P xs × All P ys
parts_are P xs ys are = (
  λ k d below. subst P (get_or_append_left xs ys d k below) (are k d (omega (arith, below, length-append xs ys))),
  λ k d below. subst P (get_or-append-add xs ys k d) (are (length xs + k) d (omega (arith, below, length-append xs ys))),
)

-- the bodies of the next block make a share
pub next_share : (from : ℕ) (left next : List (List (List ℕ))) (block : List (List ℕ)) → left ≡ block ∷ next → All IsLawfulBody (joined left) → from + length (joined left) < 2 ^ 64
    → IsShare from block × All IsLawfulBody (joined next) × (from + length block + length (joined next) < 2 ^ 64)
next_share from left next block is are fits =
    let all : All IsLawfulBody (block ++ joined next) = subst (λ (blocks : List (List (List ℕ))). All IsLawfulBody (joined blocks)) is are in
    let size : length (joined left) ≡ length block + length (joined next) = ap (λ (blocks : List (List (List ℕ))). length (joined blocks)) is ∙ length-append block (joined next) in (
      record { lawful = (parts_are IsLawfulBody block (joined next) all).0; fits = omega (arith, size, fits) },
      (parts_are IsLawfulBody block (joined next) all).1,
      omega (arith, size, fits),
    )

-- one more share has the updates of the next block
pub share_more : (shares new : List ShareView) (log from after : ℕ) (left next : List (List (List ℕ))) (block : List (List ℕ)) (all : List Update) → left ≡ block ∷ next → after ≡ from + length block
    → new ≡ shares ++ record { log = log; from = from; records = map decode block } ∷ []
    → flat_map updates_of_share shares ++ updates_from log from (map decode (joined left)) ≡ all
    → flat_map updates_of_share new ++ updates_from log after (map decode (joined next)) ≡ all
share_more shares new log from after left next block all is follows more whole =
    let share : ShareView = record { log = log; from = from; records = map decode block } in
    let before = flat_map updates_of_share shares in
    let first = updates_from log from (map decode block) in
    let others = updates_from log after (map decode (joined next)) in
    let records : map decode (joined left) ≡ map decode block ++ map decode (joined next) = ap (λ (blocks : List (List (List ℕ))). map decode (joined blocks)) is ∙ map-append decode block (joined next) in
    let split : updates_from log from (map decode (joined left)) ≡ first ++ others =
    ap (updates_from log from) records ∙ updates_split log from after (map decode block) (map decode (joined next)) (omega (arith, follows, length-map block decode)) in
    let pushed : flat_map updates_of_share new ≡ before ++ first =
    ap (flat_map updates_of_share) more ∙ flat_map-append updates_of_share shares (share ∷ []) ∙ ap (λ (us : List Update). before ++ us) (append-nil first) in
    ap (λ (us : List Update). us ++ others) pushed ∙ append_assoc before first others ∙ ap (λ (us : List Update). before ++ us) (sym split) ∙ whole
