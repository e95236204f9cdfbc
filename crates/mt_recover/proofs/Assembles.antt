-- Pieces at their places, and the pieces that are missing.
use Rattle.std.proofs.Common.{◌≡◌, ◌∙◌, ℕ, zero, suc, ◌+◌, ◌<◌, ⊎_elim, List, [], ◌∷◌, ◌++◌, map, length, true, false, Bool, Contains, IsPermutation, refl, sym, ap, subst, arith, cond}
use Rattle.std.specs.Prelude.{slice_index_or, nat_eq}
use Rattle.std.specs.List.{All}
use Rattle.std.specs.List.Sorted.{IsNonDecreasingBy}
use Rattle.std.proofs.lemmas.Bool.{cases_eq}
use Rattle.std.proofs.lemmas.Bool.Decides.{nat_tests}
use Rattle.std.proofs.lemmas.List.{map-append, length-append, length-map, length_push, get_or-map, get_or_append_left}
use Rattle.std.proofs.Math.Seq.{get_or-append_seam}
use Rattle.std.proofs.lemmas.Option.{slice_get_within, get_or_from_slice_get}
use Rattle.std.proofs.lemmas.List.Sums.{sum_by-append, sum_by-cons}
use Rattle.std.proofs.lemmas.List.Sorted.{IsPermutation-sym, Contains-permutation, All-permutation, IsPermutation-map, sum_by-IsPermutation}
use Rattle.std.proofs.lemmas.List.Elements.{All-nil, All-append, All-head, All-tail, All-push, All-contains, All-weaker, Contains-append_left, Contains-append_right}
use Rattle.mt_words.specs.declared.fault.Fault.{Fault}
use Rattle.mt_words.specs.declared.fault.Fault.TheVariants as faults
use Rattle.mt_board.specs.Board.{PassView, times, times_drawn}
use Rattle.mt_replay.specs.Pieces.{IsPiece, ArePieces}
use Rattle.mt_tree.specs.Borders.{DraftView, empty_draft, layer_walk}
use Rattle.mt_recover.specs.declared.haul.Haul.{Haul}
use Rattle.mt_recover.specs.declared.haul.Piece.{Piece}
use Rattle.mt_recover.specs.Steps.Assembling.{all_held, AreDraftsOf, times_numbered, IsFirstLacking, IsLacking}
use Rattle.mt_recover.specs.Hauls.{numbers, IsHaulOf, times_held, AreAllHeld, IsLeftOut, AllCameBack}
use Rattle.mt_recover.specs.Job.{JobView, IsPieceOf}

-- a held piece is the job's piece of its number
abbrev pub IsHeldBy : JobView → Piece → Type 0
IsHeldBy job piece = IsPieceOf job piece.number (layer_walk piece.draft)

abbrev number_of : Piece → ℕ
number_of piece = piece.number

-- ---- places

not_same : (a b : ℕ) → (a ≡ b → ⊥) → nat_eq a b ≡ false
not_same a b ne = grind (arith, nat_tests)

is_same : (a : ℕ) → nat_eq a a ≡ true
is_same a = grind (arith, nat_tests)

-- how often x occurs in a list with one more number in front
times_cons : (x y : ℕ) (ys : List ℕ) → times x (y ∷ ys) ≡ cond {A = ℕ} (nat_eq y x) 1 0 + times x ys
times_cons x y ys = sum_by-cons (λ (z : ℕ). cond (nat_eq z x) 1 0) y ys

-- ---- hauls

held_each : (job : JobView) (hauls : List Haul) → All (IsHaulOf job) hauls → All (IsHeldBy job) (all_held hauls)
held_each job [] all = All-nil (IsHeldBy job)
held_each job (h ∷ hs) all = All-append (IsHeldBy job) h.pieces.items (all_held hs) (All-head (IsHaulOf job) h hs all).pieces (held_each job hs (All-tail (IsHaulOf job) h hs all))

-- a number occurs among the pieces of all hauls as often as in the hauls together
times_all : (x : ℕ) (hauls : List Haul) → times x (map number_of (all_held hauls)) ≡ times_held x hauls
times_all x [] = refl
times_all x (h ∷ hs) = omega (
  arith,
  ap (times x) (map-append number_of h.pieces.items (all_held hs)),
  sum_by-append (λ (y : ℕ). cond (nat_eq y x) 1 0) (map number_of h.pieces.items) (map number_of (all_held hs)),
  sum_by-cons (λ (haul : Haul). times x (numbers haul)) h hs,
  times_all x hs,
)

counted : (pieces : List Piece) (r : Piece) (k : ℕ) → k < length pieces → slice_index_or pieces k r ≡ r → 0 < times r.number (map number_of pieces)
counted [] r k lt is = absurd (omega (arith, lt))
counted (p ∷ ps) r zero lt is =
    let one : cond {A = ℕ} (nat_eq p.number r.number) 1 0 ≡ 1 = ap (λ (b : Bool). cond {A = ℕ} b 1 0) (ap (λ (q : Piece). nat_eq q.number r.number) is ∙ is_same r.number) in
    omega (arith, one, times_cons r.number p.number (map number_of ps))
counted (p ∷ ps) r (suc k) lt is = let more = counted ps r k (omega (arith, lt)) is in omega (arith, more, times_cons r.number p.number (map number_of ps))

-- if there is a piece of number k, some piece is numbered k
there : (pieces : List Piece) (k : ℕ) (draft : DraftView) → Contains pieces (record { number = k; draft = draft }) → 0 < times_numbered k pieces
there pieces k draft at = counted pieces (record { number = k; draft = draft }) at.0 at.1 at.2

-- if no piece has the number, it is counted 0 times
none_numbered : (pieces : List Piece) (number : ℕ) → All (λ (piece : Piece). piece.number ≡ number → ⊥) pieces → times_numbered number pieces ≡ 0
none_numbered [] number all = refl
none_numbered (p ∷ ps) number all =
    let no : cond {A = ℕ} (nat_eq p.number number) 1 0 ≡ 0 = ap (λ (b : Bool). cond {A = ℕ} b 1 0) (not_same p.number number (All-head (λ (piece : Piece). piece.number ≡ number → ⊥) p ps all)) in
    omega (arith, no, times_cons number p.number (map number_of ps), none_numbered ps number (All-tail (λ (piece : Piece). piece.number ≡ number → ⊥) p ps all))

-- ---- drafts in order

-- none of the pieces so far has the next number, which is the number of drafts
abbrev pub NoneIsNext : List Piece → List DraftView → Type 0
NoneIsNext pieces drafts = All (λ (piece : Piece). piece.number ≡ length drafts → ⊥) pieces

-- if the next piece has the next number, its draft is taken
pub taken : (all done rest : List Piece) (piece : Piece) (drafts after : List DraftView) → IsNonDecreasingBy number_of all → done ++ piece ∷ rest ≡ all → piece.number ≡ length drafts → after ≡ drafts ++ piece.draft ∷ []
    → AreDraftsOf done drafts → AreDraftsOf (done ++ piece ∷ []) after × NoneIsNext (done ++ piece ∷ []) after
taken all done rest piece drafts after sorted whole next is are = (by_place, All-push (λ (p : Piece). p.number ≡ length after → ⊥) done piece below last)
  where
    long : length after ≡ length drafts + 1
    long = omega (arith, ap length is, length_push drafts piece.draft)

    by_place : AreDraftsOf (done ++ piece ∷ []) after
    by_place k d lt = ⊎_elim
        (λ (same : k ≡ length drafts).
        let at : slice_index_or after k d ≡ piece.draft = (λ i. slice_index_or (is i) (same i) d) ∙ get_or-append_seam drafts piece.draft [] d in
        let one : piece ≡ record { number = k; draft = slice_index_or after k d } = λ i. record { number = (next ∙ sym same) i; draft = sym at i } in
        subst (Contains (done ++ piece ∷ [])) one (Contains-append_right done (piece ∷ []) piece (zero, omega arith, refl)))
        (λ (other : k ≡ length drafts → ⊥).
        let before : k < length drafts = omega (arith, lt, long, other) in
        let at : slice_index_or after k d ≡ slice_index_or drafts k d = ap (λ (l : List DraftView). slice_index_or l k d) is ∙ get_or_append_left drafts (piece.draft ∷ []) d k before in
        subst (λ (x : DraftView). Contains (done ++ piece ∷ []) (record { number = k; draft = x })) (sym at) (Contains-append_left done (piece ∷ []) _ (are k d before)))
        (cases_eq k (length drafts))

    below : All (λ (p : Piece). p.number ≡ length after → ⊥) done
    below k d lt same =
        let here : slice_index_or all k d ≡ slice_index_or done k d = ap (λ (l : List Piece). slice_index_or l k d) (sym whole) ∙ get_or_append_left done (piece ∷ rest) d k lt in
        let seam : slice_index_or all (length done) d ≡ piece = ap (λ (l : List Piece). slice_index_or l (length done) d) (sym whole) ∙ get_or-append_seam done piece rest d in
        let in_all : length done < length all = omega (arith, ap length (sym whole), length-append done (piece ∷ rest)) in
        let falls = sorted k (length done) d (omega (arith, lt)) in_all in
        omega (arith, falls, ap number_of here, ap number_of seam, same, next, long)

    last : piece.number ≡ length after → ⊥
    last same = omega (arith, same, next, long)

-- if the next piece has another number, it is passed over
pub passed : (done : List Piece) (piece : Piece) (drafts : List DraftView) → (piece.number ≡ length drafts → ⊥) → AreDraftsOf done drafts → NoneIsNext done drafts
    → AreDraftsOf (done ++ piece ∷ []) drafts × NoneIsNext (done ++ piece ∷ []) drafts
passed done piece drafts other are none = (λ k d lt. Contains-append_left done (piece ∷ []) _ (are k d lt), All-push (λ (p : Piece). p.number ≡ length drafts → ⊥) done piece none other)

-- if the drafts are not too few, there is one for each number
pub all_taken : (pieces : List Piece) (drafts : List DraftView) (count : ℕ) → All (λ (piece : Piece). piece.number < count) pieces → AreDraftsOf pieces drafts → (length drafts < count → ⊥) → length drafts ≡ count
all_taken pieces drafts count within are enough = ⊎_elim (λ (same : length drafts ≡ count). same)
    (λ (other : length drafts ≡ count → ⊥).
    let more : count < length drafts = omega (arith, other, enough) in
    let at = All-contains (λ (piece : Piece). piece.number < count) pieces _ within (are count empty_draft more) in
    absurd (omega (arith, at)))
    (cases_eq (length drafts) count)

-- if they are too few, the next number is the least that no piece has
pub next_lacks : (pieces : List Piece) (drafts : List DraftView) (count : ℕ) → length drafts < count → AreDraftsOf pieces drafts → NoneIsNext pieces drafts → IsFirstLacking pieces count (length drafts)
next_lacks pieces drafts count below are none = record {
  within = below;
  lacking = none_numbered pieces (length drafts) none;
  first = λ k lt. there pieces k (slice_index_or drafts k empty_draft) (are k empty_draft lt);
}

-- ---- the pieces of a job

module _ (job : JobView) (hauls : List Haul) (pieces : List Piece) (count : ℕ) (held : IsPermutation (all_held hauls) pieces) (total : count ≡ job.board.total) where
  -- the pieces have a number as often as the hauls hold it
  same_times : (number : ℕ) → times_numbered number pieces ≡ times_held number hauls
  same_times number = sum_by-IsPermutation (λ (n : ℕ). cond (nat_eq n number) 1 0) (map number_of (all_held hauls)) (map number_of pieces) (IsPermutation-map number_of (all_held hauls) pieces held) ∙ times_all number hauls

  -- the pieces have numbers below the count
  pub held_within : All (IsHaulOf job) hauls → All (λ (piece : Piece). piece.number < count) pieces
  held_within are = All-permutation (λ (piece : Piece). piece.number < count) (all_held hauls) pieces held (All-weaker (IsHeldBy job) (λ (piece : Piece). piece.number < count) (λ piece is. omega (arith, is.0, total)) (all_held hauls) (held_each job hauls are))

  pub left_out : (fault : Fault) → IsLacking pieces count fault → IsLeftOut job hauls fault
  left_out (faults.Missing i) lacks = record {
    within = omega (arith, lacks.within, total);
    missing = omega (arith, lacks.lacking, same_times i);
    first = λ k lt. omega (arith, lacks.first k lt, same_times k);
  }
  left_out faults.Memory lacks = tt
  left_out fault lacks = absurd lacks

  -- if each piece was drawn and each piece drawn is held, nothing is missing
  pub none_left_out : (passes : List PassView) (fault : Fault) → AllCameBack job hauls passes → ((x : ℕ) → x < job.board.total → 0 < times_drawn x passes) → IsLacking pieces count fault → fault ≡ faults.Memory
  none_left_out passes (faults.Missing i) back drawn lacks =
      let held = back.held i (drawn i (omega (arith, lacks.within, total))) in
      absurd (omega (arith, held, lacks.lacking, same_times i))
  none_left_out passes faults.Memory back drawn lacks = refl
  none_left_out passes fault back drawn lacks = absurd lacks

  -- if there is a draft for each number, each piece of the job is held
  pub all_are_held : (drafts : List DraftView) → length drafts ≡ count → AreDraftsOf pieces drafts → AreAllHeld job hauls
  all_are_held drafts long are number lt =
      let numbered = there pieces number (slice_index_or drafts number empty_draft) (are number empty_draft (omega (arith, lt, long, total))) in
      omega (arith, numbered, same_times number)

  -- the drafts in order are those of the job's pieces
  pub in_order : (drafts : List DraftView) → job.board.total ≡ length job.prepared.cuts + 1 → All (IsHaulOf job) hauls → length drafts ≡ count → AreDraftsOf pieces drafts → ArePieces job.prepared.updates job.prepared.cuts (map layer_walk drafts)
  in_order drafts cut hauls_are long are = record {
    count = omega (arith, length-map drafts layer_walk, long, total, cut);
    each = λ k piece here.
        let within : k < length drafts = omega (arith, slice_get_within (map layer_walk drafts) k piece here, length-map drafts layer_walk) in
        let at = Contains-permutation pieces (all_held hauls) _ (IsPermutation-sym (all_held hauls) pieces held) (are k empty_draft within) in
        let one = All-contains (IsHeldBy job) (all_held hauls) _ (held_each job hauls hauls_are) at in
        subst (IsPiece job.prepared.updates job.prepared.cuts k) (sym (get_or-map layer_walk drafts k empty_draft piece within) ∙ get_or_from_slice_get (map layer_walk drafts) k piece piece here) one.1;
  }
