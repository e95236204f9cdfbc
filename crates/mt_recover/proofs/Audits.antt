-- From the cells of all logs to their clashes.
use Rattle.std.proofs.Common.{◌≡◌, ◌∙◌, ℕ, zero, suc, ◌+◌, ◌<◌, List, [], ◌∷◌, length, map, Some, Result, Ok, IfOk, sym, ap, subst, arith}
use Rattle.std.specs.Prelude.{slice_get, slice_index_or}
use Rattle.std.specs.List.{All, AllZip, flat_map, range_with_len}
use Rattle.std.proofs.lemmas.List.{length-map}
use Rattle.std.proofs.lemmas.List.Folds.{flat_map-map}
use Rattle.std.proofs.lemmas.List.FromFn.{length-range_with_len, get_or-range_with_len}
use Rattle.std.proofs.lemmas.Slice.Zip.{AllZip-long}
use Rattle.mt_words.specs.declared.fault.Memory.{Memory}
use Rattle.mt_words.specs.declared.update.Update.{Update}
use Rattle.mt_replay.specs.Cuts.{updates_in}
use Rattle.mt_replay.specs.Clashes.{Clash, AreClashes, AreClashesOfPieces}
use Rattle.mt_recover.proofs.ReplayLemmas.{all_answered}

-- what holds for numbers and items in turn holds for the item at each place
each_numbered : {X Y : Type 0} (Q : ℕ → Y → Type 0) (of : X → Y) (from count : ℕ) (items : List X) → AllZip (λ number item. Q number (of item)) (range_with_len from count) items
    → (i : ℕ) (y : Y) → slice_get (map of items) i ≡ Some y → Q (from + i) y
each_numbered Q of from zero [] zip zero y is = absurd cc
each_numbered Q of from zero [] zip (suc i) y is = absurd cc
each_numbered Q of from zero (x ∷ xs) zip i y is = absurd zip
each_numbered Q of from (suc n) [] zip i y is = absurd zip
each_numbered Q of from (suc n) (x ∷ xs) zip zero y is =
    let same : of x ≡ y = cc in
    let place : from ≡ from + zero = omega arith in
    rw (sym place, sym same) zip.0
each_numbered Q of from (suc n) (x ∷ xs) zip (suc i) y is =
    let place : from + 1 + i ≡ from + suc i = omega arith in
    rw (sym place) (each_numbered Q of (from + 1) n xs zip.1 i y is)

-- the clashes of all pieces, if no piece ran out of memory
pub audit_of_pieces : {X : Type 0} (items : X → List Clash) (updates : List Update) (cuts : List (List ℕ)) (numbers : List ℕ) (answers : List (Result X Memory)) (done : List X) → numbers ≡ range_with_len 0 (length cuts + 1)
    → AllZip (λ piece answer. IfOk answer (λ found. AreClashes (updates_in cuts piece updates) (items found))) numbers answers → answers ≡ map Ok done → AreClashesOfPieces updates cuts (map items done)
audit_of_pieces {X} items updates cuts numbers answers done are all is =
    let P : ℕ → X → Type 0 = λ piece found. AreClashes (updates_in cuts piece updates) (items found) in
    let zip : AllZip P (range_with_len 0 (length cuts + 1)) done = subst (λ (l : List ℕ). AllZip P l done) are (all_answered P numbers answers done all is) in
    record {
      count = omega (arith, length-map done items, AllZip-long P (range_with_len 0 (length cuts + 1)) done zip, length-range_with_len 0 (length cuts + 1));
      each = λ i piece stands.
          let place : 0 + i ≡ i = omega arith in
          subst (λ (n : ℕ). AreClashes (updates_in cuts n updates) piece) place (each_numbered (λ n found. AreClashes (updates_in cuts n updates) found) items 0 (length cuts + 1) done zip i piece stands);
    }

-- and one after the other
pub joined_items : {X Y : Type 0} (items : X → List Y) (xs : List X) → flat_map items xs ≡ flat_map (λ list. list) (map items xs)
joined_items items xs = sym (flat_map-map (λ list. list) items xs)

-- the numbers of the pieces are below their count
pub all_below : (count : ℕ) (numbers : List ℕ) → numbers ≡ range_with_len 0 count → All (λ number. number < count) numbers
all_below count numbers are = λ i d within.
    let place : slice_index_or numbers i d ≡ 0 + i = ap (λ (l : List ℕ). slice_index_or l i d) are ∙ get_or-range_with_len 0 count i d (omega (arith, within, ap length are, length-range_with_len 0 count)) in
    omega (arith, place, within, ap length are, length-range_with_len 0 count)
