-- Recovery finds the same cutoff and chooses the same checkpoint in whatever order the logs are.
use Rattle.std.proofs.Common.{◌≡◌, ℕ, ◌≤◌, Option, None, Some, List, [], ◌∷◌, Contains, refl, sym, subst, arith, length}
use Rattle.std.specs.List.{AllZip, flat_map}
use Rattle.std.specs.List.Sorted.{IsPermutation, apply_swaps}
use Rattle.std.proofs.lemmas.List.Elements.{All-contains, All-contains_itself, All-weaker}
use Rattle.std.proofs.lemmas.List.Sorted.{IsPermutation-sym, Contains-permutation}
use Rattle.std.proofs.lemmas.Slice.Zip.{AllZip-long}
use Rattle.mt_record.specs.declared.feed.head.Segment.{Segment}
use Rattle.mt_record.specs.Logs.{LogReading, IsReading, times_of, IsGreatestOf}
use Rattle.mt_record.proofs.OneReading.{one_reading_of}
use Rattle.mt_scan.specs.Cutoff.{is_segment_of, files_of, HasLast, IsCutoff}
use Rattle.mt_scan.specs.Choice.{IsChosenOf}
use Rattle.mt_scan.specs.PartScans.{KnownPart}
use Rattle.mt_scan.proofs.OneChoice.{one_chosen}
use Rattle.mt_replay.proofs.Members.{of_filter, in_filter, of_flat_map, in_flat_map}
use Rattle.mt_recover.specs.Recovery.{Facts}
use Rattle.mt_laws.proofs.Orders.{swaps_of, zip_swaps}
use Rattle.mt_laws.proofs.ServerCrashes.{known_is}

-- the readings of the same logs are the same
same_readings : (logs : List (List ℕ)) (xs ys : List LogReading) → AllZip IsReading logs xs → AllZip IsReading logs ys → xs ≡ ys
same_readings [] [] [] are too = refl
same_readings [] [] (y ∷ ys) are too = absurd too
same_readings [] (x ∷ xs) ys are too = absurd are
same_readings (l ∷ ls) [] ys are too = absurd are
same_readings (l ∷ ls) (x ∷ xs) [] are too = absurd too
same_readings (l ∷ ls) (x ∷ xs) (y ∷ ys) are too =
    let first = one_reading_of l x y are.0 too.0 in
    let rest = same_readings ls xs ys are.1 too.1 in
    λ i. first i ∷ rest i

-- ---- the cutoff

time_in : (segment : Option Segment) (log : LogReading) (xs ys : List LogReading) (time : ℕ) → IsPermutation xs ys → Contains (flat_map times_of (files_of segment log xs)) time
    → Contains (flat_map times_of (files_of segment log ys)) time
time_in None log xs ys time order at = at
time_in (Some segment) log xs ys time order at =
    let file = of_flat_map times_of (files_of (Some segment) log xs) time at in
    let is = of_filter (λ (other : LogReading). is_segment_of segment.worker other.head.segment) xs file.0 file.1 in
    in_flat_map times_of (files_of (Some segment) log ys) file.0 time
    (in_filter (λ (other : LogReading). is_segment_of segment.worker other.head.segment) ys file.0 is.1 (Contains-permutation xs ys file.0 order is.0)) file.2

last_in : (segment : Option Segment) (log : LogReading) (xs ys : List LogReading) (last : ℕ) → IsPermutation xs ys → IsGreatestOf (flat_map times_of (files_of segment log xs)) last
    → IsGreatestOf (flat_map times_of (files_of segment log ys)) last
last_in segment log xs ys last order is = (
  time_in segment log xs ys last order is.0,
  All-weaker (Contains now) (λ (time : ℕ). time ≤ last) (λ time at.
      All-contains (λ (time : ℕ). time ≤ last) (flat_map times_of (files_of segment log xs)) time is.1 (time_in segment log ys xs time (IsPermutation-sym xs ys order) at)) now (All-contains_itself now),
)
  where
    now : List ℕ
    now = flat_map times_of (files_of segment log ys)

has_last_in : (xs ys : List LogReading) (last : ℕ) → IsPermutation xs ys → HasLast xs last → HasLast ys last
has_last_in xs ys last order has = record {
  log = has.log;
  stands = Contains-permutation xs ys has.log order has.stands;
  is_last = last_in has.log.head.segment has.log xs ys last order has.is_last;
}

same_cutoff : (xs ys : List LogReading) (cutoff other : ℕ) → IsPermutation xs ys → IsCutoff xs cutoff → IsCutoff ys other → other ≡ cutoff
same_cutoff xs ys cutoff other order is too =
    let low = too.least cutoff (has_last_in xs ys cutoff order is.has) in
    let high = is.least other (has_last_in ys xs other (IsPermutation-sym xs ys order) too.has) in
    omega (arith, low, high)

-- ---- what recovery finds

pub in_any_order : (logs others parts : List (List ℕ)) (facts : Facts logs parts) (after : Facts others parts) → IsPermutation logs others
    → (after.cutoff ≡ facts.cutoff) × (after.chosen ≡ facts.chosen)
in_any_order logs others parts facts after order =
    let same = same_cutoff facts.readings after.readings facts.cutoff after.cutoff readings facts.is_cutoff after.is_cutoff in (
      same,
      one_chosen facts.known facts.cutoff after.chosen facts.chosen
          (subst (λ (x : List KnownPart × ℕ). IsChosenOf x.0 x.1 after.chosen) (λ i. (known_is others parts after facts.known facts.are_known i, same i)) after.is_chosen) facts.is_chosen,
    )
  where
    read : AllZip IsReading others (apply_swaps facts.readings order.moves)
    read = subst (λ (ls : List (List ℕ)). AllZip IsReading ls (apply_swaps facts.readings order.moves)) (sym order.is)
        (zip_swaps IsReading logs facts.readings order.moves facts.read order.below)

    readings : IsPermutation facts.readings after.readings
    readings = record {
      moves = order.moves;
      below = swaps_of (length logs) (length facts.readings) order.moves order.below (let long = AllZip-long IsReading logs facts.readings facts.read in omega (arith, long));
      is = same_readings others after.readings (apply_swaps facts.readings order.moves) after.read read;
    }
