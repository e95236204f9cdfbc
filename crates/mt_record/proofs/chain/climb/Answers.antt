use Rattle.std.proofs.Common.{◌≡◌, ◌+◌, ◌≤◌, ◌<◌, ℕ, suc, List, length, refl, sym, subst, arith}
use Rattle.std.specs.Prelude.{slice_index}
use Rattle.std.specs.List.Sorted.{IsPartitionPoint}
use Rattle.mt_record.specs.Steps.Climbs.{Climbed}
use Rattle.mt_record.proofs.Chains.{Step, climbed_on, put_in, put_as_long}
use Rattle.mt_record.proofs.chain.climb.Goals as goal

pub loop-place-preserved : goal.loop-place-preserved
loop-place-preserved c =
    let times = c.args.times.now in
    let I = c.loop-place.invariant in
    let ends = c.loop-place.ends.items in
    let places = c.loop-place.places.items in
    let i = c.loop-place.place in
    let t = slice_index times i in
    let rank = c.rank_of-rank.result in
    let within : rank ≤ length ends = subst (λ (xs : List ℕ). rank ≤ length xs) c.deref.ensures.value c.rank_of-rank.ensures.within in
    let point = subst (λ (xs : List ℕ). IsPartitionPoint (λ (end : ℕ). end ≤ t) (λ (end : ℕ). t < end) xs rank) c.deref.ensures.value c.rank_of-rank.ensures.point in
    let last = subst (λ (xs : List ℕ). (m : ℕ) → rank ≡ suc m → c.last_of-last.result ≡ slice_index xs m) c.deref-in-loop-place.ensures.value c.last_of-last.ensures in
    let step : Step times i t rank c.last_of-last.result ends places c.put.new.list.items c.put-in-loop-place.new.list.items = record {
      time = refl;
      within = within;
      low = λ j less. point.0 j 0 (omega arith) less;
      high = λ j le less. point.1 j 0 le less;
      last = last;
      ends_put = put_in ends rank t c.put.new.list.items within c.in_ok-put.ensures.set c.in_ok-put.ensures.appended;
      places_put = put_in places rank i c.put-in-loop-place.new.list.items (omega (arith, within, I.long)) c.in_ok-put-2.ensures.set c.in_ok-put-2.ensures.appended;
      as_long = put_as_long ends places rank t i c.put.new.list.items c.put-in-loop-place.new.list.items I.long within c.in_ok-put.ensures.set c.in_ok-put.ensures.appended c.in_ok-put-2.ensures.set c.in_ok-put-2.ensures.appended;
    } in
    subst (λ (xs : List ℕ). Climbed times (i + 1) c.put.new.list.items c.put-in-loop-place.new.list.items xs) (sym c.in_ok-push.ensures.items)
    (climbed_on times i t rank c.last_of-last.result ends places c.loop-place.before.items c.put.new.list.items c.put-in-loop-place.new.list.items I step)
