use Rattle.std.proofs.Common.{◌≡◌, ◌-◌, ◌<◌, suc, true, false, List, Bool, length, set, replicate, refl, sym, subst, arith}
use Rattle.std.specs.Prelude.{slice_index}
use Rattle.std.proofs.lemmas.Bool.Decides.{nat_tests}
use Rattle.mt_record.specs.Salvage.{KeepMost}
use Rattle.mt_record.proofs.Chains.{Walked, walk_begins, walk_within, walk_on, walk_ends, no_walk}
use Rattle.mt_record.proofs.chain.walk.Goals as goal

pub returns-then-is_empty : goal.returns-then-is_empty
returns-then-is_empty c =
    let times = c.args.times.now in
    let all : c.in_ok-marks.marks.items ≡ replicate (length times) false = c.in_ok-marks.ensures.items_if_clones_equal (λ y h. h) in
    let none : length c.args.places.now ≡ 0 = grind (arith, nat_tests, c.is_empty.ensures, c.if-is_empty.true) in
    subst (KeepMost times) (sym all) (no_walk times c.requires.0 c.args.places.now c.args.before.now c.requires.1 none)

pub walk-init : goal.walk-init
walk-init c =
    let times = c.args.times.now in
    let places = c.args.places.now in
    let left = length places - 1 in
    let last = slice_index places left in
    let all : c.in_ok-marks.marks.items ≡ replicate (length times) false = c.in_ok-marks.ensures.items_if_clones_equal (λ y h. h) in
    let some : 0 < length places = grind (arith, nat_tests, c.is_empty.ensures, c.if-is_empty.false) in
    subst (λ (marks : List Bool). Walked times c.args.before.now (length places) left last (set marks last true)) (sym all)
    (walk_begins times c.requires.0 places c.args.before.now last left c.requires.1 (omega (arith, some)) refl)

pub index_mut-requires-in-walk : goal.index_mut-requires-in-walk
index_mut-requires-in-walk c =
    let left = c.walk.left in
    let e : left ≡ suc (left - 1) = omega (arith, c.walk-test.true) in
    let within = walk_within c.args.times.now c.requires.0 c.args.places.now c.args.before.now (length c.args.places.now) left (left - 1) c.walk.place c.walk.marks.items c.requires.1 e c.walk.invariant in
    omega (arith, within, c.walk.marks.ok.0)

pub walk-preserved : goal.walk-preserved
walk-preserved c =
    let left = c.walk.left in
    let e : left ≡ suc (left - 1) = omega (arith, c.walk-test.true) in
    walk_on c.args.times.now c.requires.0 c.args.places.now c.args.before.now (length c.args.places.now) left (left - 1) c.walk.place c.walk.marks.items c.requires.1 e c.walk.invariant

pub returns : goal.returns
returns c =
    let none : c.walk.left ≡ 0 = omega (arith, c.walk-test.false) in
    walk_ends c.args.times.now c.requires.0 c.args.places.now c.args.before.now c.walk.left c.walk.place c.walk.marks.items c.requires.1 none c.walk.invariant
