use Rattle.std.proofs.Common.{◌/◌, ◌%◌, ◌^◌, ℕ, ap, ◌∙◌}
use Rattle.std.proofs.lemmas.Nat.{div-mul-add, mod-mul-add}
use Rattle.mt_replay.proofs.NumberLemmas.{head_and_place}
use Rattle.mt_replay.proofs.sorting.begun.Goals as goal

pub returns-clause-begins : goal.returns-clause-begins
returns-clause-begins c =
    let bits = c.args.bits in
    let slice = c.slice_of.result in
    record {
      head = ap (λ (n : ℕ). n / 2 ^ bits) (head_and_place slice c.place_of.result bits _ c.slice_of.type_inv c.place_of.ensures.below) ∙ div-mul-add (slice / 2 ^ bits) (2 ^ bits) c.place_of.result c.place_of.ensures.below
          ∙ ap (λ (n : ℕ). n / 2 ^ bits) c.slice_of.ensures.value;
      bytes = c.slice_of.ensures.bytes;
    }

pub returns-clause-place : goal.returns-clause-place
returns-clause-place c =
    let bits = c.args.bits in
    let slice = c.slice_of.result in
    ap (λ (n : ℕ). n % 2 ^ bits) (head_and_place slice c.place_of.result bits _ c.slice_of.type_inv c.place_of.ensures.below) ∙ mod-mul-add (slice / 2 ^ bits) (2 ^ bits) c.place_of.result c.place_of.ensures.below ∙ c.place_of.ensures.value
