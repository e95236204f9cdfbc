use Rattle.std.proofs.Common.{◌≡◌, ◌+◌, ◌++◌, ◌∷◌, [], ℕ, List, map, take, get_or, ◌∙◌, subst, arith}
use Rattle.std.proofs.lemmas.List.{take_all}
use Rattle.std.proofs.lemmas.Grind.{common_steps}
use Rattle.mt_words.specs.Changes.{erased}
use Rattle.mt_replay.specs.Cells.{Written, IsCellOf, written}
use Rattle.mt_replay.proofs.in_memory.group.Group+Value.apply_numbers.Goals as goal

pub loop-number-preserved : goal.loop-number-preserved
loop-number-preserved c =
    let numbers = c.args.numbers.now in
    let i = c.loop-number.number-index in
    let stamp = c.args.stamp in
    let n : ℕ = get_or numbers i 0 in
    record {
      reset = c.keep.ensures.reset ∙ c.loop-number.invariant.reset;
      cell = λ writes is.
          let kept = c.keep.ensures.writes (writes ++ written stamp (map erased (take i numbers))) (c.loop-number.invariant.cell writes is) in
          let more : (writes ++ written stamp (map erased (take i numbers))) ++ (stamp, erased n) ∷ [] ≡ writes ++ written stamp (map erased (take (i + 1) numbers)) = grind (arith, common_steps) in
          subst (λ (ws : List Written). IsCellOf ws c.keep.new.self.slots) more kept;
    }

pub returns-clause-writes : goal.returns-clause-writes
returns-clause-writes c = λ writes is.
    let numbers = c.args.numbers.now in
    let all : take c.loop-number.number-index numbers ≡ numbers = take_all c.loop-number.number-index numbers (omega arith) in
    subst (λ (ns : List ℕ). IsCellOf (writes ++ written c.args.stamp (map erased ns)) c.loop-number.self.slots) all (c.loop-number.invariant.cell writes is)
