use Rattle.std.proofs.Common.{◌≡◌, ◌∙◌, ◌++◌, ◌∷◌, [], ℕ, List, map, subst, sym, ap, append_assoc}
use Rattle.mt_words.specs.Changes.{set}
use Rattle.mt_replay.specs.Cells.{IsCellOf, written}
use Rattle.mt_replay.proofs.InMemory.{cell_swapped}
use Rattle.mt_replay.proofs.in_memory.group.Group+Value.apply_columns.Goals as goal

pub loop-column-preserved : goal.loop-column-preserved
loop-column-preserved c =
    let seen = c.loop-column.invariant.seen in
    let column : ℕ × List ℕ = (c.column.inside.number, c.column.inside.bytes.items) in
    let last : c.loop-column.rest ≡ c.pop.new.self ++ column ∷ [] = c.in-Some.ensures.last ∙ ap (λ (x : ℕ × List ℕ). c.pop.new.self ++ x ∷ []) (sym c.column.view_is) in
    record {
      seen = column ∷ seen;
      were = c.loop-column.invariant.were ∙ ap (λ (first : List (ℕ × List ℕ)). first ++ seen) last ∙ append_assoc c.pop.new.self (column ∷ []) seen;
      reset = c.keep.ensures.reset ∙ c.loop-column.invariant.reset;
      cell = λ writes is. cell_swapped writes (written c.args.stamp (map set seen)) ((c.args.stamp, set column) ∷ []) c.keep.new.self.slots
          (c.keep.ensures.writes (writes ++ written c.args.stamp (map set seen)) (c.loop-column.invariant.cell writes is));
    }

pub returns-clause-writes : goal.returns-clause-writes
returns-clause-writes c = λ writes is.
    let seen : List (ℕ × List ℕ) = c.loop-column.invariant.seen in
    let all : c.args.columns ≡ seen = c.loop-column.invariant.were ∙ ap (λ (first : List (ℕ × List ℕ)). first ++ seen) c.in_default.ensures.none.0 in
    subst (λ (columns : List (ℕ × List ℕ)). IsCellOf (writes ++ written c.args.stamp (map set columns)) c.loop-column.self.slots) (sym all) (c.loop-column.invariant.cell writes is)
