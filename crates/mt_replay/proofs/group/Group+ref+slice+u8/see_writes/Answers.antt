use Rattle.std.proofs.Common.{◌∙◌, ◌++◌, ◌∷◌, [], ℕ, List, subst, sym, ap, append_assoc}
use Rattle.std.proofs.lemmas.List.{append-nil, map-append}
use Rattle.std.specs.Option.{option_map}
use Rattle.std.specs.Borrow.{Bor}
use Rattle.mt_words.specs.Changes.{Write}
use Rattle.mt_replay.specs.Cells.{Written, IsCellOf, written}
use Rattle.mt_replay.proofs.group.Group+ref+slice+u8.see_writes.Goals as goal

pub loop-number-preserved : goal.loop-number-preserved
loop-number-preserved c =
    let seen = c.loop-number.invariant.seen in
    let column : Write = (c.in-Some.number, option_map (λ (bytes : Bor (List ℕ)). bytes.now) c.in-Some.bytes) in
    record {
      seen = seen ++ column ∷ [];
      were = c.loop-number.invariant.were ∙ ap (λ (more : List Write). seen ++ more) c.in-Some.ensures.some ∙ sym (append_assoc seen (column ∷ []) c.next.new.self);
      reset = c.keep.ensures.reset ∙ c.loop-number.invariant.reset;
      cell = λ writes is.
          let kept = c.keep.ensures.writes (writes ++ written c.args.stamp seen) (c.loop-number.invariant.cell writes is) in
          let added = append_assoc writes (written c.args.stamp seen) ((c.args.stamp, column) ∷ []) ∙ ap (λ (ws : List Written). writes ++ ws) (sym (map-append (λ (x : Write). (c.args.stamp, x)) seen (column ∷ []))) in
          subst (λ (ws : List Written). IsCellOf ws c.keep.new.self.slots) added kept;
    }

pub returns-clause-writes : goal.returns-clause-writes
returns-clause-writes c = λ writes is.
    let seen = c.loop-number.invariant.seen in
    let all = c.loop-number.invariant.were ∙ ap (λ (more : List Write). seen ++ more) c.in_default.ensures.none.0 ∙ append-nil seen in
    subst (λ (columns : List Write). IsCellOf (writes ++ written c.args.stamp columns) c.loop-number.self.slots) (sym all) (c.loop-number.invariant.cell writes is)
