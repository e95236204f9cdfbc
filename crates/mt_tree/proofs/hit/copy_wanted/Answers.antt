use Rattle.std.proofs.Common.{ℕ, List, ◌++◌, ◌∷◌, [], ◌∙◌, sym, ap, subst, append_assoc}
use Rattle.mt_words.specs.Limits.{widest}
use Rattle.mt_words.specs.Words.{AreColumns}
use Rattle.mt_words.specs.Columns.{CanFollow}
use Rattle.mt_tree.proofs.WantedLemmas.{next_follows, is_next, is_left_out}
use Rattle.mt_tree.proofs.hit.copy_wanted.Goals as goal

pub add-requires : goal.add-requires
add-requires c =
    let column : ℕ × List ℕ = (c.in-Some.number, c.in-Some.bytes.now) in
    let seen = c.loop-number.invariant.seen in
    let all = c.loop-number.invariant.were ∙ ap (λ (rest : List (ℕ × List ℕ)). seen ++ rest) c.in-Some.ensures.some in
    subst (λ (copies : List (ℕ × List ℕ)). CanFollow widest copies column) (sym c.loop-number.invariant.copied)
    (next_follows c.args.wanted seen c.next.new.self column (subst (AreColumns widest) all c.lent-rest.ensures.lawful))

pub loop-number-preserved : goal.loop-number-preserved
loop-number-preserved c =
    let column : ℕ × List ℕ = (c.in-Some.number, c.in-Some.bytes.now) in
    let seen = c.loop-number.invariant.seen in
    record {
      seen = seen ++ column ∷ [];
      were = c.loop-number.invariant.were ∙ ap (λ (rest : List (ℕ × List ℕ)). seen ++ rest) c.in-Some.ensures.some ∙ sym (append_assoc seen (column ∷ []) c.next.new.self);
      copied = c.loop-number.invariant.copied ∙ sym (is_left_out c.args.wanted seen column (sym c.has.ensures ∙ c.if-has.false));
    }

pub loop-number-preserved-in-Continue-branch-2 : goal.loop-number-preserved-in-Continue-branch-2
loop-number-preserved-in-Continue-branch-2 c =
    let column : ℕ × List ℕ = (c.in-Some.number, c.in-Some.bytes.now) in
    let seen = c.loop-number.invariant.seen in
    record {
      seen = seen ++ column ∷ [];
      were = c.loop-number.invariant.were ∙ ap (λ (rest : List (ℕ × List ℕ)). seen ++ rest) c.in-Some.ensures.some ∙ sym (append_assoc seen (column ∷ []) c.next.new.self);
      copied = c.in_ok-add.ensures.ok ∙ ap (λ (copies : List (ℕ × List ℕ)). copies ++ column ∷ []) c.loop-number.invariant.copied ∙ sym (is_next c.args.wanted seen column (sym c.has.ensures ∙ c.if-has.true));
    }
