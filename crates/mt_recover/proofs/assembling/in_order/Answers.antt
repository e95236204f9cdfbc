use Rattle.std.proofs.Common.{◌≡◌, ◌∙◌, ◌<◌, ◌∷◌, ◌++◌, [], ℕ, List, length, sym, ap, subst, append_assoc, arith}
use Rattle.std.specs.Vec.Iter.{into_iter_items}
use Rattle.mt_recover.specs.declared.haul.Piece.{Piece}
use Rattle.mt_recover.specs.Steps.Assembling.{AreDraftsOf, IsFirstLacking}
use Rattle.mt_recover.proofs.Assembles.{taken, passed, all_taken, next_lacks}
use Rattle.mt_recover.proofs.SharingLemmas.{all_yielded}
use Rattle.mt_recover.proofs.assembling.in_order.Goals as goal

pub loop-piece-preserved-then-number-len : goal.loop-piece-preserved-then-number-len
loop-piece-preserved-then-number-len c =
    let I = c.loop-piece.invariant in
    let drafts = c.loop-piece.drafts in
    let more = passed c.loop-piece.yielded c.in-Some.piece drafts.items (λ same. omega (arith, same, c.len.ensures, drafts.ok.0, c.if-number-len.true)) I.drafts I.passed in
    record {
      rest = append_assoc c.loop-piece.yielded (c.in-Some.piece ∷ []) (into_iter_items c.next.new.self) ∙ ap (λ xs. c.loop-piece.yielded ++ xs) (sym c.in-Some.ensures.steps.0) ∙ I.rest;
      drafts = more.0;
      passed = more.1;
    }

pub loop-piece-preserved : goal.loop-piece-preserved
loop-piece-preserved c =
    let I = c.loop-piece.invariant in
    let drafts = c.loop-piece.drafts in
    let rest = into_iter_items c.next.new.self in
    let whole = ap (λ xs. c.loop-piece.yielded ++ xs) (sym c.in-Some.ensures.steps.0) ∙ I.rest in
    let next : c.in-Some.piece.number ≡ length drafts.items = omega (arith, c.len.ensures, drafts.ok.0, c.if-number-len.false) in
    let more = taken c.args.pieces.items c.loop-piece.yielded rest c.in-Some.piece drafts.items c.push.new.self.items c.requires.sorted whole next c.in_ok-push.ensures.items I.drafts in
    record {
      rest = append_assoc c.loop-piece.yielded (c.in-Some.piece ∷ []) rest ∙ whole;
      drafts = more.0;
      passed = more.1;
    }

pub returns-then-len-count-clause-missing : goal.returns-then-len-count-clause-missing
returns-then-len-count-clause-missing c =
    let left = c.loop-piece.piece-iterator in
    let all = all_yielded c.args.pieces.items c.loop-piece.yielded (into_iter_items left) c.loop-piece.invariant.rest (omega (arith, left.rest.ok.0, c.in-None.ensures.steps.0)) in
    let drafts = c.loop-piece.drafts in
    let long : length drafts.items ≡ c.len-piece.result = omega (arith, c.len-piece.ensures, drafts.ok.0) in
    let below : length drafts.items < c.args.count = omega (arith, c.len-2.ensures, drafts.ok.0, c.if-len-count.true) in
    let lacks = next_lacks c.loop-piece.yielded drafts.items c.args.count below c.loop-piece.invariant.drafts c.loop-piece.invariant.passed in
    subst (λ (n : ℕ). IsFirstLacking c.args.pieces.items c.args.count n) long (subst (λ (pieces : List Piece). IsFirstLacking pieces c.args.count (length drafts.items)) all lacks)

pub returns-clause-long : goal.returns-clause-long
returns-clause-long c =
    let left = c.loop-piece.piece-iterator in
    let all = all_yielded c.args.pieces.items c.loop-piece.yielded (into_iter_items left) c.loop-piece.invariant.rest (omega (arith, left.rest.ok.0, c.in-None.ensures.steps.0)) in
    let drafts = c.loop-piece.drafts in
    all_taken c.args.pieces.items drafts.items c.args.count c.requires.within (subst (λ (pieces : List Piece). AreDraftsOf pieces drafts.items) all c.loop-piece.invariant.drafts)
    (λ below. omega (arith, below, c.len-2.ensures, drafts.ok.0, c.if-len-count.false))

pub returns-clause-drafts : goal.returns-clause-drafts
returns-clause-drafts c =
    let left = c.loop-piece.piece-iterator in
    let all = all_yielded c.args.pieces.items c.loop-piece.yielded (into_iter_items left) c.loop-piece.invariant.rest (omega (arith, left.rest.ok.0, c.in-None.ensures.steps.0)) in
    subst (λ (pieces : List Piece). AreDraftsOf pieces c.loop-piece.drafts.items) all c.loop-piece.invariant.drafts
