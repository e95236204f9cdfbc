use Rattle.std.proofs.Common.{List, ℕ, true, false, ap, sym, subst, ◌≡◌, ◌∙◌, arith}
use Rattle.std.specs.List.{filter}
use Rattle.std.specs.List.Sorted.{IsPartitionPoint}
use Rattle.std.specs.Prelude.{Option}
use Rattle.mt_words.specs.declared.update.Update.{Update}
use Rattle.mt_replay.specs.Cuts.{is_below, is_after, lower_cut}
use Rattle.mt_replay.proofs.FilterLemmas.{all_after, from_point, lower_none, lower_some}
use Rattle.mt_replay.proofs.parts.start_of.Goals as goal

pub returns-then-piece-eq0 : goal.returns-then-piece-eq0
returns-then-piece-eq0 c = all_after c.args.updates.now _ (ap (lower_cut c.args.cuts.now) c.if-piece-eq0.true)

pub returns-then-piece-cuts : goal.returns-then-piece-cuts
returns-then-piece-cuts c = all_after c.args.updates.now _ (lower_none c.args.cuts.now c.args.piece (omega arith))

pub returns : goal.returns
returns c =
    let updates : List Update = c.args.updates.now in
    let cut : List ℕ = c.index-cuts-piece.result in
    let there = lower_some c.args.cuts.now c.args.piece c.index-cuts-piece.result (omega arith) (omega arith) c.index-cuts-piece.is in
    let point = subst (λ (key : List ℕ). IsPartitionPoint (λ (u : Update). is_below u.key key ≡ true) (λ (u : Update). is_below u.key key ≡ false) updates c.place_of.result) c.as_bytes.ensures.value c.place_of.ensures.point in
    from_point (λ (u : Update). is_below u.key c.index-cuts-piece.result) updates c.place_of.result point ∙ ap (λ (b : Option (List ℕ)). filter (λ (u : Update). is_after b u.key) updates) (sym there)
