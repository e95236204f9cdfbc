use Rattle.std.proofs.Common.{◌≡◌, ◌++◌, List, refl, subst}
use Rattle.std.specs.Prelude.{IsPermutation}
use Rattle.mt_words.specs.declared.update.Update.{Update}
use Rattle.mt_words.specs.Walks.{joined}
use Rattle.mt_replay.specs.Cuts.{updates_in}
use Rattle.mt_replay.proofs.DealLemmas.{of_texts}
use Rattle.std.proofs.lemmas.Result.{IfOk-weaker}
use Rattle.mt_replay.proofs.PieceLemmas.{map_made, piece_made}
use Rattle.mt_replay.proofs.divided.replay_range.Goals as goal

pub returns : goal.returns
returns g c =
    let cuts = c.args.cuts.now in
    let i = c.args.piece in
    let held : List Update = joined c.args.entries.now in
    let range : List Update = c.args.range.now in
    let sorted : List Update = c.in_ok-sorted.sorted.items in
    let own : (logged : List Update) → range ≡ updates_in cuts i logged → IsPermutation (updates_in cuts i (logged ++ held)) sorted = λ logged is.
    subst (λ (us : List Update). IsPermutation us sorted) (of_texts cuts logged held range (range ++ updates_in cuts i held) i is refl) c.in_ok-sorted.ensures.same in
    let made = rw c.deref.ensures.value at c.replay_sorted.ensures in
    record {
      map = IfOk-weaker c.replay_sorted.result _ _ (λ filled. map_made cuts i _ sorted (g.S.PairSink.pairs filled) (own c.requires.range.0 c.requires.range.1)) made;
      walk = IfOk-weaker c.replay_sorted.result _ _ (λ filled made logged is. piece_made cuts i _ sorted (g.S.PairSink.pairs filled) (own logged is) made) made;
    }
