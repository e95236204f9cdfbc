use Rattle.std.proofs.Common.{◌≡◌, ◌∙◌, ◌++◌, List, length, ap, subst, arith}
use Rattle.std.specs.Prelude.{IsPermutation}
use Rattle.mt_words.specs.declared.update.Update.{Update}
use Rattle.mt_words.specs.Walks.{joined}
use Rattle.mt_replay.specs.Cuts.{updates_in}
use Rattle.mt_replay.specs.Divided.{DividedView}
use Rattle.mt_replay.proofs.DealLemmas.{ranges_count, own_range, of_texts}
use Rattle.std.proofs.lemmas.Result.{IfOk-weaker}
use Rattle.mt_replay.proofs.divided.Divided.texts.Goals as goal

pub index-range-requires : goal.index-range-requires
index-range-requires c =
    omega (arith, c.requires, ranges_count c.self.inside.cuts c.self.inside.ranges.items c.self.invariant.1, ap (λ (d : DividedView). length d.cuts) c.self.view_is)

pub returns-clause-same : goal.returns-clause-same
returns-clause-same c =
    let i = c.args.piece in
    let cuts = c.self.inside.cuts in
    let ranges = c.self.inside.ranges.items in
    let held : List Update = joined c.self.inside.entries.items in
    let range : List Update = c.index-range.result.now in
    let own = own_range cuts ranges i range c.self.invariant (omega (arith, c.requires, ap (λ (d : DividedView). length d.cuts) c.self.view_is)) c.index-range.ensures in
    let are : range ++ updates_in cuts i (joined c.deref.result.now) ≡ updates_in c.args.self.now.cuts i c.args.self.now.updates =
    of_texts cuts (joined ranges) held range (range ++ updates_in cuts i (joined c.deref.result.now)) i own (ap (λ (ls : List (List Update)). range ++ updates_in cuts i (joined ls)) c.deref.ensures.value)
    ∙ ap (λ (d : DividedView). updates_in d.cuts i d.updates) c.self.view_is in
    IfOk-weaker c.texts_in.result _ _ (λ sorted. subst (λ (us : List Update). IsPermutation us sorted.items) are) c.texts_in.ensures.same

pub texts_in-requires : goal.texts_in-requires
texts_in-requires c =
    let cuts = c.self.inside.cuts in
    let ranges = c.self.inside.ranges.items in
    (joined ranges, own_range cuts ranges c.args.piece c.index-range.result.now c.self.invariant (omega (arith, c.requires, ap (λ (d : DividedView). length d.cuts) c.self.view_is)) c.index-range.ensures)
