use Rattle.std.proofs.Common.{◌≡◌, ◌+◌, ◌++◌, ◌∙◌, List, take, sym, ap, subst, append_assoc}
use Rattle.std.specs.Prelude.{IsPermutation}
use Rattle.std.proofs.lemmas.List.Elements.{filter-append}
use Rattle.mt_words.specs.declared.update.Update.{Update}
use Rattle.mt_words.specs.Walks.{joined}
use Rattle.mt_replay.specs.Cuts.{in_piece, updates_in}
use Rattle.mt_replay.proofs.BatchLemmas.{joined_step}
use Rattle.mt_replay.proofs.parts.longest_in.Goals as goal

pub loop-updates-preserved : goal.loop-updates-preserved
loop-updates-preserved c =
    let lists : List (List Update) = c.args.lists.now in
    let i = c.loop-updates.updates-index in
    let told : List Update = updates_in c.args.cuts.now c.args.piece (joined (take i lists)) in
    let own : List Update = c.updates-item.result in
    let first : List Update = c.args.texts.now.items in
    let step : updates_in c.args.cuts.now c.args.piece (joined (take (i + 1) lists)) ≡ told ++ c.of-part.result =
    ap (λ (us : List Update). updates_in c.args.cuts.now c.args.piece us) (joined_step lists i own c.loop-updates-test.true c.updates-item.is)
    ∙ filter-append (λ (u : Update). in_piece c.args.cuts.now c.args.piece u.key) (joined (take i lists)) own ∙ ap (λ (us : List Update). told ++ us) (sym c.of-part.ensures) in
    subst (λ (us : List Update). IsPermutation us (c.in_ok-more.more ++ c.longer.new.texts.items)) (append_assoc first told c.of-part.result ∙ ap (λ (us : List Update). first ++ us) (sym step))
    (c.in_ok-more.ensures (first ++ told) c.loop-updates.invariant)
