use Rattle.std.proofs.Common.{◌≤◌, ◌+◌, ◌++◌, ◌∙◌, List, [], ◌∷◌, length, take, take_all, refl, ap, arith}
use Rattle.std.specs.List.{filter}
use Rattle.mt_words.specs.declared.record.Change.{Change}
use Rattle.mt_words.specs.declared.update.Kind.TheVariants.{Remove}
use Rattle.mt_replay.specs.Survivors.{wholes}
use Rattle.mt_recover.specs.History.{is_of}
use Rattle.mt_recover.proofs.HistoryLemmas.{added, nothing_added, entries_step}
use Rattle.mt_recover.proofs.history.add_entries.Goals as goal

pub loop-number-init : goal.loop-number-init
loop-number-init c = nothing_added (is_of c.args.key.now) c.args.updates.now.items [] refl

pub loop-number-preserved : goal.loop-number-preserved
loop-number-preserved c =
    let entries = c.args.entries.now in
    let none : Change = record { version = 0; key = []; kind = Remove } in
    let step = entries_step entries c.loop-number.number none c.update.result (omega (arith, c.loop-number-test.true, c.len-number-end.ensures)) (c.update.ensures none) in
    added (is_of c.args.key.now) c.args.updates.now.items c.loop-number.updates.items c.add.new.updates.items (wholes (take c.loop-number.number entries)) (c.update.result ∷ []) (wholes (take (c.loop-number.number + 1) entries)) step c.loop-number.invariant c.in_ok-add.ensures

pub returns : goal.returns
returns c =
    let start = c.args.updates.now.items in
    let end : length c.args.entries.now ≤ c.loop-number.number = omega (arith, c.loop-number-test.false, c.len-number-end.ensures) in
    c.loop-number.invariant ∙ ap (λ (es : List Change). start ++ filter (is_of c.args.key.now) (wholes es)) (take_all c.loop-number.number c.args.entries.now end)
