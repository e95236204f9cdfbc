use Rattle.std.proofs.Common.{ℕ, List}
use Rattle.std.specs.Option.{option_map}
use Rattle.std.specs.Borrow.{Bor}
use Rattle.mt_words.specs.Changes.{writes_of}
use Rattle.mt_recover.specs.History.{Stands}
use Rattle.mt_recover.specs.Steps.Fates.{those_surviving}
use Rattle.mt_recover.proofs.HistoryLemmas.{none_so_far, one_more, all_so_far}
use Rattle.mt_recover.proofs.history.standing.Goals as goal

pub loop-number-init : goal.loop-number-init
loop-number-init c = none_so_far (Stands (those_surviving c.args.window c.args.updates.now) c.args.update.now) (writes_of c.args.update.now.kind) c.writes-writes.result c.new-numbers.result.items c.writes-writes.ensures.value c.new-numbers.ensures.items

pub loop-number-preserved : goal.loop-number-preserved
loop-number-preserved c =
    one_more (Stands (those_surviving c.args.window c.args.updates.now) c.args.update.now) (writes_of c.args.update.now.kind) (c.in-Some.number, option_map (λ (bytes : Bor (List ℕ)). bytes.now) c.in-Some.field-0-1) c.loop-number.writes c.next.new.self c.loop-number.numbers.items c.push_if_newest.new.numbers.items c.in-Some.ensures.some c.in_ok-push_if_newest.ensures c.loop-number.invariant

pub returns : goal.returns
returns c = all_so_far (Stands (those_surviving c.args.window c.args.updates.now) c.args.update.now) (writes_of c.args.update.now.kind) c.loop-number.writes c.loop-number.numbers.items c.in_default.ensures.none.0 c.loop-number.invariant
