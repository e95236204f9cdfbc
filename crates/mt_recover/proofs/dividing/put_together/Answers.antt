use Rattle.std.proofs.Common.{rules, ◌≡◌, ◌∙◌, ◌++◌, List, length, map, sym, ap, subst}
use Rattle.std.specs.Prelude.{filter, sum_by, IsPermutation}
use Rattle.std.specs.List.{AllZip}
use Rattle.std.proofs.lemmas.List.Sorted.{IsPermutation-refl, IsPermutation-append}
use Rattle.mt_words.specs.declared.update.Update.{Update}
use Rattle.mt_words.specs.Walks.{joined}
use Rattle.mt_replay.specs.declared.window.Window.{Window}
use Rattle.mt_replay.specs.Batches.{BatchView, batched}
use Rattle.mt_replay.specs.Ranges.{dealt_by}
use Rattle.mt_replay.specs.Survivors.{in_window, is_early}
use Rattle.mt_replay.proofs.DealLemmas.{dealt_all}
use Rattle.mt_recover.specs.Steps.Preparing.{IsLeftBy}
use Rattle.mt_recover.specs.Tasks.{divide_task}
use Rattle.mt_recover.proofs.TaskLemmas.{left_of_tasks}
use Rattle.mt_recover.proofs.ReplayLemmas.{shares_dealt, joined_in_window, early_of_all}
use Rattle.mt_recover.proofs.dividing.put_together.Goals as goal
use Rattle.mt_recover.proofs.dividing.put_together.Goals.{After-total-early}

module _ (c : After-total-early) (window : Window) (batches : List BatchView) (are : c.args.done.items ≡ map (divide_task window c.args.cuts) batches) where
  -- this is left of each batch
  left : AllZip (λ batch. IsLeftBy window c.args.cuts batch.updates) batches c.in_ok-left_by.field-0.items
  left = left_of_tasks window c.args.cuts batches c.args.done.items c.in_ok-left_by.field-0.items are c.in_ok-left_by.ensures

  -- the ranges are the updates in the window, dealt
  ranges_are : c.in_ok-ranges.ranges.items ≡ dealt_by c.args.cuts (filter (in_window window) (batched batches))
  ranges_are =
      c.in_ok-ranges.ensures c.args.cuts (map (λ batch. filter (in_window window) batch.updates) batches) c.pieces.ensures.value
      (c.in_ok-early.ensures.seconds ∙ shares_dealt window c.args.cuts batches c.in_ok-left_by.field-0.items left)
      ∙ ap (dealt_by c.args.cuts) (joined_in_window window batches)

  -- so they have each of these updates
  same_updates : IsPermutation (filter (in_window window) (batched batches)) (joined c.in_ok-ranges.ranges.items)
  same_updates = subst (λ (ranges : List (List Update)). IsPermutation (filter (in_window window) (batched batches)) (joined ranges)) (sym ranges_are) (dealt_all c.args.cuts (filter (in_window window) (batched batches)) c.pieces.ensures.lawful)

  -- and the early updates are counted
  early_is : c.total-early.result ≡ length (filter (is_early window.begin) (batched batches))
  early_is =
      c.total-early.ensures (λ n. n) (λ x n e. search rules)
      ∙ ap (sum_by (λ n. n)) (c.deref.ensures.value ∙ c.in_ok-early.ensures.firsts)
      ∙ early_of_all window c.args.cuts batches c.in_ok-left_by.field-0.items left

pub of-requires : goal.of-requires
of-requires c = record { updates = filter (in_window c.requires.0) (batched c.requires.1); dealt = ranges_are c c.requires.0 c.requires.1 c.requires.2 }

pub returns-clause-divided : goal.returns-clause-divided
returns-clause-divided c = λ window batches are.
    let entries = joined c.args.entries.items in record {
      updates = subst (IsPermutation (filter (in_window window) (batched batches) ++ entries)) (sym c.of.ensures.updates)
          (IsPermutation-append (filter (in_window window) (batched batches)) (joined c.in_ok-ranges.ranges.items) entries entries (same_updates c.before.before window batches are) (IsPermutation-refl entries));
      early = early_is c.before.before window batches are;
    }
