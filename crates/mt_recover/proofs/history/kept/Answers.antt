use Rattle.std.proofs.Common.{◌∙◌, sym, subst}
use Rattle.std.proofs.lemmas.Bool.{false≢true}
use Rattle.mt_record.proofs.Feeds.{nil_if_empty, some_if_not}
use Rattle.mt_recover.specs.History.{AreStanding, IsLastRemove}
use Rattle.mt_recover.specs.Steps.Fates.{those_surviving}
use Rattle.mt_recover.proofs.history.kept.Goals as goal
use Rattle.mt_recover.proofs.history.kept.Goals.{else-is_empty-via-then-is_empty+else-not-is_last_remove, else-is_empty-via-else-is_empty}

pub returns-then-not-is_last_remove : goal.returns-then-not-is_last_remove
returns-then-not-is_last_remove c =
    let numbers = c.in_ok-numbers.numbers.items in
    let none = nil_if_empty numbers _ c.is_empty.result c.in_ok-numbers.numbers.ok.0 c.is_empty.ensures c.if-is_empty.true in (
      c.requires,
      subst (AreStanding (those_surviving c.args.window c.args.updates.now) c.args.update.now) none c.in_ok-numbers.ensures,
      λ last. false≢true (sym c.if-not-is_last_remove.true ∙ c.is_last_remove.ensures.1 last),
    )

pub returns : goal.returns
returns c = (
  c.requires,
  c.in_ok-numbers.ensures,
  λ none. elim c.else-is_empty.branch as (λ _. IsLastRemove (those_surviving c.args.window c.args.updates.now) c.args.update.now) [
    | else-is_empty-via-then-is_empty+else-not-is_last_remove w ↦ w.is_last_remove.ensures.0 w.if-not-is_last_remove.false
    | else-is_empty-via-else-is_empty w ↦ absurd (some_if_not c.in_ok-numbers.numbers.items _ c.is_empty.result c.in_ok-numbers.numbers.ok.0 c.is_empty.ensures w.if-is_empty.false none)
  ],
)
