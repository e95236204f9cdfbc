use Rattle.std.proofs.Common.{◌≡◌, ◌∙◌, ◌+◌, ◌-◌, ◌^◌, ◌++◌, min, List, Some, refl, sym, subst, arith}
use Rattle.mt_words.specs.Changes.{Logged}
use Rattle.mt_record.specs.LogFeeding.{IsLogFed}
use Rattle.mt_record.specs.Cutting.{HasCut}
use Rattle.mt_scan.specs.declared.dropping_feed.DroppingFeed.{DroppingFeed}
use Rattle.mt_scan.specs.Steps.DroppingFeeds.{IsFedBelow}
use Rattle.mt_scan.proofs.DroppingFeeds.{none_late, more_late, first_late}
use Rattle.mt_scan.proofs.dropping_feed.DroppingFeed.drop_late.Goals as goal

pub returns-in-Some : goal.returns-in-Some
returns-in-Some c bytes sound h =
    let old : DroppingFeed = c.args.self.now in
    let later = c.drop_kept-later.result in
    let gone = c.cut-gone.result in
    let new : DroppingFeed = record {
      feed = c.drop_kept-later.new.self;
      kept = Some c.cut-gone.new.self;
      dropped = min (min (old.dropped + gone.updates) (2 ^ 64 - 1) + later.updates) (2 ^ 64 - 1);
      marks = min (min (old.marks + gone.marks) (2 ^ 64 - 1) + later.marks) (2 ^ 64 - 1);
    } in
    let first = c.count.ensures in
    let counted : c.count-in-Some.new.self ≡ new = c.count-in-Some.ensures ∙ (λ i. record {
      feed = (first i).feed;
      kept = (first i).kept;
      dropped = min ((first i).dropped + later.updates) (2 ^ 64 - 1);
      marks = min ((first i).marks + later.marks) (2 ^ 64 - 1);
    }) in
    subst (λ (f : DroppingFeed). IsFedBelow f c.args.limit bytes) (sym counted)
    (more_late old new c.args.limit bytes c.in-Some.kept c.cut-gone.new.self gone later h sound c.in-Some.is refl c.drop_kept-later.ensures.rest (c.drop_kept-later.ensures.fed bytes) c.drop_kept-later.ensures.gone c.cut-gone.ensures refl refl)

pub returns-then-latest-limit : goal.returns-then-latest-limit
returns-then-latest-limit c bytes sound h =
    let old : DroppingFeed = c.args.self.now in
    let gone = c.cut-first.result in
    let kept = c.cut-first.new.self in
    let new : DroppingFeed = record {
      feed = c.take_kept-kept.new.self;
      kept = Some kept;
      dropped = min (old.dropped + gone.updates) (2 ^ 64 - 1);
      marks = min (old.marks + gone.marks) (2 ^ 64 - 1);
    } in
    let ready = c.take_kept-kept.ensures.records in
    let cut : HasCut c.args.limit c.take_kept-kept.result kept gone = c.cut-first.ensures in
    subst (λ (f : DroppingFeed). IsFedBelow f c.args.limit bytes) (sym c.count-then-latest-limit.ensures)
    (first_late old new c.args.limit bytes kept gone h sound c.in-None.is refl c.take_kept-kept.ensures.rest (λ taken fed. subst (λ (rs : List Logged). IsLogFed new.feed bytes (taken ++ rs)) ready (c.take_kept-kept.ensures.fed bytes taken fed))
    (subst (λ (rs : List Logged). HasCut c.args.limit rs kept gone) ready cut) (omega (arith, c.latest.ensures, c.if-latest-limit.true)) refl refl)

pub returns-else-latest-limit : goal.returns-else-latest-limit
returns-else-latest-limit c bytes sound h = none_late c.args.self.now c.args.limit bytes h sound c.in-None.is (omega (arith, c.latest.ensures, c.if-latest-limit.false))
