use Rattle.std.proofs.Common.{rules, arith, ◌≡◌, inr, ℕ, ◌+◌, ◌-◌, ◌^◌, ◌<◌, min, List, [], ◌∷◌, ◌++◌, length, replicate, refl, ap, ◌∙◌, subst, append_assoc}
use Rattle.std.proofs.lemmas.List.{replicate_more}
use Rattle.mt_shared.specs.Words.{act}
use Rattle.mt_keeper.specs.Crews.{CrewView, Deed, looked, asked, Held, resting, IsDoing}
use Rattle.mt_keeper.proofs.Doing.{more, same_more, lent_with}
use Rattle.mt_keeper.proofs.crew.Crew.acknowledged_below.Goals as goal

pub loop-number-preserved : goal.loop-number-preserved
loop-number-preserved c =
    let x = c.loop-number.log-inside in
    let n = c.loop-number.number in
    let before = c.args.self.now.before in
    let least : c.min-least.result ≡ min c.loop-number.least c.load.result = search rules in
    let fewer : n < length before.logs = omega (arith, c.loop-number-test.true, c.self.invariant.0, ap (λ (v : CrewView). length v.before.logs) c.self.view_is) in
    let held : Held = record { writer = x.writer; seen = n; least = c.loop-number.least } in
    let next : Held = record { writer = x.writer; seen = n + 1; least = c.min-least.result } in record {
      doing = λ deeds done.
          subst (λ (ds : List Deed). IsDoing before (lent_with c.load.new.hand x.number x.segment x.from x.writer x.left x.failed) ds next)
          (append_assoc deeds (replicate n looked) (looked ∷ []) ∙ ap (λ (ds : List Deed). deeds ++ ds) (replicate_more n looked))
          (more before x.hand c.load.new.hand x.number x.segment x.from x.writer x.writer x.left x.left x.failed x.failed (act (n + 1) c.load.result c.load.result) (deeds ++ replicate n looked) looked held next
          c.load.ensures (c.loop-number.invariant.doing deeds done)
          (refl, inr (record { word = refl; more = fewer; after_is = ap (λ (m : ℕ). record { writer = x.writer; seen = n + 1; least = m }) least })) (omega arith));
      same = same_more x.hand c.load.new.hand x.number x.segment x.from x.writer x.left x.failed c.args.log.now (act (n + 1) c.load.result c.load.result) c.load.ensures c.loop-number.invariant.same;
    }

pub returns-clause-asked : goal.returns-clause-asked
returns-clause-asked c = λ deeds done.
    let x = c.loop-number.log-inside in
    let n = c.loop-number.number in
    let before = c.args.self.now.before in
    let below : c.min.result ≡ min c.loop-number.least (min (c.load-clock.result + 1) (2 ^ 64 - 1)) = omega (arith, c.min.ensures, c.saturating_add.ensures) in
    let all : n ≡ length before.logs = omega (arith, c.loop-number-test.false, c.loop-number.auto.number-end, c.self.invariant.0, ap (λ (v : CrewView). length v.before.logs) c.self.view_is) in
    let held : Held = record { writer = x.writer; seen = n; least = c.loop-number.least } in
    subst (λ (m : ℕ). IsDoing before (lent_with c.load-clock.new.hand x.number x.segment x.from x.writer x.left x.failed) ((deeds ++ replicate m looked) ++ asked c.min.result ∷ []) (resting x.writer)) all
    (more before x.hand c.load-clock.new.hand x.number x.segment x.from x.writer x.writer x.left x.left x.failed x.failed (act 0 c.load-clock.result c.load-clock.result) (deeds ++ replicate n looked)
    (asked c.min.result) held (resting x.writer) c.load-clock.ensures (c.loop-number.invariant.doing deeds done) (record { word = refl; left = refl }, all, below, refl) (omega arith))
