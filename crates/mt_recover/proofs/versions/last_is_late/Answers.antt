use Rattle.std.proofs.Common.{◌≡◌, ◌+◌, ◌++◌, ◌-◌, ◌∙◌, List, [], ◌∷◌, sym, ap, false, rules, arith}
use Rattle.std.specs.Prelude.{nat_le}
use Rattle.std.proofs.lemmas.List.{append-nil}
use Rattle.mt_words.specs.declared.update.Update.{Update}
use Rattle.mt_words.specs.OneLog.{as_list, kept_updates}
use Rattle.mt_recover.specs.Steps.LogScans.{last_is_late}
use Rattle.mt_recover.proofs.HistoryLemmas.{first_of, first_step}
use Rattle.mt_recover.proofs.VersionLemmas.{late_end}
use Rattle.mt_recover.proofs.versions.last_is_late.Goals as goal

pub returns-in-Some : goal.returns-in-Some
returns-in-Some c =
    let kept = c.args.updates.now in
    let n = c.loop-left.left - 1 in
    let whole : first_of kept n ++ as_list c.update.result ≡ kept_updates kept =
    sym (first_step kept n (as_list c.update.result) (omega (arith, c.loop-left.invariant.0, c.loop-left-test.true)) c.update.ensures)
    ∙ ap (first_of kept) (omega (arith, c.loop-left-test.true)) ∙ c.loop-left.invariant.1 in
    let last : first_of kept n ++ c.in-Some.update ∷ [] ≡ kept_updates kept = rw c.in-Some.is at whole in
    ap (nat_le c.args.cutoff) c.timestamp.ensures ∙ sym (late_end c.args.cutoff false (first_of kept n) c.in-Some.update) ∙ ap (last_is_late c.args.cutoff false) last

pub loop-left-preserved : goal.loop-left-preserved
loop-left-preserved c =
    let kept = c.args.updates.now in
    let n = c.loop-left.left - 1 in
    let whole : first_of kept n ++ as_list c.update.result ≡ kept_updates kept =
    sym (first_step kept n (as_list c.update.result) (omega (arith, c.loop-left.invariant.0, c.loop-left-test.true)) c.update.ensures)
    ∙ ap (first_of kept) (omega (arith, c.loop-left-test.true)) ∙ c.loop-left.invariant.1 in
    let none : as_list c.update.result ≡ [] = search rules in
    (omega (arith, c.loop-left.invariant.0), sym (append-nil (first_of kept n)) ∙ ap (λ (us : List Update). first_of kept n ++ us) (sym none) ∙ whole)
