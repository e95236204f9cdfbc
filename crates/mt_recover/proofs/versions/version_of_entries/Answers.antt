use Rattle.std.proofs.Common.{◌≡◌, ◌<◌, ◌∙◌, List, [], length, get_or, ap, take_all, arith}
use Rattle.mt_words.specs.declared.record.Change.{Change}
use Rattle.mt_words.specs.declared.update.Stamp.{Stamp}
use Rattle.mt_words.specs.declared.update.Update.{Update}
use Rattle.mt_words.specs.Built.{entry_of}
use Rattle.mt_record.specs.LogTexts.{greatest}
use Rattle.mt_recover.specs.Steps.Preparing.{entry_versions}
use Rattle.mt_recover.proofs.VersionLemmas.{greatest_more}
use Rattle.mt_recover.proofs.versions.version_of_entries.Goals as goal

pub loop-number-preserved : goal.loop-number-preserved
loop-number-preserved c =
    let entries = c.args.entries.now in
    let number = c.loop-number.number in
    let d : Change = entry_of 0 [] [] in
    let below : number < length entries = omega (arith, c.loop-number-test.true, c.len-number-end.ensures) in
    let is : c.stamp.result.version ≡ (get_or entries number d).version = ap (λ (s : Stamp). s.version) c.stamp.ensures ∙ ap (λ (u : Update). u.stamp.version) (c.update.ensures d) in
    omega (arith, c.max-version.ensures, greatest_more (λ (entry : Change). entry.version) entries number d c.stamp.result.version below is, c.loop-number.invariant)

pub returns : goal.returns
returns c =
    let entries = c.args.entries.now in
    c.loop-number.invariant ∙ ap (λ (es : List Change). greatest (entry_versions es)) (take_all c.loop-number.number entries (omega (arith, c.loop-number-test.false, c.len-number-end.ensures)))
