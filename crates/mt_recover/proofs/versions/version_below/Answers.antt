use Rattle.std.proofs.Common.{◌<◌, List, length, ap, arith}
use Rattle.std.specs.Prelude.{slice_index_or}
use Rattle.std.specs.List.{filter}
use Rattle.std.proofs.lemmas.List.Elements.{filter-append}
use Rattle.mt_words.specs.declared.update.Update.{Update}
use Rattle.mt_words.specs.Built.{mark_of}
use Rattle.mt_words.specs.Updates.{update_of}
use Rattle.mt_record.specs.LogTexts.{greatest}
use Rattle.mt_recover.specs.Report.{versions, is_below}
use Rattle.mt_recover.proofs.HistoryLemmas.{first_of, first_push}
use Rattle.mt_recover.proofs.VersionLemmas.{greatest_both}
use Rattle.mt_recover.proofs.versions.version_below.Goals as goal

pub loop-number-preserved : goal.loop-number-preserved
loop-number-preserved c =
    let kept = c.args.scan.now.updates in
    let n = c.loop-number.number in
    let d = mark_of 0 in
    let below = is_below c.args.cutoff in
    let old = first_of kept n in
    let more = update_of kept.log n (slice_index_or kept.records n d) in
    let within : n < length kept.records = omega (arith, c.loop-number-test.true, c.record_count-number-end.ensures) in
    omega (
      arith,
      c.max-version.ensures,
      c.version_at.ensures d,
      c.loop-number.invariant,
      greatest_both (filter below old) (filter below more),
      ap (λ (us : List Update). greatest (versions us)) (filter-append below old more),
      ap (λ (us : List Update). greatest (versions (filter below us))) (first_push kept n d within),
    )
