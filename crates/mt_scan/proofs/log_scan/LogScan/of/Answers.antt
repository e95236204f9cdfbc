use Rattle.std.proofs.Common.{◌≡◌, ◌∙◌, ◌<◌, ◌^◌, ◌-◌, ◌+◌, List, None, length, min, ap, sym, subst, refl, arith}
use Rattle.std.specs.List.{filter}
use Rattle.mt_words.specs.Changes.{Logged, is_mark}
use Rattle.mt_words.specs.Updates.{updates_from}
use Rattle.mt_record.specs.declared.front.LogFront.{LogFront}
use Rattle.mt_record.proofs.RecordLemmas.{marks_and_updates}
use Rattle.mt_scan.specs.Scans.{IsScanOf}
use Rattle.mt_scan.specs.Steps.DroppingFeeds.{scan_from}
use Rattle.mt_scan.proofs.SharedScans.{has_numbers}
use Rattle.mt_scan.proofs.log_scan.LogScan.of.Goals as goal

pub returns : goal.returns
returns c =
    let records : List Logged = c.args.text.records in
    let few = marks_and_updates c.args.log 0 records in
    let marks : min (min (length (filter is_mark records)) (2 ^ 64 - 1) + 0) (2 ^ 64 - 1) ≡ length (filter is_mark records) = omega (arith, c.len.ensures, c.len.type_inv, few) in
    let front : LogFront = record c.args.text.front { count = c.len.result } in
    λ bytes is.
    let number : length is.log.records < 2 ^ 64 = omega (arith, c.len.ensures, c.len.type_inv, ap length is.shows.records) in
    let count : c.len.result ≡ c.args.text.front.count = omega (arith, number, c.len.ensures, ap length is.shows.records, ap (λ (f : LogFront). f.count) is.shows.front) in
    let same : front ≡ c.args.text.front = (λ i. record c.args.text.front { count = count i }) in
    subst (IsScanOf c.args.log bytes) (sym c.scan_of.ensures) (record {
      log = is.log;
      is_reading = is.is_reading;
      shows = record {
        numbers = has_numbers bytes is.log (scan_from c.args.log (record c.args.text { front = front }) None 0 0) is.is_reading (same ∙ is.shows.front) number
            (marks ∙ ap (λ (records : List Logged). length (filter is_mark records)) is.shows.records);
        updates = ap (updates_from c.args.log 0) is.shows.records;
        dropped = refl;
      };
    })
