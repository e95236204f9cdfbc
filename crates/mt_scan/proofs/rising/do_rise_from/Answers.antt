use Rattle.std.proofs.Common.{◌<◌, length, arith}
use Rattle.std.proofs.lemmas.List.{length-map}
use Rattle.mt_words.specs.declared.record.Change.{Change}
use Rattle.mt_record.proofs.RisingKeys.{key_at}
use Rattle.mt_scan.specs.Choice.{entry_keys}
use Rattle.mt_scan.specs.Steps.Checkpoints.{none_or_one}
use Rattle.mt_scan.proofs.RisingLemmas.{rise_behind}
use Rattle.mt_scan.proofs.rising.do_rise_from.Goals as goal

pub returns-else-len-eq0 : goal.returns-else-len-eq0
returns-else-len-eq0 c =
    let entries = c.args.entries.now in
    let first = c.key.result.now in
    let some : 0 < length entries = omega (arith, c.if-len-eq0.false, c.len.ensures) in
    let follows = rise_behind (none_or_one c.args.before) (entry_keys entries) first (omega (arith, some, length-map entries (λ (entry : Change). entry.key))) (key_at entries 0 first some c.key.ensures) (c.is_rising.ensures.0 c.if-is_rising.true) in
    (λ h. follows.0 (c.can_follow.ensures.0 h), λ rise. c.can_follow.ensures.1 (follows.1 rise))
