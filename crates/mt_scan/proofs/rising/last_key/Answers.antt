use Rattle.std.proofs.Common.{◌≡◌, ◌<◌, ◌-◌, ℕ, length, get_or, ap, ◌∙◌, arith}
use Rattle.std.proofs.lemmas.List.{length-map}
use Rattle.mt_words.specs.declared.record.Change.{Change}
use Rattle.mt_record.proofs.RisingKeys.{key_at}
use Rattle.mt_scan.specs.Choice.{entry_keys}
use Rattle.mt_scan.proofs.RisingLemmas.{last_behind}
use Rattle.mt_scan.proofs.rising.last_key.Goals as goal

pub returns : goal.returns
returns c =
    let entries = c.args.entries.now in
    let key = c.key.result.now in
    let count = length-map entries (λ (entry : Change). entry.key) in
    let some : 0 < length entries = omega (arith, c.if-count-eq0.false, c.len-count.ensures) in
    let last : c.len-count.result - 1 ≡ length (entry_keys entries) - 1 = omega (arith, count, c.len-count.ensures) in
    let at = key_at entries (c.len-count.result - 1) key (omega (arith, some, c.len-count.ensures)) c.key.ensures in
    last_behind c.args.before (entry_keys entries) key (omega (arith, some, count)) (at ∙ ap (λ (n : ℕ). get_or (entry_keys entries) n key) last)
