use Rattle.std.proofs.Common.{◌≡◌, rules, [], sym, subst}
use Rattle.mt_record.specs.declared.feed.file_feed.FileKind.TheVariants as kinds
use Rattle.mt_record.specs.LogFeeding.{FedLog, IsFedBehind, fed_log}
use Rattle.mt_record.proofs.Joins.{begins_behind}
use Rattle.mt_record.proofs.feed.file_feed.FileFeed+KeptRecords.behind_header.Goals as goal

pub returns : goal.returns
returns c bytes taken fed =
    let told : c.args.self.now.kind ≡ kinds.Untold → ⊥ = search rules in
    subst (λ (feed : FedLog). IsFedBehind feed []) (sym c.begun.ensures)
    (begins_behind (fed_log (λ records. records) c.args.self.now) c.in_ok-front.front bytes taken told c.in_ok-front.was fed)
