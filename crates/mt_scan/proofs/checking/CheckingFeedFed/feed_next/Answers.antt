use Rattle.std.proofs.Common.{◌++◌, ℕ, ◌+◌, ◌-◌, ◌^◌, min, refl, sym, ap, ◌∙◌}
use Rattle.mt_record.specs.LogFeeding.{FedLog}
use Rattle.mt_record.proofs.FileFeeds.{log_fed_on}
use Rattle.mt_scan.specs.declared.checking.CheckingFeed.{CheckingFeed}
use Rattle.mt_scan.proofs.Steps.{has_fault}
use Rattle.mt_scan.proofs.CheckLemmas.{counts_more}
use Rattle.mt_scan.proofs.checking.CheckingFeedFed.feed_next.Goals as goal

pub returns-clause-fed : goal.returns-clause-fed
returns-clause-fed c begun bytes ready few =
    let old = c.args.self.now in
    let now = bytes ++ c.args.piece.now in
    let new : CheckingFeed = record { feed = c.drop_at.new.self; limit = old.limit; marks = c.saturating_add-self-2.result; late = c.saturating_add-self.result } in (
      ready.0,
      counts_more old new c.feed.new.self bytes now c.drop_at.result.0 c.drop_at.result.1 ready.1 few refl (λ records. c.feed.ensures.fed bytes records) (λ records. c.drop_at.ensures.fed now records) c.drop_at.ensures.rest c.drop_at.ensures.gone
          c.saturating_add-self.ensures (c.saturating_add-self-2.ensures ∙ ap (λ (n : ℕ). min (n + c.drop_at.result.1.marks) (2 ^ 64 - 1)) c.saturating_add.ensures),
    )

pub returns-clause-stops : goal.returns-clause-stops
returns-clause-stops c failed begun bytes more is =
    let feed = c.drop_at.new.self in
    let there = has_fault c.feed.result c.feed.new.self.fault (sym c.is_ok-goes_on.ensures.value ∙ failed) c.feed.ensures.kept in
    let stands = ap (λ (f : FedLog). f.fault) c.drop_at.ensures.rest ∙ there.1 in
    let h = is.1 in (
      is.0,
      record {
        records = h.records;
        fed = log_fed_on feed there.0 bytes more h.records stands h.fed;
        none = h.none;
        few = h.few;
        marks = h.marks;
        late = h.late;
      },
    )
