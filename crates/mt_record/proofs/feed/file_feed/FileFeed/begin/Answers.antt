use Rattle.std.proofs.Common.{◌++◌, ◌∙◌, List, ℕ, sym, ap, subst}
use Rattle.mt_record.specs.declared.feed.file_feed.FileKind.TheVariants as kinds
use Rattle.mt_record.specs.LogFeeding.{fed_log, log_so_far, IsTextFed, IsLogFed}
use Rattle.mt_record.proofs.FileFeeds.{log_fed_on}
use Rattle.mt_record.proofs.Tellings.{held_short, untold_next, untold_fails}
use Rattle.mt_record.proofs.feed.file_feed.FileFeed.begin.Goals as goal

pub returns-in-Some-clause-fed : goal.returns-in-Some-clause-fed
returns-in-Some-clause-fed g c bytes taken fed =
    log_fed_on (fed_log g.R.Records.listed c.args.self.now) c.in-Some.fault bytes c.args.piece.now taken (rw c.requires c.in-Some.is) fed

pub returns-in-Ok-Nothing-clause-fed : goal.returns-in-Ok-Nothing-clause-fed
returns-in-Ok-Nothing-clause-fed g c bytes taken fed =
    let self = c.args.self.now in
    let inner = self.blocks.items.inner in
    let was = rw c.requires at fed in
    rw c.requires (untold_next (IsTextFed taken (log_so_far g.R.Records.listed inner.items) inner.held.items inner.fault) (record (fed_log g.R.Records.listed self).file { kind = kinds.Untold }) self.blocks.fault bytes c.args.piece.now c.tell.new.held.items
    c.in_default.is was (λ short. rw c.in-Ok-Nothing.field-0-is at (c.in-Ok-Nothing.ensures.told short)))

pub returns-in-Ok-Plain-clause-fed : goal.returns-in-Ok-Plain-clause-fed
returns-in-Ok-Plain-clause-fed g c bytes taken fed =
    let was = rw c.requires at fed in
    let held = was.held c.in_default.is in
    let told = rw c.in-Ok-Plain.field-0-is at (c.in-Ok-Plain.ensures.told (held_short bytes c.args.self.now.blocks.held.items held.0 held.1)) in
    subst (λ (l : List ℕ). IsLogFed (fed_log g.R.Records.listed c.begin_plain.new.self) l taken)
    (sym told.0 ∙ ap (λ (l : List ℕ). l ++ c.args.piece.now) (sym held.0)) (c.begin_plain.ensures.fed taken told.1 was.fed)

pub returns-in-Ok-Blocks-clause-fed : goal.returns-in-Ok-Blocks-clause-fed
returns-in-Ok-Blocks-clause-fed g c bytes taken fed =
    let was = rw c.requires at fed in
    let held = was.held c.in_default.is in
    let told = rw c.in-Ok-Blocks.field-0-is at (c.in-Ok-Blocks.ensures.told (held_short bytes c.args.self.now.blocks.held.items held.0 held.1)) in
    let rest = c.in-Ok-Blocks.rest.now in
    subst (λ (l : List ℕ). IsLogFed (fed_log g.R.Records.listed c.begin_blocks.new.self) l taken)
    (ap (λ (l : List ℕ). l ++ rest) (sym told.2) ∙ sym told.0 ∙ ap (λ (l : List ℕ). l ++ c.args.piece.now) (sym held.0))
    (c.begin_blocks.ensures.fed taken told.1 was.fed was.sound was.first.0 was.first.1 (rw c.requires c.in_default.is))

pub returns-in-Err-clause-fed : goal.returns-in-Err-clause-fed
returns-in-Err-clause-fed g c bytes taken fed =
    let self = c.args.self.now in
    let inner = self.blocks.items.inner in
    let was = rw c.requires at fed in
    rw c.requires (untold_fails (IsTextFed taken (log_so_far g.R.Records.listed inner.items) inner.held.items inner.fault) (record (fed_log g.R.Records.listed self).file { kind = kinds.Untold }) self.blocks.fault c.in-Err.fault bytes c.args.piece.now c.tell.new.held.items
    c.in_default.is was c.in-Err.ensures.fault)
