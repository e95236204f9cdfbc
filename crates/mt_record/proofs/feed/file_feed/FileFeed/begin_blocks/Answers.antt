use Rattle.std.proofs.Common.{[], Some, refl}
use Rattle.mt_block.specs.Blocks.{mark_of}
use Rattle.mt_record.specs.Heads.{head_bytes}
use Rattle.mt_record.specs.Opening.{text_head}
use Rattle.mt_record.specs.Unsealing.{place_of}
use Rattle.mt_record.specs.LogFeeding.{log_so_far, damage_after, IsTextFed}
use Rattle.mt_record.proofs.LogFeeds.{begins_at}
use Rattle.mt_record.proofs.Tellings.{fed_header, blocks_begun}
use Rattle.mt_record.proofs.feed.file_feed.FileFeed.begin_blocks.Goals as goal

pub returns-clause-fed : goal.returns-clause-fed
returns-clause-fed g c taken is fed sound searching seam none =
    let self = c.args.self.now in
    let inner = self.blocks.items.inner in
    let so_far = log_so_far g.R.Records.listed inner.items in
    let read = record so_far { front = Some (begins_at (text_head c.args.header) 20) } in
    let text = head_bytes (text_head c.args.header) in
    let mark = mark_of c.args.header in
    record {
      header = c.args.header;
      behind = c.args.rest.now;
      is_header = is;
      spelled = refl;
      fed = c.feed.ensures.fed (taken, text, mark) [] (rw c.clear.ensures.items (blocks_begun (IsTextFed taken read inner.held.items inner.fault) (damage_after read) (record (place_of self.blocks.items) { mark = c.mark-self.result }) text mark inner.fault self.blocks.fault
          (fed_header taken so_far inner.held.items inner.fault c.args.header is sound fed) sound c.mark-self.ensures searching seam (rw c.requires at none)));
    }
