use Rattle.std.proofs.Common.{◌++◌}
use Rattle.mt_block.specs.Blocks.{header_bytes, mark_of}
use Rattle.mt_record.specs.Heads.{head_bytes}
use Rattle.mt_record.specs.Opening.{text_head}
use Rattle.mt_record.proofs.Feeds.{behind_on}
use Rattle.mt_record.proofs.FileFeeds.{plain_on}
use Rattle.mt_record.proofs.feed.file_feed.FileFeed.read.Goals as goal

pub returns-in-Plain-clause-fed : goal.returns-in-Plain-clause-fed
returns-in-Plain-clause-fed g c bytes taken fed =
    let was = rw c.in-Plain.is at fed in
    rw c.in-Plain.is (plain_on bytes c.args.piece.now was.0, c.feed.ensures.fed taken bytes was.1)

pub returns-in-Blocks-clause-fed : goal.returns-in-Blocks-clause-fed
returns-in-Blocks-clause-fed g c bytes taken fed =
    let was = rw c.in-Blocks.is at fed in
    rw c.in-Blocks.is (record {
      header = was.header;
      behind = was.behind ++ c.args.piece.now;
      is_header = was.is_header;
      spelled = behind_on (header_bytes was.header) bytes was.behind c.args.piece.now was.spelled;
      fed = c.feed-in-Blocks.ensures.fed (taken, head_bytes (text_head was.header), mark_of was.header) was.behind was.fed;
    })
