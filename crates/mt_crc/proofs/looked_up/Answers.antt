use Rattle.mt_crc.proofs.Rows.{entry}
use Rattle.mt_crc.proofs.looked_up.Goals as goal

pub returns : goal.returns
returns c = entry _ c.args.zeros c.args.byte c.requires c.ranges.byte.fits
