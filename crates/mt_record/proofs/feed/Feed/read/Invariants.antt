use Rattle.std.proofs.Common.{◌++◌, length}
use Rattle.mt_record.specs.Feeding.{Reads}
use Rattle.mt_record.proofs.feed.Feed.read.Given as goal

-- all bytes are read or held back, except for the rest of the chunk
abbrev pub invariant-held : goal.invariant-held
invariant-held g l = record {
  read : Reads g.I.Items.holds l.initial.self.items l.self.items (l.initial.self.held.items ++ l.piece) (l.self.held.items ++ l.rest);
  left : g.I.Items.is_left l.initial.self.items l.initial.self.held.items → g.I.Items.is_left l.self.items l.self.held.items;
}

abbrev pub decreases-held : goal.decreases-held
decreases-held g l = length l.rest
