use Rattle.std.proofs.Common.{[], inl, refl, arith}
use Rattle.std.specs.Prelude.{codes}
use Rattle.mt_record.proofs.feed.part_feed.PartFeed.filling.Goals as goal

pub returns-clause-fed : goal.returns-clause-fed
returns-clause-fed g c = c.new.ensures.fed tt (
  record {
    front = [];
    joins = refl;
    read = (refl, record { head = refl; entries = c.requires; end = refl; held = c.new-held.ensures.items; fault = refl });
  },
  (refl, inl (codes "MTC4", refl, omega arith)),
)
