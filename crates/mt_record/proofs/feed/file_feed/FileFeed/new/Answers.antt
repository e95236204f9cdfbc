use Rattle.std.proofs.Common.{[], inl, refl, sym, arith}
use Rattle.std.proofs.lemmas.Option.{none-some}
use Rattle.std.specs.Prelude.{codes}
use Rattle.mt_record.proofs.LogFeeds.{nothing_read}
use Rattle.mt_record.proofs.feed.file_feed.FileFeed.new.Goals as goal

pub returns-clause-fed : goal.returns-clause-fed
returns-clause-fed g c = record {
  fed = c.new-inner.ensures.fed [] (nothing_read g.R.Records.listed c.args.records c.requires);
  sound = c.new-inner.ensures.sound;
  first = (refl, c.new-seam.ensures.items);
  held = λ _. (sym c.new-held.ensures.items, inl (codes "MTL4", refl, omega arith));
  shown = λ answer some. absurd (none-some answer some);
}
