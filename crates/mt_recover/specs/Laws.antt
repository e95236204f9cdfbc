-- When two reports say the same.
use Rattle.std.specs.Prelude.{◌≡◌}
use Rattle.mt_recover.specs.declared.report.Report.{Report}

-- two reports are equal, apart from where their lists are stored
pub record SaysTheSame (report other : Report) : Type 0 where
  pub skipped : report.skipped.items ≡ other.skipped.items
  pub nameless : report.nameless.items ≡ other.nameless.items
  pub ends : report.ends.items ≡ other.ends.items
  pub rest : report ≡ record other { skipped = report.skipped; nameless = report.nameless; ends = report.ends }
