-- The report of a recovery, as C sees it.
use Rattle.std.specs.Prelude.{◌≡◌, ℕ, ◌-◌, ◌^◌, min, Option, None, Some, length}
use Rattle.mt_recover.specs.declared.report.Report.{Report}
use Rattle.mt_c.specs.declared.reporting.CReport.{CReport}
use Rattle.mt_c.specs.declared.status.TheConstants.{DONE, ABSENT}

-- the number, or 2^64 - 1 if it is above that
abbrev pub capped : ℕ → ℕ
capped number = min number (2 ^ 64 - 1)

-- the number, or 2^64 - 1 if there is none
abbrev pub number_or_most : Option ℕ → ℕ
number_or_most None = 2 ^ 64 - 1
number_or_most (Some number) = number

-- the report as C sees it: each number, and the length of each list but the ends
abbrev pub c_report : Report → CReport
c_report report = record {
  cutoff = report.cutoff;
  last = report.last;
  version = report.version;
  checkpoint = number_or_most report.checkpoint;
  begin = report.begin;
  entries = capped report.entries;
  logs = report.logs;
  writers = report.writers;
  records = capped report.records;
  marks = capped report.marks;
  torn = report.torn;
  holes = report.holes;
  skipped = length report.skipped.items;
  nameless = length report.nameless.items;
  early = capped report.early;
  late = capped report.late;
  survivors = capped report.survivors;
  keys = capped report.keys;
  layers = report.layers;
}

-- what a function with this status did that tells an item: it told the item, or there is none
pub record Tells (item : Option ℕ) (told status : ℕ) : Type 0 where
  pub done : status ≡ DONE → item ≡ Some told
  pub absent : status ≡ ABSENT → item ≡ None
