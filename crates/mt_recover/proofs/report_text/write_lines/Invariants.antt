use Rattle.std.proofs.Common.{map, take, false}
use Rattle.std.specs.List.{flat_map}
use Rattle.std.specs.Fmt.{HasWritten, IsPlainFormatter}
use Rattle.mt_recover.specs.ReportText.{line_text, with_text}
use Rattle.mt_recover.proofs.report_text.write_lines.Given as goal

-- the lines so far are written
abbrev pub invariant-loop-named : goal.invariant-loop-named
invariant-loop-named g l = IsPlainFormatter l.initial.f → HasWritten g.W.Write.write_str_gives l.initial.f (flat_map line_text (map (with_text false) (take l.named-index l.values))) l.f
