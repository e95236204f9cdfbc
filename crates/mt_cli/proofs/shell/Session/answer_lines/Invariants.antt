use Rattle.std.proofs.Common.{◌≤◌}
use Rattle.mt_cli.proofs.shell.Session.answer_lines.Given as goal

abbrev pub invariant-loop : goal.invariant-loop
invariant-loop g l = l.first ≤ 5
