use Rattle.std.proofs.Common.{◌≡◌}
use Rattle.std.specs.Prelude.{All}
use Rattle.mt_cli.specs.Rows.{IsTold}
use Rattle.mt_cli.proofs.RowLemmas.{IsRowSoFar}
use Rattle.mt_cli.proofs.row.write_row.Given as goal

abbrev pub invariant-loop-name : goal.invariant-loop-name
invariant-loop-name g l = let contents = g.W.Write.contents in record {
  same : All IsTold l.row → l.line.out.ghost_name ≡ l.initial.line.out.ghost_name;
  is_json : All IsTold l.row → l.line.is_json ≡ l.is_json;
  so_far : All IsTold l.row → IsRowSoFar l.is_json l.line.is_first l.row l.name-index (contents l.fn.out) (contents l.line.out.now);
}
