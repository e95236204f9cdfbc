use Rattle.std.proofs.Common.{◌≡◌, ◌∙◌, List, length, sym, ap, subst, arith}
use Rattle.std.specs.List.{All}
use Rattle.std.specs.Vec.Iter.{into_iter_items}
use Rattle.std.proofs.lemmas.List.Elements.{All-map}
use Rattle.std.proofs.lemmas.Result.{IfOk-weaker}
use Rattle.mt_board.specs.Board.{PassView, least_noted, SawNoneBelow}
use Rattle.mt_recover.specs.Steps.Scanning.{logs_in, part_scans_in}
use Rattle.mt_recover.proofs.ScanLemmas.{in_two_steps}
use Rattle.mt_recover.proofs.scans.gather_scans.Goals as goal

pub close-requires : goal.close-requires
close-requires c = subst (All (λ (pass : PassView). pass.board ≡ c.args.board)) (sym c.in_ok-answers.ensures.seconds) (All-map (λ (pass : PassView). pass.board ≡ c.args.board) (λ scans. scans.1) c.args.scans.items c.requires.boards)

pub returns : goal.returns
returns c =
    let same = in_two_steps (λ scans. scans.0) into_iter_items c.args.scans.items c.in_ok-answers.answers.items (sym c.in_ok-answers.ensures.firsts) in
    IfOk-weaker c.outcomes_of.result _ _
    (λ outcomes are. record {
      logs = λ answers dealt. are.0 ∙ ap logs_in (c.in_ok-gather.ensures answers (rw (sym same) dealt));
      parts = λ answers dealt. are.1 ∙ ap part_scans_in (c.in_ok-gather.ensures answers (rw (sym same) dealt));
      saw = λ many. subst (λ (passes : List PassView). SawNoneBelow (least_noted passes) passes) c.in_ok-answers.ensures.seconds
          (c.close.ensures.saw (omega (arith, many, ap length c.in_ok-answers.ensures.seconds)));
    })
    c.outcomes_of.ensures
