use Rattle.std.proofs.Common.{◌≡◌, rules, IfOk}
use Rattle.std.proofs.lemmas.Result.{IfOk-weaker}
use Rattle.mt_board.specs.Board.{BoardId}
use Rattle.std.specs.Global.{Global}
use Rattle.std.specs.declared.collections.VecDeque.{VecDeque}
use Rattle.std.specs.Vec.Iter.{into_iter_items}
use Rattle.mt_recover.specs.declared.scans.ScanJob.{ScanJob}
use Rattle.mt_recover.specs.Steps.Scanning.{HasScanned}
use Rattle.mt_recover.proofs.ScanLemmas.{CanBeGathered, all_scanned}
use Rattle.mt_recover.proofs.SharingLemmas.{zip_says}
use Rattle.mt_recover.proofs.scans.scan_one.Goals as goal

-- what the workers scanned can be gathered
scanned : (g : _) (c : goal.In_ok-all_done g) → (board : BoardId) → board ≡ c.in_ok-board.board → CanBeGathered g.S.Source.seen into_iter_items c.args.inputs.logs.items c.args.inputs.parts.items board c.in_ok-all_done.field-0.items
scanned g c =
    all_scanned g.S.Source.seen (λ (jobs : VecDeque (ScanJob g.row.S.Denot) Global). jobs.items) into_iter_items c.args.inputs.logs.items c.args.inputs.parts.items c.in_ok-jobs.jobs.items c.in_ok-board.shares.items c.in_ok-scans.scans.items c.in_ok-all_done.field-0.items c.in_ok-board.board
    c.in_ok-jobs.ensures c.in_ok-board.ensures.dealt c.in_ok-board.ensures.fresh c.in_ok-board.ensures.some c.in_ok-board.ensures.many
    (zip_says (λ share answer. IfOk answer (λ scans. HasScanned g.S.Source.seen share.0.items (into_iter_items scans.0) share.1 scans.1)) _ c.in_ok-board.shares.items c.in_ok-scans.scans.items (λ share answer post. search rules) c.in_ok-scans.ensures) c.in_ok-all_done.ensures.done

pub gather_scans-requires-clause-some : goal.gather_scans-requires-clause-some
gather_scans-requires-clause-some g c = (scanned g c _ c.board.view_is).some

pub gather_scans-requires-clause-boards : goal.gather_scans-requires-clause-boards
gather_scans-requires-clause-boards g c = (scanned g c _ c.board.view_is).boards

pub returns : goal.returns
returns g c = IfOk-weaker c.gather_scans.result _ _ (scanned g c.before _ c.board.view_is).outcomes c.gather_scans.ensures
