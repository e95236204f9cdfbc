use Rattle.std.proofs.Common.{◌≡◌, ◌∙◌, ◌<◌, ◌^◌, ℕ, List, Vec, Global, IsPermutation, length, map, sym, ap, subst}
use Rattle.std.specs.Arc.{arc_value}
use Rattle.std.specs.List.{AllZip, enumerate_from, flat_map}
use Rattle.std.proofs.lemmas.List.Elements.{All-weaker}
use Rattle.std.proofs.lemmas.Result.{IfOk-weaker}
use Rattle.mt_words.specs.declared.update.Update.{Update}
use Rattle.mt_words.specs.Walks.{IsMap, joined}
use Rattle.mt_board.specs.Queue.{ConsumerView}
use Rattle.mt_replay.specs.Walk.{IsWalk}
use Rattle.mt_tree.specs.Borders.{DraftView, layer_walk}
use Rattle.mt_recover.specs.declared.replaying.Base.{Base}
use Rattle.mt_recover.specs.declared.report.Report.{Report}
use Rattle.mt_recover.specs.Prepared.{PreparedView}
use Rattle.mt_recover.specs.Steps.Replaying.{AreReplaysOf}
use Rattle.mt_recover.specs.Steps.Scanning.{IsTurnOf}
use Rattle.mt_recover.specs.Tasks.{ReplayView, ReplayingView, replay_task, replay_tasks}
use Rattle.mt_recover.proofs.Preparing.{made_is}
use Rattle.mt_recover.proofs.TaskLemmas.{all_alike, walk_of_tasks}
use Rattle.mt_recover.proofs.replaying.Replaying.finish.Goals as goal

abbrev DraftTurn : Type 0
DraftTurn = Vec (ℕ × DraftView) Global × ConsumerView (List Update)

abbrev IsDone : ReplayView → DraftTurn → Type 0
IsDone task turn = AreReplaysOf task turn.0.items turn.1

-- the tasks are those of this recovery
pub answers_of-requires-clause-turns : goal.answers_of-requires-clause-turns
answers_of-requires-clause-turns c =
    let own : ReplayingView = record { prepared = c.self.inside.prepared.value; pieces = (arc_value c.self.inside.base).pieces; entries = joined (arc_value c.self.inside.base).entries.items } in
    let turns : List DraftTurn = c.in_ok-turns_of.field-0.items in
    let all = all_alike IsDone (replay_task own) own.pieces.consumers turns (subst (λ (tasks : List ReplayView). AllZip IsDone tasks turns) (c.requires ∙ ap replay_tasks (sym c.self.view_is)) c.in_ok-turns_of.ensures) in
    rw c.deref.ensures (All-weaker (IsDone (replay_task own)) (λ (turn : DraftTurn). IsTurnOf own.pieces turn.0.items turn.1) (λ turn is. is.turn) turns all.0)

pub answers_of-requires-clause-all : goal.answers_of-requires-clause-all
answers_of-requires-clause-all c =
    let own : ReplayingView = record { prepared = c.self.inside.prepared.value; pieces = (arc_value c.self.inside.base).pieces; entries = joined (arc_value c.self.inside.base).entries.items } in
    let turns : List DraftTurn = c.in_ok-turns_of.field-0.items in
    let all = all_alike IsDone (replay_task own) own.pieces.consumers turns (subst (λ (tasks : List ReplayView). AllZip IsDone tasks turns) (c.requires ∙ ap replay_tasks (sym c.self.view_is)) c.in_ok-turns_of.ensures) in
    rw c.deref.ensures all.1

pub answers_of-requires-clause-some : goal.answers_of-requires-clause-some
answers_of-requires-clause-some c = rw c.deref.ensures c.self.invariant.2.some

pub join_all-requires : goal.join_all-requires
join_all-requires c =
    let own : ReplayingView = record { prepared = c.self.inside.prepared.value; pieces = (arc_value c.self.inside.base).pieces; entries = joined (arc_value c.self.inside.base).entries.items } in
    let turns : List DraftTurn = c.in_ok-turns_of.field-0.items in
    let drafts : List DraftView = c.in_ok-drafts.drafts.items in
    let each = subst (λ (tasks : List ReplayView). AllZip IsDone tasks turns) (c.requires ∙ ap replay_tasks (sym c.self.view_is)) c.in_ok-turns_of.ensures in
    let ordered = subst (λ (base : Base). (length drafts ≡ length base.pieces.jobs) × IsPermutation (flat_map (λ (turn : DraftTurn). turn.0.items) turns) (enumerate_from 0 drafts)) c.deref.ensures c.in_ok-drafts.ensures in
    let walk = walk_of_tasks (λ (turn : DraftTurn). turn.0.items) (λ turn. turn.1) own turns drafts c.self.invariant.2 each ordered c.self.invariant.1.apart c.pieces_make_the_walk.ensures.walk in
    walk.map.0

pub complete-requires : goal.complete-requires
complete-requires c =
    let own : ReplayingView = record { prepared = c.self.inside.prepared.value; pieces = (arc_value c.self.inside.base).pieces; entries = joined (arc_value c.self.inside.base).entries.items } in
    let turns : List DraftTurn = c.in_ok-turns_of.field-0.items in
    let drafts : List DraftView = c.in_ok-drafts.drafts.items in
    let each = subst (λ (tasks : List ReplayView). AllZip IsDone tasks turns) (c.requires ∙ ap replay_tasks (sym c.self.view_is)) c.in_ok-turns_of.ensures in
    let ordered = subst (λ (base : Base). (length drafts ≡ length base.pieces.jobs) × IsPermutation (flat_map (λ (turn : DraftTurn). turn.0.items) turns) (enumerate_from 0 drafts)) c.deref.ensures c.in_ok-drafts.ensures in
    let walk = walk_of_tasks (λ (turn : DraftTurn). turn.0.items) (λ turn. turn.1) own turns drafts c.self.invariant.2 each ordered c.self.invariant.1.apart c.pieces_make_the_walk.ensures.walk in
    subst IsMap (sym c.in_ok-join_all.ensures) walk.map

pub returns-clause-store : goal.returns-clause-store
returns-clause-store c =
    let own : ReplayingView = record { prepared = c.self.inside.prepared.value; pieces = (arc_value c.self.inside.base).pieces; entries = joined (arc_value c.self.inside.base).entries.items } in
    let turns : List DraftTurn = c.in_ok-turns_of.field-0.items in
    let drafts : List DraftView = c.in_ok-drafts.drafts.items in
    let each = subst (λ (tasks : List ReplayView). AllZip IsDone tasks turns) (c.requires ∙ ap replay_tasks (sym c.self.view_is)) c.in_ok-turns_of.ensures in
    let ordered = subst (λ (base : Base). (length drafts ≡ length base.pieces.jobs) × IsPermutation (flat_map (λ (turn : DraftTurn). turn.0.items) turns) (enumerate_from 0 drafts)) c.deref.ensures c.in_ok-drafts.ensures in
    let walk = walk_of_tasks (λ (turn : DraftTurn). turn.0.items) (λ turn. turn.1) own turns drafts c.self.invariant.2 each ordered c.self.invariant.1.apart c.pieces_make_the_walk.ensures.walk in
    let is = c.self.invariant in
    let prepared : PreparedView = c.args.self.prepared in
    let same : own.prepared ≡ prepared = ap (λ (r : ReplayingView). r.prepared) c.self.view_is in
    let here = subst (λ (p : PreparedView). IsWalk p.updates (joined (map layer_walk drafts))) same walk in
    c.complete.ensures prepared (sym (ap (λ (p : PreparedView). p.report) same) ∙ is.0) (subst (IsWalk prepared.updates) (sym c.in_ok-join_all.ensures) here)
    (ap (λ (r : Report). r.survivors) (sym is.0) ∙ is.1.survivors ∙ ap (λ (p : PreparedView). length p.updates) same) (subst (λ (r : Report). r.survivors < 2 ^ 128) is.0 is.1.few)

pub returns-clause-recovered : goal.returns-clause-recovered
returns-clause-recovered c = λ logs parts is.
    IfOk-weaker c.complete.result _ _ (λ outcome made. made_is logs parts c.args.self.prepared outcome is made) (returns-clause-store c)
