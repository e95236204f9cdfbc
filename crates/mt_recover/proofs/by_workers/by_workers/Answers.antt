use Rattle.std.proofs.Common.{rules, ◌∙◌, ℕ, List, Vec, Global, length, sym, ap, arith, subst}
use Rattle.std.specs.Prelude.{IfOk}
use Rattle.std.specs.List.{AllZip, flat_map}
use Rattle.std.proofs.lemmas.Result.{IfOk-weaker}
use Rattle.std.proofs.lemmas.List.Elements.{All-weaker}
use Rattle.mt_board.specs.Queue.{ConsumerView}
use Rattle.mt_recover.specs.Steps.Scanning.{AreAnswers, IsTurnOf}
use Rattle.mt_recover.proofs.SharingLemmas.{all_answers, all_in_order, all_of_zip, without_numbers, zip_says}
use Rattle.mt_recover.proofs.Turns.{fresh_count}
use Rattle.mt_recover.proofs.by_workers.by_workers.Goals as goal

pub on_threads-requires-clause-few : goal.on_threads-requires-clause-few
on_threads-requires-clause-few g c =
    omega (arith, ap length c.in_ok-queue.ensures.consumers, fresh_count c.in_ok-queue.queue c.max-most.result, c.max-most.ensures, c.min.ensures, c.count.ensures.value, c.count.ensures.some)

pub answers_of-requires : goal.answers_of-requires
answers_of-requires g c =
    let queue = c.in_ok-queue.queue in
    let R : g.row.J.Denot → g.row.X.Denot → Type 0 = λ job answer. goal.F-post g c.args.work.now job answer in
    let P : Vec (ℕ × g.row.X.Denot) Global × ConsumerView g.row.J.Denot → Type 0 = λ turn. IsTurnOf queue turn.0.items turn.1 × AreAnswers (λ _ job answer. R job answer) queue.jobs turn.0.items in
    let zip = zip_says (λ consumer turn. IfOk turn P) _ c.in_ok-queue.consumers.items c.in_ok-turns.turns.items (λ consumer turn post. search rules) c.in_ok-turns.ensures in
    let all = all_of_zip P c.in_ok-queue.consumers.items c.in_ok-turns.turns.items c.in_ok-all_done.field-0.items zip c.in_ok-all_done.ensures.done in
    record {
      turns = All-weaker P (λ turn. IsTurnOf queue turn.0.items turn.1) (λ turn is. is.0) c.in_ok-all_done.field-0.items all.0;
      all = all.1 ∙ ap length c.in_ok-queue.ensures.consumers ∙ fresh_count queue _ ∙ sym c.in_ok-queue.ensures.many;
      some = omega (arith, c.in_ok-queue.ensures.many, c.max-most.ensures, c.min.ensures, c.count.ensures.value);
    }

pub returns : goal.returns
returns g c =
    let queue = c.in_ok-queue.queue in
    let R : g.row.J.Denot → g.row.X.Denot → Type 0 = λ job answer. goal.F-post g c.args.work.now job answer in
    let P : Vec (ℕ × g.row.X.Denot) Global × ConsumerView g.row.J.Denot → Type 0 = λ turn. IsTurnOf queue turn.0.items turn.1 × AreAnswers (λ _ job answer. R job answer) queue.jobs turn.0.items in
    let zip = zip_says (λ consumer turn. IfOk turn P) _ c.in_ok-queue.consumers.items c.in_ok-turns.turns.items (λ consumer turn post. search rules) c.in_ok-turns.ensures in
    let turns = c.in_ok-all_done.field-0.items in
    let all = all_of_zip P c.in_ok-queue.consumers.items c.in_ok-turns.turns.items turns zip c.in_ok-all_done.ensures.done in
    let answered = all_answers (λ _ job answer. R job answer) queue.jobs (λ turn. turn.0.items) turns (All-weaker P (λ turn. AreAnswers (λ _ job answer. R job answer) queue.jobs turn.0.items) (λ turn is. is.1) turns all.0) in
    IfOk-weaker c.answers_of.result _ _
    (λ answers both. subst (λ (jobs : List g.row.J.Denot). AllZip R jobs answers.items) c.in_ok-queue.ensures.jobs
    (without_numbers R 0 queue.jobs answers.items (all_in_order (λ _ job answer. R job answer) queue.jobs (flat_map (λ turn. turn.0.items) turns) answers.items answered both.1 both.0)))
    c.answers_of.ensures
