use Rattle.std.proofs.Common.{◌≡◌, ◌∙◌, List, length, subst, ap, IsPermutation}
use Rattle.std.specs.List.{enumerate_from, flat_map}
use Rattle.std.proofs.lemmas.Result.{IfOk-weaker}
use Rattle.mt_board.specs.Queue.{ConsumerView, TookEach}
use Rattle.mt_recover.specs.Steps.Scanning.{AreNumbered}
use Rattle.mt_recover.proofs.Turns.{all_back, flat_of_map, numbered_all}
use Rattle.mt_recover.proofs.Works.{both_ok}
use Rattle.mt_recover.proofs.by_workers.answers_of.Goals as goal

pub close-requires : goal.close-requires
close-requires g c = rw c.in_ok-answers.ensures.seconds (all_back c.args.queue.now (λ turn. turn.0.items) (λ turn. turn.1) c.args.turns.items c.requires.turns c.requires.all c.requires.some)

-- the answers of all turns, each with the number of its job
all_are : (g : _) (c : goal.In_ok-concat g) → c.in_ok-concat.field-0.items ≡ flat_map (λ turn. turn.0.items) c.args.turns.items
all_are g c = c.in_ok-concat.ensures ∙ ap (flat_map (λ list. list.items)) c.in_ok-answers.ensures.firsts ∙ flat_of_map (λ list. list.items) (λ turn. turn.0) c.args.turns.items

numbered : (g : _) (c : goal.In_ok-concat g) → AreNumbered (length c.args.queue.now.jobs) c.in_ok-concat.field-0.items
numbered g c =
    rw (all_are g c) (numbered_all c.args.queue.now (λ turn. turn.0.items) (λ turn. turn.1) c.args.turns.items c.requires.turns
    (subst (λ (cs : List (ConsumerView g.row.J.Denot)). TookEach c.args.queue.now cs) c.in_ok-answers.ensures.seconds c.close.ensures))

pub in_order-requires : goal.in_order-requires
in_order-requires g c = (length c.args.queue.now.jobs, numbered g c)

pub returns : goal.returns
returns g c =
    IfOk-weaker c.in_order.result _ _ (λ answers both. (both.0, subst (λ all. IsPermutation all (enumerate_from 0 answers.items)) (all_are g c.before) both.1))
    (both_ok c.in_order.result _ _ (c.in_order.ensures.long (length c.args.queue.now.jobs) (numbered g c.before)) c.in_order.ensures.same)
