use Rattle.std.proofs.Common.{◌≡◌, ◌++◌, ◌∷◌, [], length, List, ℕ, refl, sym, ap, ◌∙◌, arith}
use Rattle.std.proofs.lemmas.Bool.{eqb-true}
use Rattle.std.proofs.lemmas.List.{append-nil, take-append-drop, nil_from_length}
use Rattle.std.proofs.lemmas.List.Elements.{All-nil}
use Rattle.mt_block.specs.Blocks.{IsBody}
use Rattle.mt_block.proofs.Seals.{joins_more, blocks_more, all_more}
use Rattle.mt_record.specs.Opening.{joined}
use Rattle.mt_record.specs.Runs.{IsSmall}
use Rattle.mt_record.proofs.RunLemmas.{run_small, run_rest}
use Rattle.mt_record.proofs.runs.append_small_blocks.Goals as goal

pub runs-init : goal.runs-init
runs-init c = record {
  bodies = [];
  joins = refl;
  are_bodies = All-nil IsBody;
  are_small = All-nil IsSmall;
  spelled = sym (append-nil c.args.out.now.items);
  left = c.requires;
}

pub append_block-requires : goal.append_block-requires
append_block-requires c =
    let run = c.run_size.ensures in
    omega (arith, (run_small c.runs.rest.now c.split_at.result.0.now c.run_size.result run c.split_at.ensures.front).1, run.most)

pub runs-preserved : goal.runs-preserved
runs-preserved c =
    let I = c.runs.invariant in
    let rest = c.runs.rest.now in
    let run = c.run_size.ensures in
    let front = c.split_at.result.0.now in
    let back = c.split_at.result.1.now in
    let both : rest ≡ front ++ back = sym (take-append-drop c.run_size.result rest) ∙ (λ i. sym c.split_at.ensures.front i ++ sym c.split_at.ensures.back i) in
    let added = c.in_ok-append_block.ensures in
    record {
      bodies = I.bodies ++ front ∷ [];
      joins = joins_more c.args.records.now I.bodies front rest back I.joins both;
      are_bodies = all_more IsBody I.bodies front I.are_bodies added.body;
      are_small = all_more IsSmall I.bodies front I.are_small (run_small rest front c.run_size.result run c.split_at.ensures.front).0;
      spelled = blocks_more c.args.mark c.args.out.now.items c.runs.out.items c.append_block.new.out.items I.bodies front I.spelled added.ok;
      left = run_rest rest back c.run_size.result run c.split_at.ensures.back;
    }

pub returns : goal.returns
returns c =
    let I = c.runs.invariant in
    let none : c.runs.rest.now ≡ [] = nil_from_length c.runs.rest.now (eqb-true (length c.runs.rest.now) 0 (sym c.is_empty.ensures ∙ c.runs-test.false)) in (
      _,
      record {
        bodies = I.bodies;
        joins = sym (I.joins ∙ ap (λ (l : List ℕ). joined I.bodies ++ l) none ∙ append-nil (joined I.bodies));
        are_bodies = I.are_bodies;
        are_small = I.are_small;
        spelled = refl;
      },
      I.spelled,
    )
