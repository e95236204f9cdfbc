use Rattle.std.proofs.Common.{ℕ, List, ◌++◌, ◌∙◌, sym, ap, append_assoc}
use Rattle.std.specs.Prelude.{codes}
use Rattle.std.specs.List.{flat_map}
use Rattle.hex.specs.Hex.{encode_lower}
use Rattle.std.proofs.KnownBytes.{Appends-trans}
use Rattle.std.proofs.lemmas.Result.{IfOk-weaker}
use Rattle.mt_text.specs.Pairs.{column_text}
use Rattle.mt_text.proofs.PairLemmas.{line_ended}
use Rattle.mt_text.proofs.pairs.write_pair.Goals as goal

pub loop-number-init : goal.loop-number-init
loop-number-init g c =
    let front = encode_lower c.args.key.now ++ codes ":" in
    record {
      text = front;
      written = Appends-trans _ _ _ _ _ c.in_ok-write_hex.ensures c.in_ok-write_all.ensures.bytes;
      whole = ap (λ (columns : List (ℕ × List ℕ)). front ++ flat_map column_text columns) c.lent-rest.ensures.value;
    }

pub loop-number-preserved : goal.loop-number-preserved
loop-number-preserved g c =
    let column : ℕ × List ℕ = (c.in-Some.number, c.in-Some.bytes.now) in
    let text = c.loop-number.invariant.text in
    record {
      text = text ++ column_text column;
      written = Appends-trans _ _ _ _ _ c.loop-number.invariant.written c.in_ok-write_column.ensures;
      whole = append_assoc text (column_text column) (flat_map column_text c.next.new.self)
          ∙ ap (λ (rest : List (ℕ × List ℕ)). text ++ flat_map column_text rest) (sym c.in-Some.ensures.some) ∙ c.loop-number.invariant.whole;
    }

pub returns : goal.returns
returns g c =
    let contents = g.W.Write.contents in
    IfOk-weaker c.write_all-2.result _ _
    (λ _ ended. line_ended _ (contents c.loop-number.out) _ c.args.key.now c.loop-number.invariant.text c.loop-number.rest c.args.columns.now c.in_default.ensures.none.0 c.loop-number.invariant.whole c.loop-number.invariant.written ended)
    c.write_all-2.ensures.bytes
