use Rattle.std.proofs.Common.{◌∙◌, false, sym, refl, ap}
use Rattle.std.proofs.lemmas.List.{map-id}
use Rattle.std.proofs.Output.{has_written_of_eq}
use Rattle.mt_text.specs.Values.{numbers_text, value_text}
use Rattle.mt_text.proofs.value.ValueDisplay.fmt.Goals as goal

pub returns-in-Numbers-clause-writes : goal.returns-in-Numbers-clause-writes
returns-in-Numbers-clause-writes g c = λ plain ok.
    has_written_of_eq g.W.Write.write_str_gives c.args.f.now _ _ c.write_list.new.f
    (ap (numbers_text false) (map-id c.in-Numbers.numbers.now) ∙ sym (ap (value_text false) c.in-Numbers.is))
    (c.write_list.ensures (λ n. n) (λ n. refl) plain ok)

pub returns-in-Positions-clause-writes : goal.returns-in-Positions-clause-writes
returns-in-Positions-clause-writes g c = λ plain ok.
    has_written_of_eq g.W.Write.write_str_gives c.args.f.now _ _ c.write_list-in-Positions.new.f
    (ap (numbers_text false) (map-id c.in-Positions.positions.now) ∙ sym (ap (value_text false) c.in-Positions.is))
    (c.write_list-in-Positions.ensures (λ n. n) (λ n. refl) plain ok)
