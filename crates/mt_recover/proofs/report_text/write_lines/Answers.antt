use Rattle.std.proofs.Common.{◌≡◌, ◌∙◌, ◌+◌, ◌<◌, ◌++◌, [], List, ℕ, length, map, take, take_all, get_or, false, sym, ap, rules}
use Rattle.std.proofs.lemmas.List.{map_more, flat_map_more}
use Rattle.std.specs.List.{flat_map}
use Rattle.std.specs.Borrow.{Bor}
use Rattle.std.proofs.Output.{has_written_append, has_written_of_eq}
use Rattle.mt_text.specs.declared.value.Value.{Value}
use Rattle.mt_recover.specs.ReportText.{line_text, with_text}
use Rattle.mt_recover.proofs.report_text.write_lines.Goals as goal

-- one more line
line_more : (values : List (Bor (List ℕ) × Value)) (i : ℕ) (d : Bor (List ℕ) × Value) → i < length values
    → flat_map line_text (map (with_text false) (take i values)) ++ line_text (with_text false (get_or values i d)) ≡ flat_map line_text (map (with_text false) (take (i + 1) values))
line_more values i d less =
    flat_map_more line_text [] (map (with_text false) (take i values)) (with_text false (get_or values i d)) ∙ ap (flat_map line_text) (sym (map_more (with_text false) values i d less))

pub loop-named-preserved : goal.loop-named-preserved
loop-named-preserved g c = λ plain.
    let took = g.W.Write.write_str_gives in
    let before = c.loop-named.invariant plain in
    let written = c.write_line.ensures before.plain (search rules) in
    has_written_of_eq took c.args.f.now _ _ c.write_line.new.f (line_more c.args.values.now c.loop-named.named-index _ c.loop-named-test.true) (has_written_append took _ _ _ _ _ before written)

pub returns : goal.returns
returns g c = λ plain ok.
    has_written_of_eq g.W.Write.write_str_gives c.args.f.now _ _ c.loop-named.f
    (ap (λ (values : List (Bor (List ℕ) × Value)). flat_map line_text (map (with_text false) values)) (take_all c.loop-named.named-index c.args.values.now c.loop-named-test.false))
    (c.loop-named.invariant plain)
