use Rattle.std.proofs.Common.{◌∙◌, ◌++◌, ◌∷◌, [], ℕ, List, Option, Some, map, take, take_all, sym, ap, subst, rules}
use Rattle.std.proofs.lemmas.List.{map_more, flat_map_more}
use Rattle.std.specs.Prelude.{decimal}
use Rattle.std.specs.List.{flat_map}
use Rattle.std.specs.Fmt.{DisplaysOnOk, option_append}
use Rattle.std.proofs.Output.{has_written_append, has_written_of_eq}
use Rattle.mt_text.specs.RecordJson.{after_comma}
use Rattle.mt_text.proofs.value.write_more.Goals as goal

pub loop-number-preserved : goal.loop-number-preserved
loop-number-preserved g c = λ of text plain.
    let took = g.W.Write.write_str_gives in
    let numbers = c.args.numbers.now in
    let i = c.loop-number.number-index in
    let x = c.number-item.result in
    let before = c.loop-number.invariant of text plain in
    let written = subst (λ (o : Option (List ℕ)). DisplaysOnOk took c.loop-number.f c.write.result (option_append (Some (44 ∷ [])) o) c.write.new.self) (text x) c.write.ensures.writes before.plain (search rules) in
    let more = flat_map_more (after_comma decimal) [] (map of (take i numbers)) (of x)
    ∙ ap (λ (n : ℕ). flat_map (after_comma decimal) (map of (take i numbers) ++ n ∷ [])) (ap of c.number-item.is)
    ∙ ap (flat_map (after_comma decimal)) (sym (map_more of numbers i x c.loop-number-test.true)) in
    has_written_of_eq took c.args.f.now _ _ c.write.new.self more (has_written_append took _ _ _ _ _ before written)

pub returns : goal.returns
returns g c = λ of text plain ok.
    has_written_of_eq g.W.Write.write_str_gives c.args.f.now _ _ c.loop-number.f
    (ap (λ (ns : List g.row.T.Denot). flat_map (after_comma decimal) (map of ns)) (take_all c.loop-number.number-index c.args.numbers.now c.loop-number-test.false))
    (c.loop-number.invariant of text plain)
