use Rattle.std.proofs.Common.{false, ℕ, List, Option, map, sym, ap, subst, rules}
use Rattle.std.specs.Fmt.{DisplaysOnOk}
use Rattle.std.proofs.Output.{has_written_append, has_written_of_eq}
use Rattle.mt_text.specs.Values.{numbers_text}
use Rattle.mt_text.proofs.value.write_list.Goals as goal

pub returns : goal.returns
returns g c = λ of text plain ok.
    let took = g.W.Write.write_str_gives in
    let written = subst (λ (o : Option (List ℕ)). DisplaysOnOk took c.args.f.now c.write.result o c.write.new.self) (text c.in-Some.first.now) c.write.ensures.writes plain (search rules) in
    let all = has_written_append took _ _ _ _ _ written (c.write_more.ensures of text written.plain ok) in
    has_written_of_eq took c.args.f.now _ _ c.write_more.new.f (ap (λ (ns : List g.row.T.Denot). numbers_text false (map of ns)) (sym c.in-Some.ensures.cases.0)) all
