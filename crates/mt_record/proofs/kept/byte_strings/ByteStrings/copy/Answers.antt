use Rattle.std.proofs.Common.{◌∙◌, ◌<◌, List, ℕ, [], ◌∷◌, ◌++◌, length, take, get_or, sym, ap, append_assoc, arith}
use Rattle.std.proofs.lemmas.List.{take_more}
use Rattle.mt_record.proofs.kept.byte_strings.ByteStrings.copy.Goals as goal

pub loop-at-preserved : goal.loop-at-preserved
loop-at-preserved c =
    let more = c.args.more.now in
    let at = c.loop-at.at in
    let within : at < length more = omega (arith, c.loop-at-test.true, c.len-at-end.ensures) in
    c.in-Ok.ensures.ok ∙ (λ i. c.loop-at.invariant i ++ c.get.ensures [] i ∷ []) ∙ append_assoc c.args.self.now (take at more) (get_or more at [] ∷ [])
    ∙ ap (λ (l : List (List ℕ)). c.args.self.now ++ l) (sym (take_more more at [] within))
