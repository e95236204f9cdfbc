use Rattle.std.proofs.Common.{sym, ap, ◌∙◌, ◌≡◌, ◌++◌, take, take-append-drop, append_assoc}
use Rattle.mt_crc.specs.Crc.{remainder}
use Rattle.mt_crc.proofs.Numbers.{remainder-append}
use Rattle.mt_crc.proofs.remainder.Goals as goal

pub pairs-preserved : goal.pairs-preserved
pairs-preserved c =
    let first = c.in-Some.first.now in
    let second = c.in-Some-split_first_chunk.second.now in
    let more = c.in-Some-split_first_chunk.more.now in
    let behind = c.in-Some.behind.now in
    let h = c.in-Some.ensures.cases in
    let k = c.in-Some-split_first_chunk.ensures.cases in
    let whole : first ++ behind ≡ c.pairs.rest.now = ap (λ x. x ++ behind) h.0 ∙ ap (λ x. take 8 c.pairs.rest.now ++ x) h.1 ∙ take-append-drop 8 c.pairs.rest.now in
    let rest : second ++ more ≡ behind = ap (λ x. x ++ more) k.0 ∙ ap (λ x. take 8 behind ++ x) k.1 ∙ take-append-drop 8 behind in
    ap (λ s. remainder s more) c.after_pair-state.ensures
    ∙ sym (remainder-append c.pairs.state (first ++ second) more)
    ∙ ap (remainder c.pairs.state) (append_assoc first second more ∙ ap (λ x. first ++ x) rest ∙ whole)
    ∙ c.pairs.invariant
