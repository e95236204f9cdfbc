use Rattle.std.proofs.Common.{◌≡◌, ◌-◌, true, List, ℕ, length, get_or, take, sym, ap, ◌∙◌, arith}
use Rattle.mt_replay.specs.Cuts.{in_piece}
use Rattle.mt_replay.proofs.FilterLemmas.{between_cuts}
use Rattle.mt_replay.proofs.parts.shared_in.Goals as goal

pub returns : goal.returns
returns c =
    let cuts : List (List ℕ) = c.args.cuts.now in
    let at = c.args.piece in
    let p : List ℕ = c.common_start-shared.result.now in
    let low : List ℕ = c.index-keys-at.result in
    let high : List ℕ = c.index-keys-at-2.result in
    let keys : c.keys-keys.result.now ≡ cuts = c.keys-keys.ensures.value in
    let size : length c.keys-keys.result.now ≡ length cuts = ap (λ (ks : List (List ℕ)). length ks) keys in
    let first : take (length p) low ≡ p = ap (take (length p)) (sym c.as_bytes.ensures.value) ∙ c.common_start-shared.ensures.first in
    let second : take (length p) high ≡ p = ap (take (length p)) (sym c.as_bytes-2.ensures.value) ∙ c.common_start-shared.ensures.second in
    let both : (key : List ℕ) → in_piece cuts at key ≡ true → take (length p) key ≡ p = λ key passes.
    between_cuts cuts at low high p key (omega arith) (omega (arith, size)) (c.index-keys-at.is ∙ ap (λ (ks : List (List ℕ)). get_or ks (at - 1) low) keys) (c.index-keys-at-2.is ∙ ap (λ (ks : List (List ℕ)). get_or ks at high) keys) first second passes in
    (p, both)
