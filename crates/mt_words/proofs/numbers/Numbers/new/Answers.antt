use Rattle.std.proofs.Common.{◌≡◌, ◌+◌, ◌++◌, [], ◌∷◌, ℕ, suc, List, take, drop, length, get_or, refl, sym, ap, ◌∙◌, subst, arith}
use Rattle.std.proofs.Math.Seq.{take-suc}
use Rattle.std.proofs.lemmas.List.{take-append-drop, length-append}
use Rattle.std.proofs.lemmas.Bool.{false≢true}
use Rattle.mt_words.specs.Limits.{widest}
use Rattle.mt_words.specs.Words.{AreNumbers}
use Rattle.mt_words.specs.Columns.{AllBelow}
use Rattle.mt_words.proofs.Rising.{numbers_front, numbers_push, numbers_room, last_number}
use Rattle.mt_words.proofs.numbers.Numbers.new.Goals as goal

pub returns-then-not-may_follow-clause-accepted : goal.returns-then-not-may_follow-clause-accepted
returns-then-not-may_follow-clause-accepted c =
    let numbers = c.args.numbers.now in
    let i = c.loop-number.number-index in (
      λ is. absurd (false≢true is),
      λ h.
          let whole : AreNumbers widest (take (suc i) numbers ++ drop (suc i) numbers) = subst (AreNumbers widest) (sym (take-append-drop (suc i) numbers)) h.0 in
          let front = numbers_front widest (take (suc i) numbers) (drop (suc i) numbers) whole in
          let split : take (suc i) numbers ≡ c.as_slice.result.now ++ get_or numbers i 0 ∷ [] =
          take-suc numbers i 0 c.loop-number-test.true ∙ ap (λ (x : List ℕ). x ++ get_or numbers i 0 ∷ []) (sym (c.as_slice.ensures.value ∙ c.loop-number.invariant.taken)) in
          c.if-not-may_follow.ensures.1 (last_number widest c.as_slice.result.now (get_or numbers i 0) (subst (AreNumbers widest) split front)),
    )

pub push-requires : goal.push-requires
push-requires c =
    let numbers = c.args.numbers.now in
    let i = c.loop-number.number-index in
    let so_far : AreNumbers widest c.as_slice.result.now = subst (AreNumbers widest) (sym c.as_slice.ensures.value) c.loop-number.invariant.lawful in
    let follows = c.if-not-may_follow.ensures.0 refl in
    let more = numbers_push widest c.as_slice.result.now (get_or numbers i 0) so_far follows.0 follows.1 in
    let room = numbers_room widest (c.as_slice.result.now ++ get_or numbers i 0 ∷ []) more in
    (omega arith, omega (arith, room, length-append c.as_slice.result.now (get_or numbers i 0 ∷ []), ap (λ (x : List ℕ). length x) c.as_slice.ensures.value))

pub loop-number-preserved : goal.loop-number-preserved
loop-number-preserved c =
    let numbers = c.args.numbers.now in
    let i = c.loop-number.number-index in
    let follows = c.if-not-may_follow.ensures.0 refl in
    let next : suc i ≡ i + 1 = omega arith in
    let more = numbers_push widest c.loop-number.rising.items (get_or numbers i 0) c.loop-number.invariant.lawful follows.0 (subst (λ (x : List ℕ). AllBelow x (get_or numbers i 0)) c.as_slice.ensures.value follows.1) in
    record {
      taken = c.push.ensures.items ∙ ap (λ (x : List ℕ). x ++ get_or numbers i 0 ∷ []) c.loop-number.invariant.taken ∙ sym (take-suc numbers i 0 c.loop-number-test.true) ∙ ap (λ n. take n numbers) next;
      lawful = subst (AreNumbers widest) (sym c.push.ensures.items) more;
    }
