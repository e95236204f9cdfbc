use Rattle.std.proofs.Common.{length, ap, List, ℕ, arith}
use Rattle.std.proofs.lemmas.List.{length-take-le}
use Rattle.mt_words.specs.Limits.{widest}
use Rattle.mt_words.proofs.Rising.{numbers_room}
use Rattle.mt_words.proofs.numbers.Numbers.of_lawful.Goals as goal

pub push-requires : goal.push-requires
push-requires c =
    let numbers = c.args.numbers.now in
    let i = c.loop-number.number-index in
    let room = numbers_room widest numbers c.requires.lawful in
    (omega arith, omega (arith, room, c.loop-number-test.true, length-take-le i numbers (omega (arith, c.loop-number-test.true)), ap (λ (x : List ℕ). length x) c.loop-number.invariant))
