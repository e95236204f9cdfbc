use Rattle.std.proofs.Common.{◌≡◌, ◌∙◌, refl, ap}
use Rattle.std.specs.Ordering.{nat_cmp, is_lt, is_some_and}
use Rattle.std.specs.Cmp.Lexicographic.{slice_cmp, lists_agrees}
use Rattle.mt_scan.proofs.RisingLemmas.{follows}
use Rattle.mt_scan.proofs.rising.can_follow.Goals as goal

pub returns-in-Some : goal.returns-in-Some
returns-in-Some c =
    let same : c.lt.result ≡ is_lt (slice_cmp nat_cmp c.in-Some.last.now c.args.key.now) = c.lt.ensures ∙ ap (is_some_and is_lt) (lists_agrees (λ x y. refl) c.in-Some.last.now c.args.key.now) in
    rw c.in-Some.is (rw same (follows c.in-Some.last.now c.args.key.now))
