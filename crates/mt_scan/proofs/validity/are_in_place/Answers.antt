use Rattle.std.proofs.Common.{refl}
use Rattle.std.proofs.lemmas.Bool.{false≢true}
use Rattle.mt_scan.specs.Steps.Checkpoints.{reading_of}
use Rattle.mt_scan.proofs.CheckpointLemmas.{in_place_more, in_place_at}
use Rattle.mt_scan.proofs.validity.are_in_place.Goals as goal

pub returns-then-not-is_at : goal.returns-then-not-is_at
returns-then-not-is_at c = λ number.
    let texts = c.args.texts.now in
    let value = reading_of number c.args.begin c.args.end texts in
    (λ h. absurd (false≢true h), λ are. absurd (false≢true ((c.if-not-is_at.ensures number texts).1 (in_place_at value _ texts c.loop-place.place c.index-texts-place.result c.loop-place-test.true c.index-texts-place.is are))))

pub loop-place-preserved : goal.loop-place-preserved
loop-place-preserved c = λ number.
    let texts = c.args.texts.now in
    let value = reading_of number c.args.begin c.args.end texts in
    in_place_more value _ texts c.loop-place.place c.index-texts-place.result c.loop-place-test.true c.index-texts-place.is (c.loop-place.invariant number) ((c.if-not-is_at.ensures number texts).0 refl)
