-- Bodies of changes are short.
use Rattle.std.proofs.Common.{◌≡◌, ℕ, suc, ◌+◌, ◌*◌, ◌^◌, ◌<◌, ◌≤◌, Bool, false, List, length, ap, subst, arith}
use Rattle.std.proofs.lemmas.List.{length-append}
use Rattle.std.specs.Prelude.{IfSome}
use Rattle.mt_words.specs.declared.limits.Limits.{Limits}
use Rattle.mt_words.specs.declared.update.Kind.{Kind}
use Rattle.mt_words.specs.declared.update.Kind.TheVariants.{Put, Remove, Whole, Erase}
use Rattle.mt_words.specs.Limits.{widest}
use Rattle.mt_words.specs.Changes.{writes_of}
use Rattle.mt_words.specs.Writes.{AreWrites}
use Rattle.mt_words.proofs.Rising.{numbers_room}
use Rattle.mt_words.proofs.WriteLemmas.{set_columns, erase_numbers}
use Rattle.mt_record.specs.Spelling.{kind_bytes, body_of}
use Rattle.mt_record.specs.Decoding.{IsChangeBody, IsSoundChange, change_in, change_unless, time_in}
use Rattle.mt_record.proofs.Lawful.{carried_length}

-- what a kind with lawful writes carries has an allowed length
sound_length : (limits : Limits) (kind : Kind) → AreWrites limits (writes_of kind) → length (kind_bytes kind) ≤ 1 + suc limits.column * 65538
sound_length limits (Put columns) are = carried_length limits columns (set_columns limits columns are)
sound_length limits Remove are = omega arith
sound_length limits (Whole columns) are = carried_length limits columns (set_columns limits columns are)
sound_length limits (Erase numbers) are =
    let room = numbers_room limits numbers (erase_numbers limits numbers are) in
    omega (arith, room)

-- the length of the body of a change fits in four bytes, also with what may come before the body
pub short_body : (bytes : List ℕ) → IsChangeBody bytes → length bytes < 2 ^ 31
short_body bytes is =
    let spelled : bytes ≡ body_of (time_in bytes) (change_unless false (change_in bytes)) =
    subst (λ (mark : Bool). bytes ≡ body_of (time_in bytes) (change_unless mark (change_in bytes))) is.1 is.0.spelled in
    let sound : IsSoundChange (change_in bytes) = subst (λ (mark : Bool). IfSome (change_unless mark (change_in bytes)) IsSoundChange) is.1 is.0.change in
    let carried = sound_length widest (change_in bytes).kind sound.writes in
    let fields = length-append (change_in bytes).key (kind_bytes (change_in bytes).kind) in
    omega (arith, ap length spelled, fields, carried, sound.key)
