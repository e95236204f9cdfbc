use Rattle.std.proofs.Common.{◌≡◌, ◌+◌, length, ap, sym, ◌∙◌, arith}
use Rattle.std.proofs.lemmas.List.{length-append}
use Rattle.byteorder.specs.Endian.{big_bytes}
use Rattle.mt_words.proofs.ColumnBytes.{same_number}
use Rattle.mt_record.proofs.feed.frame.frame_wanted.Goals as goal

pub returns-in-Some : goal.returns-in-Some
returns-in-Some c number more fits e =
    let found = c.in-Some.ensures.found in
    let same = same_number 4 c.in-Some.length number c.in-Some.field-0-1.now more found.0 fits (sym found.1 ∙ e) in
    omega (arith, c.saturating_add.ensures, same.0, found.0)

pub returns-in-None : goal.returns-in-None
returns-in-None c number more fits e = absurd (omega (arith, c.in-None.ensures.none, ap length e, length-append (big_bytes 4 number) more))
