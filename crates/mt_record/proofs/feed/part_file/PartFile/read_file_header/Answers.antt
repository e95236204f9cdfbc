use Rattle.std.proofs.Common.{inl, inr, refl}
use Rattle.mt_record.proofs.PartSteps.{header_read}
use Rattle.mt_record.proofs.feed.part_file.PartFile.read_file_header.Goals as goal

pub returns-in_default : goal.returns-in_default
returns-in_default g c =
    (λ _ _ h. h, inr (inl (c.requires.sound, rw c.requires.untold (refl, (c.requires.sealed, c.if-bytes-lt-FILE_HEADER_BYTES.false, c.in_default.ensures.none)))))

pub returns : goal.returns
returns g c =
    header_read g.E.Entries.listed c.args.self.now c.in-Some.header c.text_head.result c.mark-self.result c.args.bytes.now c.in-Some.after.now c.requires.untold
    c.in-Some.ensures.found.0 c.in-Some.ensures.found.1 c.mark-self.ensures c.text_head.ensures
