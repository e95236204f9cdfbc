use Rattle.std.proofs.Common.{[], refl, sym, ◌∙◌}
use Rattle.std.proofs.lemmas.Bool.{false≢true}
use Rattle.std.proofs.lemmas.Bool.Decides.{Decides-eqb}
use Rattle.std.proofs.lemmas.Slice.Eq.{starts_is}
use Rattle.std.specs.Prelude.{codes}
use Rattle.mt_record.specs.declared.feed.file_feed.FileKind.TheVariants as kinds
use Rattle.mt_record.proofs.PartSteps.{told_nothing, tells_plain, plain_read}
use Rattle.mt_record.proofs.feed.part_file.PartFile.read_header.Goals as goal

pub returns-then-starts_with : goal.returns-then-starts_with
returns-then-starts_with g c =
    let starts = starts_is Decides-eqb (codes "MTC4") c.args.bytes.now c.starts_with.result c.starts_with.ensures.value in
    (refl, (c.requires.sound, rw c.requires.untold (told_nothing c.args.bytes.now _ (starts.0 c.if-starts_with.true) c.if-is_sealed_part.ensures)))

pub returns : goal.returns
returns g c =
    let starts = starts_is Decides-eqb (codes "MTC4") c.args.bytes.now c.starts_with.result c.starts_with.ensures.value in
    plain_read g.E.Entries.listed c.args.self.now (record c.args.self.now { kind = kinds.Plain; text = c.feed.new.self }) c.args.bytes.now c.requires.untold refl
    (tells_plain c.args.bytes.now c.if-is_sealed_part.ensures (λ more e. false≢true (sym c.if-starts_with.false ∙ starts.1 more e)))
    (λ fed. c.feed.ensures.fed tt [] fed)
