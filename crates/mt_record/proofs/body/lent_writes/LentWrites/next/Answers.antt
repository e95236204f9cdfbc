use Rattle.std.proofs.Common.{◌≡◌, [], rules, map, ap, sym, subst, ◌∙◌}
use Rattle.mt_words.specs.declared.code.Payload.{Payload}
use Rattle.mt_words.specs.Changes.{set}
use Rattle.mt_words.proofs.ColumnBytes.{no_column}
use Rattle.mt_record.specs.Decoding.{writes_from, AreLent, AreLentColumns}
use Rattle.mt_record.proofs.Decodes.{next_set}
use Rattle.mt_record.proofs.body.lent_writes.LentWrites.next.Goals as goal

pub returns-in_err-number-in-Columns-clause-none : goal.returns-in_err-number-in-Columns-clause-none
returns-in_err-number-in-Columns-clause-none c =
    let left = c.self.inside.left in
    let bytes = c.self.inside.bytes.now in
    let lent : AreLentColumns left bytes = subst (λ (payload : Payload). AreLent payload left bytes) c.in-Columns.is c.self.invariant in
    let none : c.args.self.now ≡ [] = sym c.self.view_is ∙ ap (λ (payload : Payload). writes_from payload left bytes) c.in-Columns.is ∙ ap (map set) (no_column left bytes lent c.in_err-number-in-Columns.ensures.none) in
    search (rules, none)

pub invariant_of-self : goal.invariant_of-self
invariant_of-self c =
    let read = c.in_ok-number-in-Columns in
    (next_set c.self.inside.payload c.self.inside.left c.self.inside.bytes.now read.after.now (read.number, read.bytes.now) c.in-Columns.is c.self.invariant read.ensures.found.0 read.ensures.found.1).1

pub returns-in_ok-number-in-Columns-clause-some : goal.returns-in_ok-number-in-Columns-clause-some
returns-in_ok-number-in-Columns-clause-some c =
    let read = c.in_ok-number-in-Columns in
    sym c.self.view_is ∙ (next_set c.self.inside.payload c.self.inside.left c.self.inside.bytes.now read.after.now (read.number, read.bytes.now) c.in-Columns.is c.self.invariant read.ensures.found.0 read.ensures.found.1).0
