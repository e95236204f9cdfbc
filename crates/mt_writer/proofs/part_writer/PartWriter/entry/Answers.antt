use Rattle.std.proofs.Common.{◌≡◌, ◌++◌, ◌+◌, ◌∷◌, Some, None, [], List, ℕ, map, sym, ap, ◌∙◌, subst}
use Rattle.mt_words.specs.Built.{entry_of}
use Rattle.mt_record.specs.Given.{column_of}
use Rattle.mt_writer.specs.PartFiles.{Part, IsPartOf, IsAdmitted}
use Rattle.mt_writer.proofs.PartLemmas.{added, added_few}
use Rattle.mt_writer.proofs.part_writer.PartWriter.entry.Goals as goal

pub invariant_of-self-2 : goal.invariant_of-self-2
invariant_of-self-2 c =
    let entry = entry_of c.args.version c.args.key.now (map column_of c.args.columns.now) in
    (c.self.invariant.0, added_few c.self.inside.mark entry _ _ _ _ c.in_ok-admit.ensures.ok.lawful c.in_ok-hold.ensures.ok)

pub returns-clause-ok : goal.returns-clause-ok
returns-clause-ok c = λ above entries taken is.
    let w = c.self.inside in
    let entry = entry_of c.args.version c.args.key.now (map column_of c.args.columns.now) in
    let here = subst (λ (p : Part). IsPartOf p above entries taken) (sym c.self.view_is) is in
    let may = subst (λ (p : Part). IsAdmitted p entry) (sym c.self.view_is) c.in_ok-admit.ensures.ok in
    subst (λ (k : List ℕ). IsPartOf (record { header = w.header; last = Some k; count = w.count + 1; end = w.end; held = c.hold.new.held.items; ready = c.hold.new.ready.items }) above (entries ++ entry ∷ []) taken) (sym c.replace.ensures)
    (added _ above entries taken entry w.mark c.hold.new.held.items c.hold.new.ready.items here may c.self.invariant.0 c.in_ok-hold.ensures.ok)
