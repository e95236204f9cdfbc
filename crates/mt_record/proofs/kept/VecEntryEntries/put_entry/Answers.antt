use Rattle.std.proofs.Common.{◌≡◌, ◌++◌, ◌∷◌, [], subst}
use Rattle.std.specs.Result.{OnOk}
use Rattle.mt_words.specs.declared.record.Change.{Change}
use Rattle.mt_record.proofs.Copying.{same_entry}
use Rattle.mt_record.proofs.kept.VecEntryEntries.put_entry.Goals as goal

pub returns-clause-ok : goal.returns-clause-ok
returns-clause-ok c = λ entry are.
    subst (λ (x : Change). OnOk c.keep.result (c.keep.new.items.items ≡ c.args.self.now.items ++ x ∷ []))
    (same_entry c.args.fields.now c.in_ok-entry.entry entry c.in_ok-entry.ensures are) c.keep.ensures.ok
