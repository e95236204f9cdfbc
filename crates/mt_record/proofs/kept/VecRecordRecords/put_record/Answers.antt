use Rattle.std.proofs.Common.{◌≡◌, ◌++◌, ◌∷◌, [], ◌∙◌, subst}
use Rattle.std.specs.Result.{OnOk}
use Rattle.mt_words.specs.Changes.{Logged}
use Rattle.mt_record.proofs.Decodes.{body_says}
use Rattle.mt_record.proofs.kept.VecRecordRecords.put_record.Goals as goal

pub returns-clause-ok : goal.returns-clause-ok
returns-clause-ok c = λ r is.
    subst (λ (x : Logged). OnOk c.keep.result (c.keep.new.items.items ≡ c.args.self.now.items ++ x ∷ []))
    (c.in_ok-record.ensures ∙ (body_says c.args.body.now r is.lawful is.spelled).0) c.keep.ensures.ok
