use Rattle.std.proofs.Common.{ℕ, List, [], ◌∷◌, ◌++◌, refl, ap, ◌∙◌, subst}
use Rattle.std.specs.Prelude.{slice_get}
use Rattle.mt_record.specs.Encoding.{segment_head}
use Rattle.mt_writer.specs.Journals.{begun, IsFileOf}
use Rattle.mt_keeper.specs.declared.keeper.Log.{Log}
use Rattle.mt_keeper.proofs.NewLogs.{first_log, first_called, first_holds}
use Rattle.mt_keeper.proofs.first.First.created.Goals as goal

pub returns-clause-called : goal.returns-clause-called
returns-clause-called c = first_called c.args.self.new c.args.self.begins.0 c.args.self.begins.1

pub returns-clause-holds : goal.returns-clause-holds
returns-clause-holds c =
    first_holds c.args.self.new c.created.result c.push_reserved.new.self.items _ c.args.self.begins.0 c.args.self.begins.1 c.created.ensures.keeps c.created.ensures.failed
    (c.push_reserved.ensures.items ∙ ap (λ (logs : List Log). logs ++ first_log c.created.result ∷ []) c.args.self.room.0)

pub returns-clause-file : goal.returns-clause-file
returns-clause-file c =
    let new = c.args.self.new in
    let log = first_log c.created.result in
    let logs = c.push_reserved.ensures.items ∙ ap (λ (logs : List Log). logs ++ log ∷ []) c.args.self.room.0 in record {
      writer = c.created.result;
      stands = record { log = log; stands = ap (λ (logs : List Log). slice_get logs 0) logs; is = refl };
      is_file = subst (λ (mark : ℕ). IsFileOf c.created.result (begun (segment_head 0 0 0) mark) new.bytes) c.args.self.begins.1 (c.created.ensures.file (segment_head 0 0 0) c.args.self.begins.0);
    }
