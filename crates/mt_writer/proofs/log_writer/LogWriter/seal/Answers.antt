use Rattle.std.proofs.Common.{ap, sym, ◌∙◌, arith}
use Rattle.mt_record.specs.Logs.{latest, log_bytes}
use Rattle.mt_writer.specs.Journals.{Writer}
use Rattle.mt_writer.proofs.JournalLemmas.{all_records, reached, times_below}
use Rattle.mt_writer.proofs.log_writer.LogWriter.seal.Goals as goal

pub returns-clause-ok : goal.returns-clause-ok
returns-clause-ok c = λ j keeps.
    let w = c.args.self in
    let all = all_records w j keeps (omega (arith, c.if-self-2.false, ap (λ (x : Writer). x.synced_size) c.self.view_is, ap (λ (x : Writer). x.size) c.self.view_is)) in record {
      segment = sym keeps.segment ∙ ap (λ (x : Writer). x.segment) (sym c.self.view_is) ∙ c.in-Some.is;
      whole = ap (log_bytes j.head) (sym all);
      reached = λ time below. reached w j keeps time (omega (arith, below, keeps.last, keeps.reach, ap (latest 0) all));
      times = times_below w j keeps;
    }
