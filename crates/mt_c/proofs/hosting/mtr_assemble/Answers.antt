use Rattle.std.proofs.Common.{◌≡◌, Some, sym, ◌∙◌}
use Rattle.mt_c.specs.declared.held.Held.TheVariants as held
use Rattle.mt_c.proofs.hosting.mtr_assemble.Goals as goal

pub returns-clause-done : goal.returns-clause-done
returns-clause-done c = λ logs parts holds done.
    let was : c.args.job.now.handle.value ≡ Some (held.Job c.in-Some.ready) = sym c.held.follows.holds-at-none ∙ c.in-Some.ensures.taken in record {
      log_bytes = holds.log_bytes;
      logs_are = holds.logs_are;
      part_bytes = holds.part_bytes;
      parts_are = holds.parts_are;
      outcome = c.in-Ok.recovered;
      held = c.begin_store.ensures.done done;
      recovered = c.in-Ok.ensures holds.log_bytes holds.part_bytes (rw was at holds.held);
    }
