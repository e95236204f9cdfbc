use Rattle.std.proofs.Common.{◌∷◌, [], arith}
use Rattle.std.proofs.lemmas.List.{length-append}
use Rattle.mt_recover.proofs.ScanLemmas.{scanned_more}
use Rattle.mt_recover.proofs.scans.scan_memory.Goals as goal

pub loop-log-preserved : goal.loop-log-preserved
loop-log-preserved c =
    let I = c.loop-log.invariant in
    let outcomes = c.loop-log.outcomes.items in
    record {
      number_is = rw c.in_ok-push.ensures.items (omega (arith, length-append outcomes (c.scan_bytes.result ∷ []), I.number_is));
      are = λ limit. scanned_more limit c.args.logs.now outcomes c.push.new.self.items c.loop-log.log (record { ref_ptr = (0, 0); now = [] }) c.scan_bytes.result c.loop-log-test.true I.number_is c.scan_bytes.ensures.scan c.scan_bytes.ensures.fault
          c.in_ok-push.ensures.items (I.are limit);
    }
