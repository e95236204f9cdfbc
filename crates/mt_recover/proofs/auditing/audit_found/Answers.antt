use Rattle.std.proofs.Common.{◌∙◌, ◌++◌, List, ap, subst, append-nil}
use Rattle.std.specs.Prelude.{IsPermutation}
use Rattle.std.proofs.lemmas.Result.{IfOk-weaker}
use Rattle.mt_words.specs.declared.update.Update.{Update}
use Rattle.mt_words.specs.Walks.{joined}
use Rattle.mt_replay.proofs.AuditorLemmas.{moved_clashes}
use Rattle.mt_recover.specs.Steps.LogScans.{kept_in_window}
use Rattle.mt_recover.proofs.Preparing.{same_logged}
use Rattle.mt_recover.proofs.auditing.audit_found.Goals as goal

pub returns : goal.returns
returns g c = λ logs parts is.
    let updates = c.in_ok-divided.divided.updates in
    let logged = kept_in_window c.args.found.start.window c.args.found.scans.items in
    let moved = subst (λ (us : List Update). IsPermutation us updates) (ap (λ (none : List (List Update)). logged ++ joined none) c.new-2.ensures.items ∙ append-nil logged ∙ same_logged logs parts c.args.found is) c.in_ok-divided.ensures.divided.updates in
    IfOk-weaker c.all_clashes.result _ _ (λ clashes are. record {
      basis = is.start.basis;
      exact = moved_clashes _ updates clashes.items moved are;
    }) c.all_clashes.ensures
