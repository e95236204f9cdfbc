use Rattle.std.proofs.Common.{inr, refl, subst, List, ℕ}
use Rattle.std.proofs.lemmas.Result.{on_ok_weaker}
use Rattle.std.specs.Prelude.{Contains}
use Rattle.mt_text.specs.Forms.{absent_text}
use Rattle.mt_cli.proofs.answering.write_found.Goals as goal

pub returns-in-None : goal.returns-in-None
returns-in-None g c =
    let absent = subst (λ (key : List ℕ). (columns : List (ℕ × List ℕ)) → Contains c.args.store.now (key, columns) → ⊥) c.as_bytes-key.ensures.value c.in-None.ensures in
    λ is. on_ok_weaker c.write_absent.result (λ appended. (absent_text, inr (absent, refl), appended)) (c.write_absent.ensures is.0)
