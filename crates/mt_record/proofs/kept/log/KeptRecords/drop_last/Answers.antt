use Rattle.std.proofs.Common.{◌∙◌, ◌-◌, ℕ, true, false, sym, ap, arith}
use Rattle.mt_record.specs.Decoding.{decode}
use Rattle.mt_record.proofs.Cuts.{last_mark, last_gone, kept_without}
use Rattle.mt_record.proofs.kept.log.KeptRecords.drop_last.Goals as goal

pub invariant_of-self : goal.invariant_of-self
invariant_of-self c =
    let gone = c.drop_last.ensures in
    let mark = last_mark c.self.inside.bodies c.drop_last.new.self gone.0 c.body.result.now c.args.self.now (c.len-number.result - 1) c.is_mark-mark.result gone.1 c.self.view_is (ap (λ (n : ℕ). n - 1) c.len-number.ensures) c.body.ensures.says c.is_mark-mark.ensures in
    kept_without c.self.inside.bodies c.drop_last.new.self gone.0 c.self.inside.marks c.saturating_sub-self-inside.result true gone.1 c.self.invariant (omega (arith, c.len-number.ensures, c.len-number.type_inv)) (sym c.if-mark.true ∙ mark) c.saturating_sub-self-inside.ensures

pub invariant_of-self-else-mark : goal.invariant_of-self-else-mark
invariant_of-self-else-mark c =
    let gone = c.drop_last.ensures in
    let mark = last_mark c.self.inside.bodies c.drop_last.new.self gone.0 c.body.result.now c.args.self.now (c.len-number.result - 1) c.is_mark-mark.result gone.1 c.self.view_is (ap (λ (n : ℕ). n - 1) c.len-number.ensures) c.body.ensures.says c.is_mark-mark.ensures in
    kept_without c.self.inside.bodies c.drop_last.new.self gone.0 c.self.inside.marks c.self.inside.marks false gone.1 c.self.invariant (omega (arith, c.len-number.ensures, c.len-number.type_inv)) (sym c.if-mark.false ∙ mark) (omega arith)

pub returns-then-mark : goal.returns-then-mark
returns-then-mark c =
    let gone = c.drop_last.ensures in (
      decode gone.0,
      last_gone c.self.inside.bodies c.drop_last.new.self gone.0 c.args.self.now gone.1 c.self.view_is,
      last_mark c.self.inside.bodies c.drop_last.new.self gone.0 c.body.result.now c.args.self.now (c.len-number.result - 1) c.is_mark-mark.result gone.1 c.self.view_is (ap (λ (n : ℕ). n - 1) c.len-number.ensures) c.body.ensures.says c.is_mark-mark.ensures,
    )

pub returns-else-mark : goal.returns-else-mark
returns-else-mark c =
    let gone = c.drop_last.ensures in (
      decode gone.0,
      last_gone c.self.inside.bodies c.drop_last.new.self gone.0 c.args.self.now gone.1 c.self.view_is,
      last_mark c.self.inside.bodies c.drop_last.new.self gone.0 c.body.result.now c.args.self.now (c.len-number.result - 1) c.is_mark-mark.result gone.1 c.self.view_is (ap (λ (n : ℕ). n - 1) c.len-number.ensures) c.body.ensures.says c.is_mark-mark.ensures,
    )
