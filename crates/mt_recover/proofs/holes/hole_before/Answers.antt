use Rattle.std.proofs.Common.{◌∙◌, arith}
use Rattle.mt_recover.specs.Steps.Holes.{short_end}
use Rattle.mt_recover.proofs.HoleLemmas.{hole_shown, counts, counts_not}
use Rattle.mt_recover.proofs.holes.hole_before.Goals as goal

pub returns-then-from-begin-clause-fronts : goal.returns-then-from-begin-clause-fronts
returns-then-from-begin-clause-fronts c =
    counts_not c.args.window.begin c.args.file.now.head.from (short_end c.args.window.cutoff c.args.file.now c.args.fronts.now) (omega (arith, c.if-from-begin.true, c.from.ensures))

pub returns-then-from-begin-clause-logs : goal.returns-then-from-begin-clause-logs
returns-then-from-begin-clause-logs c = λ logs log show shows.
    counts_not c.args.window.begin c.args.file.now.head.from (short_end c.args.window.cutoff c.args.file.now c.args.fronts.now) (omega (arith, c.if-from-begin.true, c.from.ensures))
    ∙ hole_shown c.args.window c.args.file.now log shows c.args.fronts.now logs show

pub returns-clause-fronts : goal.returns-clause-fronts
returns-clause-fronts c =
    c.short_end.ensures
    ∙ counts c.args.window.begin c.args.file.now.head.from (short_end c.args.window.cutoff c.args.file.now c.args.fronts.now) (omega (arith, c.if-from-begin.false, c.from.ensures))

pub returns-clause-logs : goal.returns-clause-logs
returns-clause-logs c = λ logs log show shows.
    c.short_end.ensures
    ∙ counts c.args.window.begin c.args.file.now.head.from (short_end c.args.window.cutoff c.args.file.now c.args.fronts.now) (omega (arith, c.if-from-begin.false, c.from.ensures))
    ∙ hole_shown c.args.window c.args.file.now log shows c.args.fronts.now logs show
