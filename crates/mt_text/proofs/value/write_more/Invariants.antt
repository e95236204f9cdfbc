use Rattle.std.proofs.Common.{◌≡◌, ℕ, Some, map, take}
use Rattle.std.specs.Prelude.{decimal}
use Rattle.std.specs.List.{flat_map}
use Rattle.std.specs.Fmt.{HasWritten, IsPlainFormatter}
use Rattle.mt_text.specs.RecordJson.{after_comma}
use Rattle.mt_text.proofs.value.write_more.Given as goal

-- the numbers so far are written
abbrev pub invariant-loop-number : goal.invariant-loop-number
invariant-loop-number g l = (of : g.row.T.Denot → ℕ) → ((x : g.row.T.Denot) → g.T.Display.output x ≡ Some (decimal (of x))) →
    IsPlainFormatter l.initial.f → HasWritten g.W.Write.write_str_gives l.initial.f (flat_map (after_comma decimal) (map of (take l.number-index l.numbers))) l.f
