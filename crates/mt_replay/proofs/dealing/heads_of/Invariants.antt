use Rattle.std.proofs.Common.{◌≡◌, map, take}
use Rattle.mt_words.specs.Slices.{slice_in}
use Rattle.mt_replay.proofs.dealing.heads_of.Given as goal

-- the slices of the first cuts
abbrev pub invariant-loop-cut : goal.invariant-loop-cut
invariant-loop-cut l = l.heads.items ≡ map slice_in (take l.cut-index l.cuts)
