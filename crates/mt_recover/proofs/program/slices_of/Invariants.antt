use Rattle.std.proofs.Common.{◌≡◌, map, take}
use Rattle.mt_recover.proofs.program.slices_of.Given as goal

-- there is a slice of each file so far
abbrev pub invariant-loop-file : goal.invariant-loop-file
invariant-loop-file l = map (λ slice. slice.now) l.slices.items ≡ map (λ file. file.items) (take l.file-index l.files)
