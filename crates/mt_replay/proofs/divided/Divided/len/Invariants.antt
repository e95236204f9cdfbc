use Rattle.std.proofs.Common.{◌≡◌, ◌≤◌, ◌*◌, ◌^◌, length, take}
use Rattle.mt_words.specs.Walks.{joined}
use Rattle.mt_replay.proofs.divided.Divided.len.Given as goal

-- the log updates of the ranges so far
abbrev pub invariant-loop-range : goal.invariant-loop-range
invariant-loop-range l = record {
  within : l.range-index ≤ length l.range-items;
  count : l.logged ≡ length (joined (take l.range-index l.range-items));
  few : l.logged ≤ 2 ^ 64 * l.range-index;
}

-- the entries of the lists so far
abbrev pub invariant-loop-entries : goal.invariant-loop-entries
invariant-loop-entries l = record {
  within : l.entries-index ≤ length l.entries-items;
  count : l.kept ≡ length (joined (take l.entries-index l.entries-items));
  few : l.kept ≤ 2 ^ 64 * l.entries-index;
}
