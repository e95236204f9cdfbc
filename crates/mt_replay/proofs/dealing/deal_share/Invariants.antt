use Rattle.std.proofs.Common.{◌≡◌, ◌++◌, List}
use Rattle.std.specs.List.{filter}
use Rattle.mt_words.specs.declared.update.Update.{Update}
use Rattle.mt_replay.specs.Ranges.{dealt_by}
use Rattle.mt_replay.specs.Survivors.{in_window}
use Rattle.mt_replay.proofs.BatchLemmas.{first_of}
use Rattle.mt_replay.proofs.dealing.deal_share.Given as goal

-- the survivors of the records so far are dealt
abbrev pub invariant-loop-number : goal.invariant-loop-number
invariant-loop-number l = (dealt : List Update) → l.initial.lists ≡ dealt_by l.cuts dealt →
    l.lists ≡ dealt_by l.cuts (dealt ++ filter (in_window l.window) (first_of l.share l.number))
