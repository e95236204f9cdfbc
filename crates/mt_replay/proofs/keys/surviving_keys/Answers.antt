use Rattle.mt_words.specs.Limits.{widest}
use Rattle.mt_words.specs.Words.{IsKey}
use Rattle.mt_replay.proofs.DistinctLemmas.{kept_each}
use Rattle.mt_replay.proofs.keys.surviving_keys.Goals as goal

pub returns-clause-lawful : goal.returns-clause-lawful
returns-clause-lawful g c = kept_each (IsKey widest) _ _ c.in_ok-par_keep_each_once.ensures c.in_ok-add_entries.ensures.lawful
