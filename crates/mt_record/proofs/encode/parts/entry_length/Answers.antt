use Rattle.mt_words.specs.Limits.{widest}
use Rattle.mt_record.proofs.Entries.{entry_length}
use Rattle.mt_record.proofs.encode.parts.entry_length.Goals as goal

pub returns-clause-lawful : goal.returns-clause-lawful
returns-clause-lawful c = rw (c.change_length.ensures, c.change.ensures.value) (entry_length widest c.args.entry.now c.change.ensures.lawful)
