use Rattle.std.proofs.Common.{inl, inr}
use Rattle.mt_words.specs.Limits.{widest}
use Rattle.mt_words.specs.Changes.{writes_of}
use Rattle.mt_words.specs.Writes.{AreWrites}
use Rattle.mt_words.proofs.WriteLemmas.{set_writes, erase_writes}
use Rattle.mt_record.proofs.encode.put_kind.Goals as goal

pub returns-in-Erase-clause-lawful : goal.returns-in-Erase-clause-lawful
returns-in-Erase-clause-lawful c = rw c.in-Erase.is (erase_writes widest c.in-Erase.numbers c.as_slice.ensures.lawful.0)

pub returns-in-Put-clause-lawful : goal.returns-in-Put-clause-lawful
returns-in-Put-clause-lawful c =
    let are = set_writes widest c.in-Put.columns c.as_slice-in-Put.ensures.lawful in
    elim c.in-Put.is as (λ _. AreWrites widest (writes_of c.args.kind.now)) [
      | inl put ↦ rw put are
      | inr whole ↦ rw whole are
    ]
