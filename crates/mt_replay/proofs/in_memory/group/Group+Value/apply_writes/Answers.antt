use Rattle.std.proofs.Common.{◌≡◌, ◌⊎◌, ◌++◌, inl, inr, ℕ, List, map, ap, sym, subst}
use Rattle.mt_words.specs.declared.update.Kind.{Kind}
use Rattle.mt_words.specs.declared.update.Kind.TheVariants.{Put, Whole}
use Rattle.mt_words.specs.Limits.{widest}
use Rattle.mt_words.specs.Changes.{Write, set, erased, writes_of}
use Rattle.mt_words.specs.Writes.{AreWrites}
use Rattle.mt_words.proofs.WriteLemmas.{set_writes, erase_writes}
use Rattle.mt_replay.specs.Cells.{IsCellOf, written}
use Rattle.mt_replay.proofs.in_memory.group.Group+Value.apply_writes.Goals as goal

-- the columns are set
sets : (kind : Kind) (columns : List (ℕ × List ℕ)) → (kind ≡ Put columns) ⊎ (kind ≡ Whole columns) → writes_of kind ≡ map set columns
sets kind columns is = elim is as (λ _. writes_of kind ≡ map set columns) [ inl e ↦ ap writes_of e | inr e ↦ ap writes_of e ]

pub returns-in-Put-clause-writes : goal.returns-in-Put-clause-writes
returns-in-Put-clause-writes c = λ writes cell.
    subst (λ (ws : List Write). IsCellOf (writes ++ written c.args.stamp ws) c.apply_columns.new.self.slots) (sym (sets c.args.kind c.in-Put.columns c.in-Put.is)) (c.apply_columns.ensures.writes writes cell)

pub returns-in-Put-clause-lawful : goal.returns-in-Put-clause-lawful
returns-in-Put-clause-lawful c = subst (AreWrites widest) (sym (sets c.args.kind c.in-Put.columns c.in-Put.is)) (set_writes widest c.in-Put.columns c.apply_columns.ensures.lawful)

pub returns-in-Erase-clause-writes : goal.returns-in-Erase-clause-writes
returns-in-Erase-clause-writes c = λ writes cell.
    rw c.in-Erase.is (subst (λ (numbers : List ℕ). IsCellOf (writes ++ written c.args.stamp (map erased numbers)) c.apply_numbers.new.self.slots) c.as_slice.ensures.value (c.apply_numbers.ensures.writes writes cell))

pub returns-in-Erase-clause-lawful : goal.returns-in-Erase-clause-lawful
returns-in-Erase-clause-lawful c = rw c.in-Erase.is (erase_writes widest c.in-Erase.numbers c.as_slice.ensures.lawful.0)
