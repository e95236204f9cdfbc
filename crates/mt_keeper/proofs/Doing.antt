-- What a thread does with a log that it was lent.
use Rattle.std.proofs.Common.{◌≡◌, ℕ, ◌+◌, Bool, false, Option, List, [], ◌∷◌, ◌++◌, length, refl, sym, ap, subst, arith}
use Rattle.std.proofs.lemmas.List.Sums.{sum_by_push}
use Rattle.mt_record.specs.declared.feed.head.Segment.{Segment}
use Rattle.mt_writer.specs.Journals.{Journal, Writer, Keeps}
use Rattle.mt_shared.specs.declared.known.Act.{Act}
use Rattle.mt_shared.specs.Words.{HandView, acted}
use Rattle.mt_keeper.specs.Keeping.{Keeping}
use Rattle.mt_keeper.specs.Crews.{LentView, Deed, Held, resting, Goes, Does, Works, draws, IsDoing}

works_more : (logs number : ℕ) (before : Held) (deeds : List Deed) (acts : List Act) (held next : Held) (d : Deed) (a : Act) → Works logs number before deeds acts held
    → Does logs number held d a next → Works logs number before (deeds ++ d ∷ []) (acts ++ a ∷ []) next
works_more logs number before [] [] held next d a works does = (next, subst (λ (h : Held). Does logs number h d a next) works does, refl)
works_more logs number before [] (b ∷ acts) held next d a works does = absurd works
works_more logs number before (e ∷ deeds) [] held next d a works does = absurd works
works_more logs number before (e ∷ deeds) (b ∷ acts) held next d a works does = (works.0, works.1, works_more logs number works.0 deeds acts held next d a works.2 does)

-- a lent log with this hand
abbrev pub lent_with : HandView → (number : ℕ) → Option Segment → (from : ℕ) → Writer → (left : ℕ) → (failed : Bool) → LentView
lent_with hand number segment from writer left failed = record {
  table = hand.table;
  place = hand.number;
  number = number;
  segment = segment;
  from = from;
  writer = writer;
  acts = hand.acts;
  left = left;
  failed = failed;
}

-- one more deed
pub more : (before : Keeping) (hand after : HandView) (number : ℕ) (segment : Option Segment) (from : ℕ) (w v : Writer) (left less : ℕ) (failed still : Bool) (a : Act) (deeds : List Deed)
    (d : Deed) (held next : Held) → after ≡ acted hand a → IsDoing before (lent_with hand number segment from w left failed) deeds held → Does (length before.logs) number held d a next
    → draws d + less ≡ left → IsDoing before (lent_with after number segment from v less still) (deeds ++ d ∷ []) next
more before hand after number segment from w v left less failed still a deeds d held next acts doing does fewer =
    subst (λ (h : HandView). IsDoing before (lent_with h number segment from v less still) (deeds ++ d ∷ []) next) (sym acts) (record {
      start = doing.start;
      was = doing.was;
      works = works_more (length before.logs) number (resting doing.start) deeds hand.acts held next d a doing.works does;
      few = omega (arith, doing.few, sum_by_push draws deeds d, fewer);
    })

-- another writer at rest
pub goes : (change : Journal → Journal) (w v : Writer) → ((j : Journal) → Keeps w j → w.failed ≡ false → Keeps v (change j)) → v.failed ≡ w.failed → Goes change (resting w) (resting v)
goes change w v kept failed = record { kept = kept; failed = failed; same = refl }

-- the rest of the log is as it was
pub same_more : (hand after : HandView) (number : ℕ) (segment : Option Segment) (from : ℕ) (w : Writer) (left : ℕ) (failed : Bool) (old : LentView) (a : Act) → after ≡ acted hand a
    → lent_with hand number segment from w left failed ≡ record old { acts = hand.acts } → lent_with after number segment from w left failed ≡ record old { acts = after.acts }
same_more hand after number segment from w left failed old a acts same =
    subst (λ (h : HandView). lent_with h number segment from w left failed ≡ record old { acts = h.acts }) (sym acts) (ap (λ (l : LentView). record l { acts = hand.acts ++ a ∷ [] }) same)
