-- The steps of a shared scan.
use Rattle.std.proofs.Common.{◌≡◌, ◌⊎◌, inl, inr, ◌∙◌, ℕ, ◌<◌, ◌≤◌, ◌^◌, List, [], ◌∷◌, ◌++◌, Result, Ok, sym, ap, subst, append_assoc, arith}
use Rattle.std.proofs.lemmas.Bool.{false≢true}
use Rattle.std.specs.Result.{IsErr}
use Rattle.std.specs.List.{All}
use Rattle.mt_board.specs.Board.{PassView, least_of, nothing_noted}
use Rattle.mt_scan.specs.declared.dropping_feed.DroppingFeed.{DroppingFeed}
use Rattle.mt_scan.specs.Dropping.{HasLooked}
use Rattle.mt_scan.specs.Steps.DroppingFeeds.{HasStopped}
use Rattle.mt_scan.specs.Steps.Feeding.{NeedsNoMore, LooksOn, IsFedUnder}
use Rattle.mt_scan.proofs.DroppingFeeds.{stays_fed}
use Rattle.mt_scan.proofs.Drops.{under_looks}

-- ---- looks

pub least_last : (xs : List ℕ) (x : ℕ) → x ≤ least_of xs → least_of (xs ++ x ∷ []) ≡ x
least_last [] x low = omega (arith, low)
least_last (y ∷ ys) x low = let rest = least_last ys x (omega (arith, low)) in omega (arith, low, rest)

pub looked_on : (begun old now : PassView) (more : List ℕ) (limit : ℕ) → old ≡ record begun { looks = begun.looks ++ more } → now ≡ record old { looks = old.looks ++ limit ∷ [] }
    → now ≡ record begun { looks = begun.looks ++ (more ++ limit ∷ []) }
looked_on begun old now more limit was is =
    let looks : old.looks ++ limit ∷ [] ≡ begun.looks ++ (more ++ limit ∷ []) = ap (λ (p : PassView). p.looks ++ limit ∷ []) was ∙ append_assoc begun.looks more (limit ∷ []) in
    is ∙ ap (λ (p : PassView). record p { looks = old.looks ++ limit ∷ [] }) was ∙ ap (λ (l : List ℕ). record begun { looks = l }) looks

pub first_look : (begun now : PassView) (limit : ℕ) → now ≡ record begun { looks = begun.looks ++ limit ∷ [] } → limit ≤ nothing_noted → limit ≤ begun.noted → All (λ look. limit ≤ look) begun.looks → LooksOn begun now limit
first_look begun now limit is small low all = record {
  first = limit;
  more = [];
  looked = is;
  least = sym (ap (λ (p : PassView). least_of p.looks) is ∙ least_last begun.looks limit (under_looks limit begun.looks small all));
  low = low;
}

pub next_look : (begun old now : PassView) (was limit : ℕ) → LooksOn begun old was → now ≡ record old { looks = old.looks ++ limit ∷ [] } → limit ≤ nothing_noted → limit ≤ old.noted → All (λ look. limit ≤ look) old.looks
    → LooksOn begun now limit × (limit ≤ was)
next_look begun old now was limit s is small low all =
    let under = under_looks limit old.looks small all in (
      record {
        first = s.first;
        more = s.more ++ limit ∷ [];
        looked = looked_on begun old now (s.first ∷ s.more) limit s.looked is;
        least = sym (ap (λ (p : PassView). least_of p.looks) is ∙ least_last old.looks limit under);
        low = omega (arith, low, ap (λ (p : PassView). p.noted) s.looked);
      },
      omega (arith, under, s.least),
    )

-- ---- the scan

-- a feed that has stopped needs no more bytes
pub no_more : (limit : ℕ) (feed : DroppingFeed) → HasStopped feed → NeedsNoMore (IsFedUnder limit) feed
no_more limit feed stopped bytes more s = record { fed = stays_fed feed limit bytes more stopped s.fed; few = inl stopped }

pub has_looked : (before now : PassView) (limit : ℕ) → LooksOn before now limit → HasLooked before now × (now.noted ≡ before.noted)
has_looked before now limit s = (
  record {
    first = s.first;
    more = s.more;
    looks = looks;
    low = omega (arith, s.least, s.low);
    rest = rest ∙ ap (λ (n : ℕ). record before { looks = now.looks; noted = n }) (sym noted);
  },
  noted,
)
  where
    looks : now.looks ≡ before.looks ++ s.first ∷ s.more
    looks = ap (λ (p : PassView). p.looks) s.looked

    rest : now ≡ record before { looks = now.looks }
    rest = s.looked ∙ ap (λ (l : List ℕ). record before { looks = l }) (sym looks)

    noted : now.noted ≡ before.noted
    noted = ap (λ (p : PassView). p.noted) s.looked

-- `HasLooked` still holds after a number is noted
pub noted_on : (number : ℕ) (before old new : PassView) → HasLooked before old → new ≡ record old { noted = number } → HasLooked before new
noted_on number before old new h is =
    let looks : new.looks ≡ old.looks = ap (λ (p : PassView). p.looks) is in
    let noted : new.noted ≡ number = ap (λ (p : PassView). p.noted) is in record {
      first = h.first;
      more = h.more;
      looks = looks ∙ h.looks;
      low = omega (arith, ap least_of looks, h.low);
      rest = is ∙ ap (λ (p : PassView). record p { noted = number }) h.rest ∙ (λ i. record before { looks = sym looks i; noted = sym noted i });
    }

-- a scan that returned Ok had fewer than 2 ^ 64 bytes
pub few_bytes : {X F : Type 0} {Stopped : Type 0} (n : ℕ) (answer : Result X F) (x : X) → Stopped ⊎ (n < 2 ^ 64) → (Stopped → IsErr answer) → answer ≡ Ok x → n < 2 ^ 64
few_bytes n answer x (inl stopped) errs ok = absurd (false≢true (subst IsErr ok (errs stopped)))
few_bytes n answer x (inr few) errs ok = few
