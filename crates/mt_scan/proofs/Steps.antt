-- How the steps of a scan go together.
use Rattle.std.proofs.Common.{◌≡◌, ◌⊎◌, inl, inr, ◌∙◌, List, ℕ, ◌+◌, ◌<◌, ◌^◌, ◌++◌, length, Bool, true, false, ◌&&◌, nat_lt, Option, Some, None, Result, Ok, Err, [], refl, sym, ap, subst, arith}
use Rattle.std.specs.Result.{is_ok, IfOk, IfErr}
use Rattle.std.proofs.lemmas.Bool.{false≢true}
use Rattle.std.proofs.lemmas.Bool.Decides.{nat_tests}
use Rattle.std.proofs.lemmas.List.{length-append}
use Rattle.std.specs.Io.KnownBytes.{Consumes, IsAtEnd}
use Rattle.mt_words.specs.declared.fault.Fault.{Fault}
use Rattle.mt_record.specs.declared.read.FeedFault.{FeedFault}
use Rattle.mt_record.specs.declared.read.FeedFault.TheVariants as of_log
use Rattle.mt_record.specs.Answered.{IsAnswered, fault_at}
use Rattle.mt_scan.specs.declared.log_scan.LogScan.{LogScan}
use Rattle.mt_scan.specs.Sources.{Seen, Agrees}
use Rattle.mt_scan.specs.Advancing.{HandsOut}
use Rattle.mt_scan.specs.Scans.{IsScanOf, IsScanFault, IsLogVerdict, OfTold}
use Rattle.mt_scan.specs.Steps.Feeding.{NeedsNoMore, AreFew, FeedsPiece}
use Rattle.mt_scan.proofs.Telling.{goes_on, handed_out, all_handed_out}

-- these bytes were returned and fed
pub record HasFed {F : Type 0} (was_fed : F → List ℕ → Type 0) (first now : Seen) (feed : F) : Type 0 where
  pub bytes : List ℕ
  pub handed_out : Consumes first.told now.told bytes
  pub fed : was_fed feed bytes
  pub few : AreFew now bytes

-- before the first chunk nothing was returned or fed
pub none_fed : {F : Type 0} (is_ready : F → List ℕ → Type 0) (seen : Seen) (feed : F) → is_ready feed [] → HasFed is_ready seen seen feed
none_fed is_ready seen feed ready = record { bytes = []; handed_out = nothing seen.told; fed = ready; few = λ small. omega (arith, small) }
  where
    nothing : (told : Option (List ℕ)) → Consumes told told []
    nothing None = tt
    nothing (Some told) = refl

module _ {F : Type 0} (is_ready was_fed : F → List ℕ → Type 0) (first before after : Seen) (old new : F) (more : Bool) (s : HasFed is_ready first before old) (f : FeedsPiece was_fed before after new s.bytes more) where
  more_handed_out : Consumes first.told after.told (s.bytes ++ f.piece)
  more_handed_out = goes_on first.told before.told after.told s.bytes f.piece s.handed_out f.next

  -- after one more chunk the feed is ready for the next
  pub ready_again : (is_next : F → List ℕ → Type 0) → is_next new (s.bytes ++ f.piece) → HasFed is_next first after new
  ready_again is_next next = record { bytes = s.bytes ++ f.piece; handed_out = more_handed_out; fed = next; few = f.few }

  -- after the last chunk the feed was fed all bytes that the source may have
  pub last_fed : more ≡ false → OfTold first.told (was_fed new)
  last_fed last = by (f.stops last)
    where
      by : IsAtEnd after.told ⊎ NeedsNoMore was_fed new → OfTold first.told (was_fed new)
      by (inl ends) = (s.bytes ++ f.piece, all_handed_out first.told after.told (s.bytes ++ f.piece) more_handed_out ends, f.fed)
      by (inr no_more) =
          let rest = handed_out first.told after.told (s.bytes ++ f.piece) more_handed_out in
          ((s.bytes ++ f.piece) ++ rest.0, rest.1, no_more (s.bytes ++ f.piece) rest.0 f.fed)

-- a chunk that the source returned was fed
pub feeds : {F : Type 0} (was_fed : F → List ℕ → Type 0) (before after : Seen) (new : F) (bytes : List ℕ) (on : Bool) (count : ℕ) → HandsOut before after count → AreFew before bytes → before.bound < 2 ^ 64
    → (piece : List ℕ) → piece ≡ after.shown → (length (bytes ++ piece) < 2 ^ 64 → was_fed new (bytes ++ piece)) → (on ≡ false → NeedsNoMore was_fed new)
    → FeedsPiece was_fed before after new bytes (on && nat_lt 0 count)
feeds was_fed before after new bytes on count out few bounded piece shown fed stops = record {
  piece = piece;
  next = subst (Consumes before.told after.told) (sym shown) out.next;
  fed = fed (omega (arith, few bounded, out.falls, size, sum));
  falls = omega (arith, out.falls, size);
  few = λ bound. omega (arith, few bounded, out.falls, size, sum);
  some = λ more. some on more;
  stops = λ ends. ended on ends stops;
}
  where
    size : length piece ≡ count
    size = ap length shown ∙ out.shown

    sum : length (bytes ++ piece) ≡ length bytes + length piece
    sum = length-append bytes piece

    some : (on : Bool) → (on && nat_lt 0 count) ≡ true → 0 < length piece
    some true more = let lt : nat_lt 0 count ≡ true = more in grind (arith, nat_tests, lt, size)
    some false more = absurd (false≢true more)

    ended : (on : Bool) → (on && nat_lt 0 count) ≡ false → (on ≡ false → NeedsNoMore was_fed new) → IsAtEnd after.told ⊎ NeedsNoMore was_fed new
    ended true ends stops = let none : nat_lt 0 count ≡ false = ends in inl (out.at_end (grind (arith, nat_tests, none)))
    ended false ends stops = inr (stops refl)

-- a feed that does not return Ok has a fault
pub has_fault : {X F : Type 0} (answer : Result X F) (fault : Option F) → is_ok answer ≡ false → IfErr answer (λ f. fault ≡ Some f) → (f : F) × (fault ≡ Some f)
has_fault (Ok x) fault failed kept = absurd (false≢true (sym failed))
has_fault (Err f) fault failed kept = (f, kept)

-- the fault of the bytes is the fault of their scan
pub answered : (log : ℕ) (bytes : List ℕ) (fault : FeedFault) → IsAnswered bytes fault → IsScanFault log bytes (fault_at log fault)
answered log bytes of_log.Header is = (refl, is (λ same. cc))
answered log bytes (of_log.Record nth what) is = (refl, is (λ same. cc))
answered log bytes of_log.Memory is = tt

-- the result of scanning bytes that the source may have is a result of scanning the source
pub scanned : (log : ℕ) (told : Option (List ℕ)) (bytes : List ℕ) (answer : Result LogScan Fault) → Agrees told bytes → IfOk answer (IsScanOf log bytes)
    → IfOk answer (λ scan. OfTold told (λ bytes. IsScanOf log bytes scan))
scanned log told bytes (Ok scan) agrees is = (bytes, agrees, is)
scanned log told bytes (Err fault) agrees is = tt

pub faulty : {X : Type 0} (log : ℕ) (told : Option (List ℕ)) (bytes : List ℕ) (answer : Result X Fault) → Agrees told bytes → IfErr answer (IsLogVerdict log bytes)
    → IfErr answer (λ fault. OfTold told (λ bytes. IsScanFault log bytes fault))
faulty log told bytes (Ok scan) agrees is = tt
faulty log told bytes (Err fault) agrees is = (bytes, agrees, subst (IsScanFault log bytes) (sym is.is) (answered log bytes is.of_bytes is.answered))
