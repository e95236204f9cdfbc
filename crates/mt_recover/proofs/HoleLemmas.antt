-- A hole that a front shows is one before its file.
use Rattle.std.proofs.Common.{◌≡◌, ℕ, suc, ◌<◌, ◌≤◌, min, Bool, true, false, Option, Some, None, List, [], ◌∷◌, length, refl, ap, arith}
use Rattle.std.specs.Prelude.{◌&&◌, filter, find, is_some, nat_lt, if◌then◌else◌}
use Rattle.std.specs.Option.{option_map}
use Rattle.std.proofs.lemmas.List.Elements.{All-contains}
use Rattle.std.proofs.lemmas.Bool.{lt-ltb, le-ltb}
use Rattle.mt_record.specs.Logs.{LogReading, IsGreatestOf}
use Rattle.mt_record.specs.LogTexts.{greatest}
use Rattle.mt_record.specs.declared.front.LogFront.{LogFront}
use Rattle.mt_scan.specs.Scans.{last_in, ShowsFront, ShowFronts}
use Rattle.mt_scan.specs.Segments.{is_just_before}
use Rattle.mt_scan.proofs.Numbers.{from_shown, segment_shown}
use Rattle.mt_replay.specs.declared.window.Window.{Window}
use Rattle.mt_recover.specs.Holes.{last_of, ends_short, hole_before, has_hole}
use Rattle.mt_recover.specs.Steps.Holes.{short_end, front_hole, ends_short as ends_short_in}
use Rattle.mt_recover.proofs.VersionLemmas.{none_above, greatest_among}

-- the greatest of times is one number
one_last : (time : ℕ) (times : List ℕ) (n : ℕ) → IsGreatestOf (time ∷ times) n → n ≡ greatest (time ∷ times)
one_last time times n is =
    let high : n ≤ greatest (time ∷ times) = All-contains (λ (t : ℕ). t ≤ greatest (time ∷ times)) (time ∷ times) n (none_above (time ∷ times)) is.0 in
    let low : greatest (time ∷ times) ≤ n = All-contains (λ (t : ℕ). t ≤ n) (time ∷ times) (greatest (time ∷ times)) is.1 (greatest_among time times) in
    omega (arith, high, low)

last_shown : (front : LogFront) (log : LogReading) → ShowsFront front log → last_in front ≡ last_of log
last_shown front log shows = one_last log.head.from _ (last_in front) shows.last

short_shown : (cutoff : ℕ) (front other : LogFront) (log file : LogReading) → ShowsFront front log → ShowsFront other file → ends_short_in cutoff front other ≡ ends_short cutoff log file
short_shown cutoff front other log file shows show i =
    is_just_before (segment_shown other file show i) (segment_shown front log shows i) && nat_lt (last_shown other file show i) (min (from_shown front log shows i) cutoff)

found_shown : (cutoff : ℕ) (front : LogFront) (log : LogReading) → ShowsFront front log → (fronts : List LogFront) (logs : List LogReading) → ShowFronts fronts logs
    → short_end cutoff front fronts ≡ option_map last_of (find (ends_short cutoff log) logs)
found_shown cutoff front log shows [] [] show = refl
found_shown cutoff front log shows [] (l ∷ ls) show = absurd show
found_shown cutoff front log shows (s ∷ ss) [] show = absurd show
found_shown cutoff front log shows (s ∷ ss) (l ∷ ls) show = by (ends_short cutoff log l) refl (found_shown cutoff front log shows ss ls show.1)
  where
    by : (b : Bool) → ends_short cutoff log l ≡ b → short_end cutoff front ss ≡ option_map last_of (find (ends_short cutoff log) ls)
        → short_end cutoff front (s ∷ ss) ≡ option_map last_of (find (ends_short cutoff log) (l ∷ ls))
    by true e rest = rw (short_shown cutoff front s log l shows show.0, e) (ap Some (last_shown s l show.0))
    by false e rest = rw (short_shown cutoff front s log l shows show.0, e) rest

pub hole_shown : (window : Window) (front : LogFront) (log : LogReading) → ShowsFront front log → (fronts : List LogFront) (logs : List LogReading) → ShowFronts fronts logs
    → front_hole window fronts front ≡ hole_before window logs log
hole_shown window front log shows fronts logs show i = if nat_lt window.begin (from_shown front log shows i) then found_shown window.cutoff front log shows fronts logs show i else None

-- as many fronts show a hole as files have one before them
pub holes_counted : (window : Window) (all : List LogFront) (files : List LogReading) → ShowFronts all files → (fronts : List LogFront) (logs : List LogReading) → ShowFronts fronts logs
    → length (filter (λ (front : LogFront). is_some (front_hole window all front)) fronts) ≡ length (filter (has_hole window files) logs)
holes_counted window all files shown [] [] show = refl
holes_counted window all files shown [] (l ∷ ls) show = absurd show
holes_counted window all files shown (s ∷ ss) [] show = absurd show
holes_counted window all files shown (s ∷ ss) (l ∷ ls) show = by (has_hole window files l) refl (holes_counted window all files shown ss ls show.1)
  where
    tells : LogFront → Bool
    tells front = is_some (front_hole window all front)

    same : tells s ≡ has_hole window files l
    same = ap is_some (hole_shown window s l show.0 all files shown)

    by : (b : Bool) → has_hole window files l ≡ b → length (filter tells ss) ≡ length (filter (has_hole window files) ls) → length (filter tells (s ∷ ss)) ≡ length (filter (has_hole window files) (l ∷ ls))
    by true e rest = rw (same, e) (ap suc rest)
    by false e rest = rw (same, e) rest

-- ---- a test of `begin`

pub counts : (begin from : ℕ) (end : Option ℕ) → begin < from → end ≡ (if nat_lt begin from then end else None)
counts begin from end above = rw (lt-ltb begin from above) refl

pub counts_not : (begin from : ℕ) (end : Option ℕ) → from ≤ begin → None ≡ (if nat_lt begin from then end else None)
counts_not begin from end below = rw (le-ltb begin from below) refl
