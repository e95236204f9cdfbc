-- What a front says of its log.
use Rattle.std.proofs.Common.{◌≡◌, Bool, true, false, IsTrue, refl, ap, subst, sym}
use Rattle.std.specs.Prelude.{◌↔◌}
use Rattle.mt_record.specs.declared.front.Rest.{Rest}
use Rattle.mt_record.specs.declared.front.Rest.TheVariants.{Torn}
use Rattle.mt_record.specs.declared.front.LogFront.{LogFront}
use Rattle.mt_record.specs.Logs.{LogReading}
use Rattle.mt_record.specs.LogTexts.{tail_rest}
use Rattle.mt_record.specs.declared.front.LogFront.{LogFront}
use Rattle.mt_scan.specs.Scans.{ShowsFront}

pub from_shown : (front : LogFront) (log : LogReading) → ShowsFront front log → front.head.from ≡ log.head.from
from_shown front log shows = ap (λ (f : LogFront). f.head.from) shows.is

pub segment_shown : (front : LogFront) (log : LogReading) → ShowsFront front log → front.head.segment ≡ log.head.segment
segment_shown front log shows = ap (λ (f : LogFront). f.head.segment) shows.is

torn_rest : (torn : Bool) → (tail_rest torn ≡ Torn) ↔ IsTrue torn
torn_rest true = (λ e. refl, λ e. refl)
torn_rest false = (λ e. cc, λ e. cc)

pub torn_shown : (front : LogFront) (log : LogReading) → ShowsFront front log → (front.rest ≡ Torn) ↔ IsTrue log.torn
torn_shown front log shows = subst (λ (rest : Rest). (rest ≡ Torn) ↔ IsTrue log.torn) (sym (ap (λ (f : LogFront). f.rest) shows.is)) (torn_rest log.torn)
