-- Checkpoints that are made.
use Rattle.std.proofs.Common.{◌≡◌, ℕ, suc, ◌+◌, ◌≤◌, ◌<◌, Option, None, Some, IfSome, Contains, refl, sym, ap, ◌∙◌, subst, arith}
use Rattle.std.proofs.lemmas.Option.{none-some, same_Some, IfSome_then}
use Rattle.mt_scan.specs.Choice.{CheckpointReading}
use Rattle.mt_recover.specs.Recovery.{begin_of}
use Rattle.std.proofs.lemmas.List.Elements.{All-contains}
use Rattle.mt_laws.specs.Writing.{updates_of, IsRead, IsWithin, Server, Stands, count_up, checkpoint, stand_on}
use Rattle.mt_keeper.specs.declared.keeper.Log.{Log}
use Rattle.mt_keeper.specs.declared.keeper.Making.{Making}
use Rattle.mt_keeper.specs.Keeping.{Keeping, Holds, numbered, IsReading, HasRead, IsLogOf, ArePast, reach_in}
use Rattle.mt_keeper.specs.Calling.{Steps, counted_up, with_checkpoint, standing_on}
use Rattle.mt_keeper.proofs.OneChanged.{all_still}
use Rattle.mt_keeper.proofs.Writes.{log_later, base_later}
use Rattle.mt_keeper.proofs.Reaching.{all_reached}

-- the base begins until the last stamp
base_begun : (clock : ℕ) (base : Option CheckpointReading) → IfSome base (λ c. IsWithin c × (c.end ≤ clock)) → begin_of base ≤ clock
base_begun clock None is = omega arith
base_begun clock (Some c) is = let begins = is.0.begins in omega (arith, begins, is.1)

begin_is : (b c : ℕ) (o : Option ℕ) → IsReading (Some (record { begin = b; end = o })) c → b ≡ c
begin_is b c o is = ap (λ (m : Making). m.begin) (same_Some _ _ is)

not_reading : (b c e : ℕ) → IsReading (Some (record { begin = b; end = Some e })) c → ⊥
not_reading b c e is = none-some e (sym (ap (λ (m : Making). m.end) (same_Some _ _ is)))

-- a checkpoint begins, with a stamp
pub counted : (keeper : Keeping) (s : Server) (stamp next : ℕ) → Stands s → Holds keeper s → stamp ≡ keeper.clock + 1
    → Steps s (counted_up s) (record keeper { clock = stamp; making = Some (record { begin = stamp; end = None }); next = next })
counted keeper s stamp next stands holds is = (
  count_up s,
  record {
    clock = omega (arith, holds.clock, is);
    acked = λ u at. let low = holds.acked u at in omega (arith, low, is);
    base = base_later keeper.clock stamp s.checkpoints.base (omega (arith, is)) holds.base;
    numbers = holds.numbers;
    logs = all_still (IsLogOf keeper.clock) (IsLogOf stamp) keeper.logs (numbered s) holds.logs (log_later keeper.clock stamp (omega (arith, is)));
    places = holds.places;
    checkpoints = record {
      of_base = holds.checkpoints.of_base;
      begun = (
        let low = base_begun s.clock s.checkpoints.base (IfSome_then s.checkpoints.base stands.base (λ c of. stands.written c of.0)) in
            omega (arith, low, holds.checkpoints.of_base, holds.clock, is),
        omega arith,
      );
      later = λ begin c reading at. let below = (stands.written c at).1 in omega (arith, below, holds.clock, is, begin_is stamp begin None reading);
    };
  },
)

-- what is known of a checkpoint that is being made
made : (keeper : Keeping) (s : Server) (making : Making) → Holds keeper s → keeper.making ≡ Some making → (keeper.base ≤ making.begin) × (making.begin ≤ keeper.clock)
made keeper s making holds is = subst (λ (m : Option Making). IfSome m (λ m. (keeper.base ≤ m.begin) × (m.begin ≤ keeper.clock))) is holds.checkpoints.begun

-- a checkpoint was read
pub ended : (keeper : Keeping) (s : Server) (new : CheckpointReading) → Holds keeper s → IsReading keeper.making new.begin → new.end ≡ keeper.clock → IsRead (updates_of s.slots) new
    → Steps s (with_checkpoint s new) (record keeper { making = Some (record { begin = new.begin; end = Some keeper.clock }) })
ended keeper s new holds reading end is_read =
    let is = made keeper s (record { begin = new.begin; end = None }) holds reading in (
      checkpoint s new is_read (omega (arith, end, is.1)) (omega (arith, end, holds.clock)) (λ c at. holds.checkpoints.later new.begin c reading at),
      record {
        clock = holds.clock;
        acked = holds.acked;
        base = holds.base;
        numbers = holds.numbers;
        logs = holds.logs;
        places = holds.places;
        checkpoints = record { of_base = holds.checkpoints.of_base; begun = is; later = λ begin c is at. absurd (not_reading new.begin begin keeper.clock is) };
      },
    )

-- the same, of what is being made
pub ended_as : (keeper : Keeping) (s : Server) (new : CheckpointReading) (making : Making) → Holds keeper s → keeper.making ≡ Some making → IsReading keeper.making new.begin
    → new.end ≡ keeper.clock → IsRead (updates_of s.slots) new
    → Steps s (with_checkpoint s new) (record keeper { making = Some (record { begin = making.begin; end = Some keeper.clock }) })
ended_as keeper s new making holds is reading end is_read =
    subst (λ (begin : ℕ). Steps s (with_checkpoint s new) (record keeper { making = Some (record { begin = begin; end = Some keeper.clock }) }))
    (ap (λ (m : Making). m.begin) (same_Some _ _ (sym reading ∙ is))) (ended keeper s new holds reading end is_read)

-- a checkpoint is given up
pub given_up : (keeper : Keeping) (s : Server) → Holds keeper s → Holds (record keeper { making = None }) s
given_up keeper s holds = record {
  clock = holds.clock;
  acked = holds.acked;
  base = holds.base;
  numbers = holds.numbers;
  logs = holds.logs;
  places = holds.places;
  checkpoints = record { of_base = holds.checkpoints.of_base; begun = tt; later = λ begin c is at. absurd (none-some _ is) };
}

-- the server stands on a checkpoint
pub stood : (keeper : Keeping) (s : Server) (new : CheckpointReading) → Stands s → Holds keeper s → HasRead keeper.making new.begin new.end → Contains s.checkpoints.written new
    → ArePast new.end keeper.logs → Steps s (standing_on s new) (record keeper { base = new.begin; making = None })
stood keeper s new stands holds read at past =
    let is = made keeper s (record { begin = new.begin; end = Some new.end }) holds read in (
      stand_on s new (suc new.end) at (omega (arith, is.0, holds.checkpoints.of_base))
          (all_reached keeper s (suc new.end) holds (λ l among. IfSome_then (reach_in l.stage) (All-contains (λ (log : Log). IfSome (reach_in log.stage) (λ reach. new.end < reach)) keeper.logs l past among) (λ reach low. omega (arith, low))))
          (omega arith),
      record {
        clock = holds.clock;
        acked = holds.acked;
        base = let below = (stands.written new at).1 in omega (arith, below, holds.clock);
        numbers = holds.numbers;
        logs = holds.logs;
        places = holds.places;
        checkpoints = record { of_base = refl; begun = tt; later = λ begin c is at. absurd (none-some _ is) };
      },
    )

-- the same, of what was being made
pub stood_as : (keeper now : Keeping) (s : Server) (new : CheckpointReading) (making : Making) (end : ℕ) → keeper ≡ now → Stands s → Holds keeper s → keeper.making ≡ Some making
    → making.end ≡ Some end → HasRead now.making new.begin new.end → Contains s.checkpoints.written new → ArePast end now.logs
    → Steps s (standing_on s new) (record keeper { base = making.begin; making = None })
stood_as keeper now s new making end is stands holds of of_end read at past =
    let here : HasRead keeper.making new.begin new.end = subst (λ (x : Keeping). HasRead x.making new.begin new.end) (sym is) read in
    let same : record { begin = new.begin; end = Some new.end } ≡ making = same_Some _ _ (sym here ∙ of) in
    let ends : end ≡ new.end = same_Some end new.end (sym of_end ∙ ap (λ (m : Making). m.end) (sym same)) in
    subst (λ (begin : ℕ). Steps s (standing_on s new) (record keeper { base = begin; making = None })) (ap (λ (m : Making). m.begin) same)
    (stood keeper s new stands holds here at (subst (λ (x : Keeping). ArePast new.end x.logs) (sym is) (subst (λ (e : ℕ). ArePast e now.logs) ends past)))
