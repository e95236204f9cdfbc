-- A log or part that is added to what was added.
use Rattle.std.proofs.Common.{◌≡◌, List, [], ◌∷◌, ◌++◌, Option, Some, None, refl, subst, sym}
use Rattle.mt_record.specs.LogFeeding.{FedLog}
use Rattle.mt_record.specs.PartFeeding.{FedPart}
use Rattle.mt_recover.specs.Fed.{Input}
use Rattle.mt_c.specs.declared.held.Held.{Held}
use Rattle.mt_c.specs.declared.held.Held.TheVariants as held
use Rattle.mt_c.specs.Added.{Added, none_added, with_log, with_part, IsLog, IsPart, AreAdded}
use Rattle.mt_c.specs.Holding.{HoldsLog, HoldsPart, HoldsInputs}
use Rattle.mt_c.proofs.Lasts.{push_last}

pub log_added : (logs parts : List Input) (log : Input) (added after : Added) (input : Held) → ((fed : Option FedLog) → input ≡ held.Log fed → after ≡ with_log fed added) → AreAdded logs parts added → HoldsLog log (Some input) → AreAdded (logs ++ log ∷ []) parts after
log_added logs parts log added after (held.Log fed) now are one = subst (AreAdded (logs ++ log ∷ []) parts) (sym (now fed refl)) (push_last IsLog logs added.logs log fed are.0 one, are.1)
log_added logs parts log added after other now are one = absurd one

pub part_added : (logs parts : List Input) (part : Input) (added after : Added) (input : Held) → ((fed : Option FedPart) → input ≡ held.Part fed → after ≡ with_part fed added) → AreAdded logs parts added → HoldsPart part (Some input) → AreAdded logs (parts ++ part ∷ []) after
part_added logs parts part added after (held.Part fed) now are one = subst (AreAdded logs (parts ++ part ∷ [])) (sym (now fed refl)) (are.0, push_last IsPart parts added.parts part fed are.1 one)
part_added logs parts part added after other now are one = absurd one

-- an empty place holds what fresh inputs hold
pub none_held : (logs parts : List Input) (place : Option Held) (fresh : Added) → place ≡ None → fresh ≡ none_added → HoldsInputs logs parts place → AreAdded logs parts fresh
none_held logs parts place fresh was is inputs =
    let empty : (logs ≡ []) × (parts ≡ []) = subst (HoldsInputs logs parts) was inputs in
    let both : AreAdded logs parts none_added = subst (λ (ls : List Input). AreAdded ls parts none_added) (sym empty.0) (subst (λ (ps : List Input). AreAdded [] ps none_added) (sym empty.1) (tt, tt)) in
    subst (AreAdded logs parts) (sym is) both
