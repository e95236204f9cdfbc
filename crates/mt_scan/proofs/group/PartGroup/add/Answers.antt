use Rattle.std.proofs.Common.{List, ◌∷◌, [], ◌++◌, sym, subst}
use Rattle.mt_scan.specs.PartScans.{KnownPart, whole}
use Rattle.mt_scan.specs.PartsShown.{shown_by}
use Rattle.mt_scan.specs.Steps.Groups.{IsPartGroupOf}
use Rattle.mt_scan.specs.declared.group.PartGroup.{PartGroup}
use Rattle.mt_scan.proofs.GroupLemmas.{stays_broken}
use Rattle.mt_scan.proofs.group.PartGroup.add.Goals as goal

pub returns-in_default : goal.returns-in_default
returns-in_default c =
    let part : KnownPart = whole (shown_by c.args.text) in
    subst (λ (group : PartGroup). (parts : List KnownPart) → IsPartGroupOf parts group → IsPartGroupOf (parts ++ part ∷ []) group) (sym c.in_default.is) (λ parts is. stays_broken parts part is)
