use Rattle.std.proofs.Common.{◌≡◌, [], ◌∷◌, ◌++◌, Some, sym, subst}
use Rattle.mt_c.specs.declared.held.Held.TheVariants as held
use Rattle.mt_c.specs.Holding.{HoldsInputs, HoldsLog, HoldsPart}
use Rattle.mt_c.proofs.Adds.{log_added, part_added, none_held}
use Rattle.mt_c.proofs.recovering.mtr_add.Goals as goal

pub returns-then-status-eq-DONE-clause-log : goal.returns-then-status-eq-DONE-clause-log
returns-then-status-eq-DONE-clause-log c = λ logs parts log inputs input done.
    let value = c.in-Some-held_mut.ensures.value in
    let kind = c.in-Inputs.is in
    let was : c.args.inputs.now.handle.value ≡ Some (held.Inputs c.in-Inputs.added) = cc in
    log_added logs parts log c.in-Inputs.added c.add-status.new.self c.in-Some.feed.now (λ fed is. c.add-status.ensures.log fed is done) (subst (HoldsInputs logs parts) was inputs) (subst (HoldsLog log) c.in-Some.ensures.value input)

pub returns-then-status-eq-DONE-2-clause-log : goal.returns-then-status-eq-DONE-2-clause-log
returns-then-status-eq-DONE-2-clause-log c = λ logs parts log inputs input done.
    let none = none_held logs parts c.args.inputs.now.handle.value c.new-added.result c.in_default-held_mut.ensures.value c.new-added.ensures inputs in
    let added = log_added logs parts log c.new-added.result c.add-status-2.new.self c.in-Some.feed.now (λ fed is. c.add-status-2.ensures.log fed is done) none (subst (HoldsLog log) c.in-Some.ensures.value input) in
    let put = c.put.ensures in
    let back = c.deref_mut.ensures.writes_back in
    let is : c.put.new.self.handle.value ≡ Some (held.Inputs c.add-status-2.new.self) = cc in
    subst (HoldsInputs (logs ++ log ∷ []) parts) (sym is) added

pub returns-then-status-eq-DONE-clause-part : goal.returns-then-status-eq-DONE-clause-part
returns-then-status-eq-DONE-clause-part c = λ logs parts part inputs input done.
    let value = c.in-Some-held_mut.ensures.value in
    let kind = c.in-Inputs.is in
    let was : c.args.inputs.now.handle.value ≡ Some (held.Inputs c.in-Inputs.added) = cc in
    part_added logs parts part c.in-Inputs.added c.add-status.new.self c.in-Some.feed.now (λ fed is. c.add-status.ensures.part fed is done) (subst (HoldsInputs logs parts) was inputs) (subst (HoldsPart part) c.in-Some.ensures.value input)

pub returns-then-status-eq-DONE-2-clause-part : goal.returns-then-status-eq-DONE-2-clause-part
returns-then-status-eq-DONE-2-clause-part c = λ logs parts part inputs input done.
    let none = none_held logs parts c.args.inputs.now.handle.value c.new-added.result c.in_default-held_mut.ensures.value c.new-added.ensures inputs in
    let added = part_added logs parts part c.new-added.result c.add-status-2.new.self c.in-Some.feed.now (λ fed is. c.add-status-2.ensures.part fed is done) none (subst (HoldsPart part) c.in-Some.ensures.value input) in
    let put = c.put.ensures in
    let back = c.deref_mut.ensures.writes_back in
    let is : c.put.new.self.handle.value ≡ Some (held.Inputs c.add-status-2.new.self) = cc in
    subst (HoldsInputs logs (parts ++ part ∷ [])) (sym is) added
