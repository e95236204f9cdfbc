use Rattle.std.proofs.Common.{◌++◌, ◌∷◌, [], ◌∙◌, List, take, take_all, Contains, sym, ap, subst}
use Rattle.std.specs.List.{AllZip}
use Rattle.std.proofs.lemmas.List.{take_more}
use Rattle.std.proofs.lemmas.List.Elements.{Contains-get_or}
use Rattle.mt_words.specs.declared.update.Update.{Update}
use Rattle.mt_recover.specs.declared.history.Fate.{Fate}
use Rattle.mt_recover.specs.History.{IsFate}
use Rattle.mt_recover.specs.Steps.Fates.{those_surviving}
use Rattle.mt_recover.proofs.HistoryLemmas.{zip_push}
use Rattle.mt_recover.proofs.history.fates_of.Goals as goal

pub fate_of-requires : goal.fate_of-requires
fate_of-requires c =
    let updates = c.args.updates.now in
    let u = c.update-item.result in
    subst (λ (v : Update). Contains updates v) (sym c.update-item.is) (Contains-get_or updates c.loop-update.update-index u c.loop-update-test.true)

pub loop-update-preserved : goal.loop-update-preserved
loop-update-preserved c =
    let updates = c.args.updates.now in
    let i = c.loop-update.update-index in
    let u = c.update-item.result in
    let R = IsFate c.args.window (those_surviving c.args.window updates) in
    let longer = take_more updates i u c.loop-update-test.true ∙ ap (λ (v : Update). take i updates ++ v ∷ []) (sym c.update-item.is) in
    subst (λ (us : List Update). AllZip R us c.push.new.self.items) (sym longer) (subst (λ (fs : List Fate). AllZip R (take i updates ++ u ∷ []) fs) (sym c.in_ok-push.ensures.items) (zip_push R (take i updates) c.loop-update.fates.items u _ c.loop-update.invariant c.in_ok-fate_of.ensures))

pub returns : goal.returns
returns c =
    let updates = c.args.updates.now in
    subst (λ (us : List Update). AllZip (IsFate c.args.window (those_surviving c.args.window updates)) us c.loop-update.fates.items) (take_all c.loop-update.update-index updates c.loop-update-test.false) c.loop-update.invariant
