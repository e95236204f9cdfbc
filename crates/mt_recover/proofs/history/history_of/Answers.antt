use Rattle.std.proofs.Common.{◌≡◌, List, sym, subst}
use Rattle.std.specs.List.{AllZip}
use Rattle.std.specs.Option.{option_map}
use Rattle.mt_words.specs.declared.update.Update.{Update}
use Rattle.mt_scan.specs.Choosing.{checkpoint_in}
use Rattle.mt_recover.specs.Recovery.{entry_updates}
use Rattle.mt_recover.specs.History.{IsFate, IsHistory}
use Rattle.mt_recover.specs.Steps.Fates.{updates_in, those_surviving}
use Rattle.mt_recover.proofs.HistoryLemmas.{survivors, told, fate_to, zip_weaker, history_shown}
use Rattle.mt_recover.proofs.history.history_of.Goals as goal

pub returns : goal.returns
returns c =
    let window = c.args.window in
    let scans = c.args.scans.now in
    let chosen = option_map checkpoint_in c.args.chosen.now in
    let key = c.args.key.now in
    let updates = c.in_ok-updates.updates.items in
    let fates = c.in_ok-fates.fates.items in
    let are : updates ≡ told window scans chosen key = c.in_ok-updates.ensures in
    let among : AllZip (IsFate window (those_surviving window updates)) updates fates = subst (λ (us : List Update). AllZip (IsFate window (those_surviving window us)) us fates) c.deref.ensures.value c.in_ok-fates.ensures in
    let of_told : AllZip (IsFate window (those_surviving window (told window scans chosen key))) (told window scans chosen key) fates = subst (λ (us : List Update). AllZip (IsFate window (those_surviving window us)) us fates) are among in
    let of_all : AllZip (IsFate window (survivors window scans chosen)) (told window scans chosen key) fates = zip_weaker (IsFate window (those_surviving window (told window scans chosen key))) (IsFate window (survivors window scans chosen)) (told window scans chosen key) fates (λ u fate at is. fate_to window scans chosen key u at fate is) of_told in
    let history : IsHistory key window (updates_in scans) (entry_updates chosen) updates fates = record {
      exact = are;
      fates_are = subst (λ (us : List Update). AllZip (IsFate window (survivors window scans chosen)) us fates) (sym are) of_all;
    } in
    λ logs shown. history_shown key window scans logs (entry_updates chosen) updates fates shown history
