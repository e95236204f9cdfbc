-- Logs that agree below a timestamp have the same survivors below it.
use Rattle.std.proofs.Common.{◌≡◌, inl, ℕ, suc, ◌^◌, ◌<◌, ◌≤◌, List, [], ◌∷◌, ◌++◌, filter, refl, sym, ap, ◌∙◌, arith}
use Rattle.std.specs.List.{AllZip}
use Rattle.std.proofs.lemmas.List.Elements.{filter-append}
use Rattle.mt_words.specs.declared.limits.Limits.{Limits}
use Rattle.mt_words.specs.declared.update.Update.{Update}
use Rattle.mt_words.specs.Changes.{Logged}
use Rattle.mt_words.specs.Updates.{updates_from}
use Rattle.mt_record.specs.Logs.{AreRecords}
use Rattle.mt_replay.specs.declared.window.Window.{Window}
use Rattle.mt_replay.specs.Survivors.{all_updates, in_window}
use Rattle.mt_record.specs.Resuming.{below, marks_of}
use Rattle.mt_laws.proofs.Lost.{first_survive, all_outside}
use Rattle.mt_laws.proofs.Resumed.{split, resumed_rise, below_resumed}

-- lawful records whose timestamps never fall
abbrev pub NeverFall : List Logged → Type 0
NeverFall records = (limits : Limits) × AreRecords limits 0 records

-- the records of both logs never fall, and those below the timestamp are the same
pub record AgreeBelow (cutoff : ℕ) (records others : List Logged) : Type 0 where
  pub rise : NeverFall records
  pub others_rise : NeverFall others
  pub same : below cutoff records ≡ below cutoff others

pub agree_too : (cutoff : ℕ) (a b c : List Logged) → AgreeBelow cutoff a b → AgreeBelow cutoff b c → AgreeBelow cutoff a c
agree_too cutoff a b c first next = record { rise = first.rise; others_rise = next.others_rise; same = first.same ∙ next.same }

pub agrees_back : (cutoff : ℕ) (a b : List Logged) → AgreeBelow cutoff a b → AgreeBelow cutoff b a
agrees_back cutoff a b agree = record { rise = agree.others_rise; others_rise = agree.rise; same = sym agree.same }

pub resumed_agrees : (cutoff : ℕ) (limits : Limits) (records : List Logged) → cutoff < 2 ^ 64 → AreRecords limits 0 records
    → AgreeBelow cutoff records (below cutoff records ++ marks_of cutoff records)
resumed_agrees cutoff limits records fits are = record { rise = (limits, are); others_rise = (limits, resumed_rise limits cutoff records fits are); same = sym (below_resumed cutoff records) }

-- the survivors below a timestamp are those of the records below it
front_survives : (window : Window) (log : ℕ) (records : List Logged) → NeverFall records
    → filter (in_window window) (updates_from log 0 records) ≡ filter (in_window window) (updates_from log 0 (below window.cutoff records))
front_survives window log records rise =
    let apart = split rise.0 window.cutoff 0 records rise.1 in
    let late : window.cutoff ≤ window.cutoff = omega arith in
    ap (λ (rs : List Logged). filter (in_window window) (updates_from log 0 rs)) apart.all
    ∙ first_survive window log (below window.cutoff records) apart.late (all_outside window window.cutoff apart.late (inl late) apart.are_late)

-- the updates of logs, numbered from `log` on, in the window
abbrev pub survive_from : Window → ℕ → List (List Logged) → List Update
survive_from window log logs = filter (in_window window) (all_updates log logs)

pub agreeing_survive : (window : Window) (log : ℕ) (logs others : List (List Logged)) → AllZip (AgreeBelow window.cutoff) logs others
    → survive_from window log logs ≡ survive_from window log others
agreeing_survive window log [] [] are = refl
agreeing_survive window log [] (o ∷ os) are = absurd are
agreeing_survive window log (l ∷ ls) [] are = absurd are
agreeing_survive window log (l ∷ ls) (o ∷ os) are =
    let one = front_survives window log l are.0.rise
    ∙ ap (λ (rs : List Logged). filter (in_window window) (updates_from log 0 rs)) are.0.same
    ∙ sym (front_survives window log o are.0.others_rise) in
    filter-append (in_window window) (updates_from log 0 l) (all_updates (suc log) ls)
    ∙ (λ i. one i ++ agreeing_survive window (suc log) ls os are.1 i)
    ∙ sym (filter-append (in_window window) (updates_from log 0 o) (all_updates (suc log) os))
