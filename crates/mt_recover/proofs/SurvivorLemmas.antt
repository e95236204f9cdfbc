-- What survives of logs and of a chosen checkpoint: no two survivors of a key share a stamp.
use Rattle.std.proofs.Common.{◌≡◌, subst, inl, inr, ℕ, List, [], ◌∷◌, Option, Some, None, Contains, sym, ap, ◌∙◌}
use Rattle.std.proofs.lemmas.List.Elements.{Contains-append_cases}
use Rattle.mt_words.specs.declared.record.Change.{Change}
use Rattle.mt_words.specs.declared.update.Origin.TheVariants as origins
use Rattle.mt_words.specs.declared.update.Update.{Update}
use Rattle.mt_words.specs.Words.{IsBelow, AreRising}
use Rattle.mt_words.specs.Changes.{Logged}
use Rattle.mt_words.specs.Updates.{update_at}
use Rattle.mt_scan.specs.PartScans.{KnownPart}
use Rattle.mt_scan.specs.Choice.{CheckpointReading, entry_keys, IsChosenOf}
use Rattle.mt_words.proofs.Elements.{no_element, head_or_tail}
use Rattle.mt_replay.specs.declared.window.Window.{Window}
use Rattle.mt_replay.specs.Survivors.{in_window, log_updates, log_survivors, wholes}
use Rattle.mt_recover.specs.Recovery.{entry_updates, begin_of, survivors}
use Rattle.mt_replay.specs.Cells.{AreApart}
use Rattle.mt_replay.proofs.Members.{of_each, of_map, in_map, of_filter}
use Rattle.mt_replay.proofs.StepLemmas.{below_itself}
use Rattle.mt_recover.proofs.Apart.{of_logs, logs_apart}

-- ---- stamps

-- a key stands in at most one entry
one_entry : (entries : List Change) (a b : Change) → AreRising (entry_keys entries) → Contains entries a → Contains entries b → a.key ≡ b.key → a ≡ b
one_entry [] a b rise at here same = absurd (no_element a at)
one_entry (e ∷ es) a b rise at here same = elim (head_or_tail e a es at) as (λ _. a ≡ b) [
  | inl first ↦ elim (head_or_tail e b es here) as (λ _. a ≡ b) [
    | inl too ↦ sym first ∙ too
    | inr later ↦
        let below : IsBelow e.key b.key = of_each (IsBelow e.key) (entry_keys es) b.key rise.0 (in_map (λ (entry : Change). entry.key) es b later) in
        absurd (below_itself b.key (subst (λ (k : List ℕ). IsBelow k b.key) (ap (λ (x : Change). x.key) first ∙ same) below))
  ]
  | inr later ↦ elim (head_or_tail e b es here) as (λ _. a ≡ b) [
    | inl first ↦
        let below : IsBelow e.key a.key = of_each (IsBelow e.key) (entry_keys es) a.key rise.0 (in_map (λ (entry : Change). entry.key) es a later) in
        absurd (below_itself a.key (subst (λ (k : List ℕ). IsBelow k a.key) (ap (λ (x : Change). x.key) first ∙ sym same) below))
    | inr too ↦ one_entry es a b rise.1 later too same
  ]
]

-- so a key has at most one update of entries
one_whole : (entries : List Change) (u w : Update) → AreRising (entry_keys entries) → Contains (wholes entries) u → Contains (wholes entries) w
    → u.key ≡ w.key → u ≡ w
one_whole entries u w rise at here same =
    let a = of_map (update_at origins.Checkpoint 0) entries u at in
    let b = of_map (update_at origins.Checkpoint 0) entries w here in
    let keys : a.0.key ≡ b.0.key = ap (λ (x : Update). x.key) a.2 ∙ same ∙ sym (ap (λ (x : Update). x.key) b.2) in
    sym a.2 ∙ ap (update_at origins.Checkpoint 0) (one_entry entries a.0 b.0 rise a.1 b.1 keys) ∙ b.2

-- and at most one update of the chosen checkpoint
one_of_chosen : (known : List KnownPart) (cutoff : ℕ) (chosen : Option CheckpointReading) (u w : Update) → IsChosenOf known cutoff chosen
    → Contains (entry_updates chosen) u → Contains (entry_updates chosen) w → u.key ≡ w.key → u ≡ w
one_of_chosen known cutoff None u w is at here same = absurd (no_element u at)
one_of_chosen known cutoff (Some checkpoint) u w is at here same = one_whole checkpoint.entries u w is.0.valid.make_up.rise at here same

-- the origin of such an update is the checkpoint
of_checkpoint : (chosen : Option CheckpointReading) (u : Update) → Contains (entry_updates chosen) u → u.stamp.origin ≡ origins.Checkpoint
of_checkpoint None u at = absurd (no_element u at)
of_checkpoint (Some checkpoint) u at = ap (λ (x : Update). x.stamp.origin) (sym (of_map (update_at origins.Checkpoint 0) checkpoint.entries u at).2)

-- an update of logs and one of a checkpoint have different stamps
two_origins : (logs : List (List Logged)) (chosen : Option CheckpointReading) (u w : Update) → Contains (log_updates logs) u
    → Contains (entry_updates chosen) w → u.stamp ≡ w.stamp → ⊥
two_origins logs chosen u w at here same =
    let log = of_logs 0 logs u at in
    let one : origins.Log log.0 log.1 ≡ origins.Checkpoint = sym log.2 ∙ ap (λ (x : _). x.origin) same ∙ of_checkpoint chosen w here in
    absurd cc

-- no two survivors of a key share a stamp
pub survivors_apart : (known : List KnownPart) (cutoff : ℕ) (chosen : Option CheckpointReading) (logs : List (List Logged))
    → IsChosenOf known cutoff chosen → AreApart (survivors cutoff chosen logs)
survivors_apart known cutoff chosen logs is u w at here key same =
    let window : Window = record { begin = begin_of chosen; cutoff = cutoff } in
    let of_logs = log_survivors window logs in
    elim (Contains-append_cases of_logs (entry_updates chosen) u at) as (λ _. u ≡ w) [
      | inl log ↦ elim (Contains-append_cases of_logs (entry_updates chosen) w here) as (λ _. u ≡ w) [
        | inl too ↦ logs_apart 0 logs u w (of_filter (in_window window) (log_updates logs) u log).0 (of_filter (in_window window) (log_updates logs) w too).0 same
        | inr entry ↦ absurd (two_origins logs chosen u w (of_filter (in_window window) (log_updates logs) u log).0 entry same)
      ]
      | inr entry ↦ elim (Contains-append_cases of_logs (entry_updates chosen) w here) as (λ _. u ≡ w) [
        | inl log ↦ absurd (two_origins logs chosen w u (of_filter (in_window window) (log_updates logs) w log).0 entry (sym same))
        | inr too ↦ one_of_chosen known cutoff chosen u w is entry too key
      ]
    ]
