-- Where versions are timestamps, later updates are new.
use Rattle.std.proofs.Common.{◌≡◌, ◌⊎◌, inl, inr, ◌<◌, ◌≤◌, List, ◌∷◌, ◌++◌, Contains, subst, arith}
use Rattle.std.proofs.lemmas.List.Elements.{Contains-append_left, Contains-append_right}
use Rattle.mt_words.specs.declared.update.Update.{Update}
use Rattle.mt_words.proofs.Elements.{head_or_tail, head_in, tail_in}
use Rattle.mt_scan.specs.Choice.{CheckpointReading}
use Rattle.mt_laws.specs.Lives.{Checkpoints, IsNewOver, AddNew, IsLater, HaveTimestamps}

pub later_is_new : (updates : List Update) (checkpoints : Checkpoints) (u : Update) → HaveTimestamps (u ∷ updates) checkpoints → IsLater updates checkpoints u
    → (c : CheckpointReading) → Contains checkpoints.written c → IsNewOver updates c u
later_is_new updates checkpoints u have is c among =
    let own : u.stamp.version ≡ u.timestamp = have.versions u (head_in u updates) in
    let end : c.end < u.timestamp = is.after_ends c among in record {
      late = let ends : c.begin ≤ c.end = have.ends c among in omega (arith, ends, end);
      newer = λ w at same.
          let version : w.stamp.version ≡ w.timestamp = have.versions w (tail_in u w updates at) in
          let less : w.timestamp < u.timestamp = is.after_updates w at in
          omega (arith, version, less, own);
      above_entry = λ entry at same. let low : entry.version ≤ c.end = have.entries c entry among at in omega (arith, low, end, own);
    }

pub all_new : (before after : List Update) (checkpoints : Checkpoints) → HaveTimestamps (before ++ after) checkpoints
    → ((u : Update) → Contains after u → Contains before u ⊎ IsLater before checkpoints u) → AddNew checkpoints before after
all_new before after checkpoints have later u at = elim (later u at) as (λ _. Contains before u ⊎ ((c : CheckpointReading) → Contains checkpoints.written c → IsNewOver before c u)) [
  | inl was ↦ inl was
  | inr is ↦ inr (later_is_new before checkpoints u (record {
    versions = λ w among. elim (head_or_tail u w before among) as (λ _. w.stamp.version ≡ w.timestamp) [
      | inl e ↦ subst (λ (x : Update). x.stamp.version ≡ x.timestamp) e (have.versions u (Contains-append_right before after u at))
      | inr earlier ↦ have.versions w (Contains-append_left before after w earlier)
    ];
    ends = have.ends;
    entries = have.entries;
  }) is)
]
