use Rattle.std.proofs.Common.{◌≡◌, ◌∙◌, ◌<◌, [], List, length, sym, ap, arith}
use Rattle.std.specs.Prelude.{slice_index_or}
use Rattle.std.proofs.lemmas.List.{get_or-map, length-map}
use Rattle.mt_words.specs.declared.record.Change.{Change}
use Rattle.mt_words.specs.declared.update.Kind.TheVariants.{Remove}
use Rattle.mt_words.specs.declared.update.Origin.TheVariants as origins
use Rattle.mt_words.specs.declared.update.Update.{Update}
use Rattle.mt_words.specs.Updates.{update_at}
use Rattle.mt_replay.specs.Steps.SortedUpdates.{held_in}
use Rattle.mt_replay.specs.Survivors.{wholes}
use Rattle.mt_replay.proofs.sorted_updates.SortedUpdates.text.Goals as goal

pub returns-in-Read : goal.returns-in-Read
returns-in-Read c = λ d.
    let none : Change = record { version = 0; key = []; kind = Remove } in
    let entries : List Change = c.in-Read.entries in
    let are : wholes entries ≡ c.args.self.now = sym (ap held_in c.in-Read.is) ∙ c.self.view_is in
    let below : c.args.at < length entries = omega (arith, c.requires, length-map entries (update_at origins.Checkpoint 0), ap (λ (us : List Update). length us) are) in
    c.of_entry.ensures
    ∙ c.update.ensures none
    ∙ sym (get_or-map (update_at origins.Checkpoint 0) entries c.args.at none d below)
    ∙ ap (λ (us : List Update). slice_index_or us c.args.at d) are

pub of_entry-requires : goal.of_entry-requires
of_entry-requires c = ap (λ (u : Update). u.stamp.origin) (c.update.ensures (record { version = 0; key = []; kind = Remove }))
