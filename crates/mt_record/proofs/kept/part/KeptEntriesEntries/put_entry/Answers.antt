use Rattle.std.proofs.Common.{◌↔◌, IsTrue, List, ℕ, map, subst, sym}
use Rattle.std.proofs.lemmas.List.Elements.{All-push}
use Rattle.std.specs.Prelude.{All}
use Rattle.mt_words.specs.declared.record.Change.{Change}
use Rattle.mt_words.specs.Limits.{widest_format}
use Rattle.mt_words.specs.Words.{AreRising}
use Rattle.mt_record.specs.Decoding.{IsEntryBody}
use Rattle.mt_record.specs.Steps.Kept.{IsLastSlice}
use Rattle.mt_record.proofs.EntryTexts.{entry_fits}
use Rattle.mt_record.proofs.KeptBodies.{fields_say, entry_more, key_more}
use Rattle.mt_record.proofs.RisingKeys.{slice_pushed}
use Rattle.mt_record.proofs.kept.part.KeptEntriesEntries.put_entry.Goals as goal

pub fields_of-requires : goal.fields_of-requires
fields_of-requires c = (c.requires.0, entry_fits widest_format c.requires.0 c.requires.1.lawful, c.requires.1.spelled)

pub invariant_of-self-2 : goal.invariant_of-self-2
invariant_of-self-2 c =
    let entry = c.requires.0 in
    let says = fields_say c.args.fields.now entry c.requires.1 in
    let read = c.fields_of.ensures entry (entry_fits widest_format entry c.requires.1.lawful) c.requires.1.spelled in
    let more = entry_more c.self.inside.bodies c.push_joined.new.self c.args.self.now _ entry c.self.view_is c.in_ok-push_joined.ensures.ok says.0 in
    let keys = key_more c.push_joined.new.self c.args.self.now entry c.fields_of.result.key.now more read.key in
    record {
      lawful = subst (All IsEntryBody) (sym c.in_ok-push_joined.ensures.ok) (All-push IsEntryBody c.self.inside.bodies _ c.self.invariant.lawful says.1);
      told = subst (λ (keys : List (List ℕ)). IsTrue c.is_rising_to-rising.result ↔ AreRising keys) keys c.is_rising_to-rising.ensures;
      slice = subst (λ (keys : List (List ℕ)). IsLastSlice keys c.slice_of-head.result) keys (slice_pushed (map (λ (entry : Change). entry.key) c.args.self.now) c.fields_of.result.key.now c.slice_of-head.result c.slice_of-head.ensures.value c.slice_of-head.ensures.bytes);
    }

pub returns-clause-ok : goal.returns-clause-ok
returns-clause-ok c = λ entry are.
    entry_more c.self.inside.bodies c.push_joined.new.self c.args.self.now _ entry c.self.view_is c.in_ok-push_joined.ensures.ok (fields_say c.args.fields.now entry are).0
