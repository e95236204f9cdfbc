use Rattle.std.proofs.Common.{◌≡◌, ◌≤◌, ◌-◌, ◌++◌, map}
use Rattle.mt_record.specs.Steps.Texts.{update_in_text}
use Rattle.mt_record.specs.Steps.Streams.{texts_in, AreUpdateTexts}
use Rattle.mt_record.proofs.kept.stream.add_texts.Given as goal

-- the texts so far, and the bytes of the others
abbrev pub invariant-loop : goal.invariant-loop
invariant-loop l = record {
  within : l.counter ≤ l.count;
  rest : AreUpdateTexts (l.count - l.counter) l.rest;
  so_far : l.texts.items ++ map update_in_text (texts_in (l.count - l.counter) l.rest) ≡ l.initial.texts.items ++ map update_in_text (texts_in l.count l.bytes);
}
