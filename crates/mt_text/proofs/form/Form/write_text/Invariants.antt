use Rattle.std.proofs.Common.{take}
use Rattle.std.specs.List.{flat_map}
use Rattle.std.specs.Io.KnownBytes.{Appends}
use Rattle.mt_text.specs.Forms.{letter_text}
use Rattle.mt_text.proofs.form.Form.write_text.Given as goal

abbrev pub invariant-loop-byte : goal.invariant-loop-byte
invariant-loop-byte g l = let contents = g.W.Write.contents in Appends (contents l.fn.out) (contents l.out) (flat_map (letter_text l.self.is_json) (take l.byte-index l.bytes))
