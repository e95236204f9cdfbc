-- The table of kinds: the byte of each, its payload, and whether it clears its key.
use Rattle.std.specs.Prelude.{ℕ}
use Rattle.mt_words.specs.declared.code.Code.{Code}
use Rattle.mt_words.specs.declared.code.Code.TheVariants as codes
use Rattle.mt_words.specs.declared.code.Payload.{Payload}
use Rattle.mt_words.specs.declared.code.Payload.TheVariants as payloads
use Rattle.mt_words.specs.declared.update.Kind.{Kind}
use Rattle.mt_words.specs.declared.update.Kind.TheVariants.{Put, Remove, Whole, Erase}

abbrev pub code_of : Kind → Code
code_of (Put columns) = codes.Put
code_of Remove = codes.Remove
code_of (Whole columns) = codes.Whole
code_of (Erase numbers) = codes.Erase

-- the byte of each code; 3 is the byte of a mark
abbrev pub byte_of : Code → ℕ
byte_of codes.Whole = 0
byte_of codes.Put = 1
byte_of codes.Remove = 2
byte_of codes.Erase = 4

abbrev pub payload_of : Code → Payload
payload_of codes.Whole = payloads.Columns
payload_of codes.Put = payloads.Columns
payload_of codes.Remove = payloads.Nothing
payload_of codes.Erase = payloads.Numbers

-- a change with this code clears all columns of its key
abbrev pub Clears : Code → Type 0
Clears codes.Whole = Unit {0}
Clears codes.Put = ⊥
Clears codes.Remove = Unit {0}
Clears codes.Erase = ⊥
