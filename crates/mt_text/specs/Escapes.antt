-- The bytes that a text with escapes stands for.
use Rattle.std.specs.Prelude.{◌≡◌, ℕ, ◌==◌, if◌then◌else◌, Option, Some, None, Result, Ok, Err, option_map, List, [], ◌∷◌, slice_index}
use Rattle.hex.specs.declared.error.FromHexError.{FromHexError}
use Rattle.hex.specs.Hex.{decode_sized}

-- the byte that a letter stands for after `\`: a line feed, a carriage return, a tab, a zero, or `\`, `"` or `'` itself
abbrev pub named_byte : ℕ → Option ℕ
named_byte letter =
    if letter == 110 then Some 10
    else if letter == 114 then Some 13
    else if letter == 116 then Some 9
    else if letter == 48 then Some 0
    else if letter == 92 then Some 92
    else if letter == 34 then Some 34
    else if letter == 39 then Some 39
    else None

abbrev pub first_if_ok : Result (List ℕ) FromHexError → Option ℕ
first_if_ok (Ok bytes) = Some (slice_index bytes 0)
first_if_ok (Err error) = None

-- the byte of two hexadecimal digits
abbrev pub hex_byte : ℕ → ℕ → Option ℕ
hex_byte first second = first_if_ok (decode_sized (first ∷ second ∷ []) 1)

abbrev pub before : List ℕ → Option ℕ → Option (ℕ × List ℕ)
before rest byte = option_map (λ b. (b, rest)) byte

-- after `\x`, two digits stand for a byte
abbrev pub hex_front : List ℕ → Option (ℕ × List ℕ)
hex_front [] = None
hex_front (first ∷ []) = None
hex_front (first ∷ second ∷ rest) = before rest (hex_byte first second)

-- after `\`, a letter stands for a byte, or `x` and two digits
abbrev pub escape_front : List ℕ → Option (ℕ × List ℕ)
escape_front [] = None
escape_front (letter ∷ rest) = if letter == 120 then hex_front rest else before rest (named_byte letter)

-- the byte that a text begins with, which stands for itself unless it is `\`, and the rest of the text
abbrev pub front : List ℕ → Option (ℕ × List ℕ)
front [] = None
front (byte ∷ rest) = if byte == 92 then escape_front rest else Some (byte, rest)

-- the text stands for these bytes, one after the other
abbrev pub StandsFor : List ℕ → List ℕ → Type 0
StandsFor text [] = text ≡ []
StandsFor text (byte ∷ bytes) = (rest : List ℕ) × (front text ≡ Some (byte, rest)) × StandsFor rest bytes

-- the text stands for no bytes
abbrev pub StandsForNone : List ℕ → Type 0
StandsForNone text = (bytes : List ℕ) → ¬ (StandsFor text bytes)
