-- The forms in which bytes are printed.
use Rattle.std.specs.Prelude.{◌≡◌, ◌++◌, ◌==◌, ◌&&◌, not, if◌then◌else◌, nat_le, Bool, true, false, List, [], ◌∷◌, ℕ, codes}
use Rattle.std.specs.List.{flat_map}
use Rattle.hex.specs.Hex.{encode_lower}
use Rattle.mt_text.specs.declared.form.Form.{Form}

-- hexadecimal, and not as JSON
abbrev pub IsDump : Form → Type 0
IsDump form = (form.is_json ≡ false) × (form.is_text ≡ false)

-- the line for a key that is absent
abbrev pub absent_text : List ℕ
absent_text = codes "absent\n"

-- ---- bytes

-- a byte stands for itself in text: ASCII from `!` to `~`, but `"`, `:`, `=` and `\`
abbrev pub is_plain : ℕ → Bool
is_plain byte = nat_le 33 byte && nat_le byte 126 && not (byte == 34) && not (byte == 58) && not (byte == 61) && not (byte == 92)

-- what stands before and after a string in JSON
abbrev pub quote : Bool → List ℕ
quote true = codes "\""
quote false = []

-- what an escape begins with: in a JSON string two backslashes stand for one
abbrev pub escape_sign : Bool → List ℕ
escape_sign true = codes "\\\\x"
escape_sign false = codes "\\x"

abbrev pub escape_text : Bool → ℕ → List ℕ
escape_text is_json byte = escape_sign is_json ++ encode_lower (byte ∷ [])

-- a byte as it is, or its escape
abbrev pub letter_text : Bool → ℕ → List ℕ
letter_text is_json byte = if is_plain byte then byte ∷ [] else escape_text is_json byte

-- bytes as text or in hexadecimal, in JSON as a string
abbrev pub bytes_text : Form → List ℕ → List ℕ
bytes_text form bytes = quote form.is_json ++ ((if form.is_text then flat_map (letter_text form.is_json) bytes else encode_lower bytes) ++ quote form.is_json)
