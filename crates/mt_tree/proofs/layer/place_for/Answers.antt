use Rattle.std.proofs.Common.{◌≡◌, ℕ, ◌-◌, ◌≤◌, length, List, take, drop, ◌++◌, [], ◌∷◌, ap, refl, arith, length-drop}
use Rattle.std.proofs.lemmas.List.{take_all}
use Rattle.mt_words.specs.Slices.{AreBytes, slice_in, slice_bytes}
use Rattle.mt_words.proofs.SliceBytes.{slice_bytes-short, slice_bytes-past, slice_bytes-long, bytes_take}
use Rattle.mt_words.proofs.SliceBytes.{AllZero}
use Rattle.mt_tree.proofs.layer.place_for.Goals as goal

zeros_past : (key : List ℕ) (slice len : ℕ) → AreBytes key → slice ≡ slice_in key → len ≡ length key → len ≤ 8 → AllZero (drop len (slice_bytes slice))
zeros_past key slice len bytes e f short =
    let fits : length key ≤ 8 = omega arith in
    rw (e, f) (slice_bytes-past key fits (bytes_take 8 key bytes))

short_key : (key : List ℕ) (slice len : ℕ) → AreBytes key → slice ≡ slice_in key → len ≡ length key → len ≤ 8 → take len (slice_bytes slice) ≡ key
short_key key slice len bytes e f short =
    let fits : length key ≤ 8 = omega arith in
    rw (e, f) (slice_bytes-short key fits (bytes_take 8 key bytes))

long_key : (key suffix : List ℕ) (slice : ℕ) → AreBytes key → slice ≡ slice_in key → 8 ≤ length key → suffix ≡ take (length key - 8) (drop 8 key) → slice_bytes slice ++ suffix ≡ key
long_key key suffix slice bytes e long f =
    let whole : take (length key - 8) (drop 8 key) ≡ drop 8 key = take_all (length key - 8) (drop 8 key) (omega (arith, length-drop 8 key)) in
    rw (e, f, whole) (slice_bytes-long key long (bytes_take 8 key bytes))

pub returns-then-len-le8-clause-lawful : goal.returns-then-len-le8-clause-lawful
returns-then-len-le8-clause-lawful c =
    (c.slice_of-slice.type_inv, c.if-len-le8.true, zeros_past c.args.key.now _ _ c.slice_of-slice.ensures.bytes c.slice_of-slice.ensures.value refl c.if-len-le8.true)

pub returns-then-len-le8-clause-pairs : goal.returns-then-len-le8-clause-pairs
returns-then-len-le8-clause-pairs c =
    ap (λ (k : List ℕ). (k, c.args.columns) ∷ []) (short_key c.args.key.now _ _ c.slice_of-slice.ensures.bytes c.slice_of-slice.ensures.value refl c.if-len-le8.true)

pub returns-clause-pairs : goal.returns-clause-pairs
returns-clause-pairs c =
    let long : 8 ≤ length c.args.key.now = omega (arith, c.if-len-le8.false) in
    ap (λ (k : List ℕ). (k, c.args.columns) ∷ []) (long_key c.args.key.now _ _ c.slice_of-slice.ensures.bytes c.slice_of-slice.ensures.value long c.in_ok-suffix.ensures.ok)
