-- Records in a buffer, and the block that is made of them.
use Rattle.std.proofs.Common.{◌≡◌, ℕ, ◌+◌, ◌<◌, ◌≤◌, Option, Some, None, List, [], ◌∷◌, ◌++◌, length, take, drop, Vec, vec_len, refl, sym, ap, ◌∙◌, append_assoc, arith}
use Rattle.std.proofs.lemmas.List.{drop-append-le, drop-take, length-drop, length-append, take-append-drop, take_at}
use Rattle.mt_block.specs.Blocks.{block}
use Rattle.mt_writer.specs.Framing.{framed, Buffer, room_in, records_in, HasFront}

-- further bytes behind the room for a head are bytes of records
records_more : {Z : Type 0} (mark : Option ℕ) (buffer : Vec ℕ Z) (more : List ℕ) → HasFront mark (vec_len buffer) buffer
    → records_in mark (buffer.items ++ more) ≡ records_in mark buffer.items ++ more
records_more None buffer more front = refl
records_more (Some mark) buffer more front = drop-append-le 12 buffer.items more (omega (arith, front.0, buffer.ok.0))

in_file : Option ℕ → List ℕ → Buffer
in_file mark records = record { mark = mark; records = records }

-- a record is appended to a buffer in which room was made
pub one_more : {Z : Type 0} (mark : Option ℕ) (old made : Vec ℕ Z) (new more : List ℕ) (b : Buffer) → record { mark = mark; records = records_in mark old.items } ≡ b
    → HasFront mark (vec_len made) made → records_in mark made.items ≡ records_in mark old.items → new ≡ made.items ++ more
    → record { mark = mark; records = records_in mark new } ≡ record b { records = b.records ++ more }
unfolding in_file
one_more mark old made new more b is front same all =
    let records : records_in mark new ≡ records_in mark old.items ++ more = ap (records_in mark) all ∙ records_more mark made more front ∙ ap (λ (l : List ℕ). l ++ more) same in
    ap (in_file mark) records ∙ ap (λ (x : Buffer). record x { records = x.records ++ more }) is

-- a block is a frame around records
pub sealed : (mark : ℕ) (head body check : List ℕ) → 0 < length body → head ++ (body ++ check) ≡ block mark body → (head ++ body) ++ check ≡ framed (Some mark) body
sealed mark head [] check some e = absurd (omega arith)
sealed mark head (b ∷ bs) check some e = append_assoc head (b ∷ bs) check ∙ e

-- bytes of which the head was written
pub with_head : (n : ℕ) (head new old : List ℕ) → n ≡ length old → 12 ≤ n → length head ≡ 12 → take 12 new ≡ head → drop 12 new ≡ drop 12 old
    → take n (new ++ drop (length new) old) ≡ head ++ drop 12 old
with_head n head new old all long twelve front rest =
    let is : new ≡ head ++ drop 12 old = sym (take-append-drop 12 new) ∙ ap (λ (l : List ℕ). l ++ drop 12 new) front ∙ ap (λ (l : List ℕ). head ++ l) rest in
    let size : n ≡ length new = omega (arith, all, long, twelve, ap length is, length-append head (drop 12 old), length-drop 12 old) in
    take_at new (drop (length new) old) n (sym size) ∙ is

-- the first records of a buffer
first_records : (mark : Option ℕ) (before : ℕ) (old : List ℕ) → records_in mark (take (room_in mark + before) old) ≡ take before (records_in mark old)
first_records None before old = ap (λ (n : ℕ). take n old) (omega arith)
first_records (Some mark) before old = drop-take 12 before old

-- a buffer of which the last records were dropped
pub fewer : (mark : Option ℕ) (room before : ℕ) (old new : List ℕ) (b : Buffer) → record { mark = mark; records = records_in mark old } ≡ b → room ≡ room_in mark → new ≡ take (room + before) old
    → record { mark = mark; records = records_in mark new } ≡ record b { records = take before b.records }
unfolding in_file
fewer mark room before old new b is room_is all =
    let first = all ∙ ap (λ (n : ℕ). take (n + before) old) room_is in
    ap (in_file mark) (ap (records_in mark) first ∙ first_records mark before old) ∙ ap (λ (x : Buffer). record x { records = take before x.records }) is
