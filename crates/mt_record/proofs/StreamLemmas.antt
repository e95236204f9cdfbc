-- Texts one after another in one buffer, each after its length.
use Rattle.std.proofs.Common.{◌≡◌, ◌≤◌, ◌<◌, ◌+◌, ◌*◌, ◌-◌, ◌^◌, ◌++◌, [], ◌∷◌, List, ℕ, zero, suc, length, take, drop, map, refl, sym, ap, subst, ◌∙◌, arith, append_assoc}
use Rattle.std.specs.Prelude.{slice_index}
use Rattle.std.specs.List.{All}
use Rattle.std.proofs.lemmas.List.{take-append-le, drop-append-le, take_all, length-append, length-drop, length-map, map-append, nil_from_length, get_or_append_left}
use Rattle.std.proofs.lemmas.List.Elements.{All-head, All-tail, All-push}
use Rattle.byteorder.specs.Endian.{big_from, big_number, big_bytes}
use Rattle.byteorder.specs.Numbers.{big_number-reads_back, length-bytes_high_first}
use Rattle.mt_words.specs.declared.update.Update.{Update}
use Rattle.mt_words.proofs.ColumnBytes.{drop_front}
use Rattle.mt_record.specs.Steps.Texts.{IsUpdateText, update_in_text, short_text, long_text}
use Rattle.mt_record.specs.Steps.Streams.{texts_in, AreTexts, AreUpdateTexts}

texts_count : (n : ℕ) (bytes : List ℕ) → length (texts_in n bytes) ≡ n
texts_count zero bytes = refl
texts_count (suc n) bytes = ap suc (texts_count n (drop (4 + big_number 4 bytes) bytes))

-- a text takes four bytes at least
few_texts : (n : ℕ) (bytes : List ℕ) → AreTexts n bytes → n * 4 ≤ length bytes
few_texts zero bytes none = omega arith
few_texts (suc n) bytes are =
    let rest = few_texts n (drop (4 + big_number 4 bytes) bytes) are.1 in
    omega (arith, rest, are.0, length-drop (4 + big_number 4 bytes) bytes)

-- the number of updates, and a bound on it
pub updates_count : (n : ℕ) (bytes : List ℕ) → AreUpdateTexts n bytes → length bytes < 2 ^ 64 → (n ≡ length (map update_in_text (texts_in n bytes))) × (n < 2 ^ 62)
updates_count n bytes are below =
    let few = few_texts n bytes are.texts in
    (sym (texts_count n bytes) ∙ sym (length-map (texts_in n bytes) update_in_text), omega (arith, few, below))

-- ---- one more text

-- a number at the front stays what it is if bytes follow
number_before : (i n : ℕ) (bytes more : List ℕ) → i + n ≤ length bytes → big_from i n (bytes ++ more) ≡ big_from i n bytes
number_before i zero bytes more fits = refl
number_before i (suc n) bytes more fits =
    let here : slice_index (bytes ++ more) i ≡ slice_index bytes i = get_or_append_left bytes more 0 i (omega (arith, fits)) in
    let rest = number_before (suc i) n bytes more (omega (arith, fits)) in
    λ k. here k * 256 ^ n + rest k

one_text : (text : List ℕ) → length text < 2 ^ 32
    → (texts_in 1 (big_bytes 4 (length text) ++ text) ≡ text ∷ []) × AreTexts 1 (big_bytes 4 (length text) ++ text)
one_text text short =
    let bytes = big_bytes 4 (length text) ++ text in
    let size : big_number 4 bytes ≡ length text = big_number-reads_back 4 (length text) text short in
    let four = length-bytes_high_first 4 (length text) in
    let rest : drop 4 bytes ≡ text = drop_front 4 (big_bytes 4 (length text)) text (sym four) in
    let long = length-append (big_bytes 4 (length text)) text in
    let first : take (big_number 4 bytes) (drop 4 bytes) ≡ text = (λ k. take (size k) (rest k)) ∙ take_all (length text) text (omega arith) in
    let left = length-drop (4 + big_number 4 bytes) bytes in
    let none : drop (4 + big_number 4 bytes) bytes ≡ [] = nil_from_length (drop (4 + big_number 4 bytes) bytes) (omega (arith, left, long, four, size)) in
    (ap (λ (t : List ℕ). t ∷ []) first, (omega (arith, long, four, size), none))

-- a length and a text after the others are one more text
text_added : (n : ℕ) (bytes text : List ℕ) → AreTexts n bytes → length text < 2 ^ 32
    → (texts_in (suc n) (bytes ++ (big_bytes 4 (length text) ++ text)) ≡ texts_in n bytes ++ text ∷ []) × AreTexts (suc n) (bytes ++ (big_bytes 4 (length text) ++ text))
text_added zero bytes text none short =
    subst (λ (bs : List ℕ). (texts_in 1 (bs ++ (big_bytes 4 (length text) ++ text)) ≡ text ∷ []) × AreTexts 1 (bs ++ (big_bytes 4 (length text) ++ text))) (sym none) (one_text text short)
text_added (suc n) bytes text are short =
    let more = big_bytes 4 (length text) ++ text in
    let all = bytes ++ more in
    let size = big_number 4 bytes in
    let front : big_number 4 all ≡ size = number_before 0 4 bytes more (omega (arith, are.0)) in
    let gone : drop (4 + size) all ≡ drop (4 + size) bytes ++ more = drop-append-le (4 + size) bytes more are.0 in
    let behind : drop 4 all ≡ drop 4 bytes ++ more = drop-append-le 4 bytes more (omega (arith, are.0)) in
    let taken : take size (drop 4 all) ≡ take size (drop 4 bytes) = ap (take size) behind ∙ take-append-le size (drop 4 bytes) more (omega (arith, are.0, length-drop 4 bytes)) in
    let rest = text_added n (drop (4 + size) bytes) text are.1 short in
    let long = length-append bytes more in (
      (λ k. take (front k) (drop 4 all) ∷ texts_in (suc n) (drop (4 + front k) all))
          ∙ (λ k. taken k ∷ texts_in (suc n) (gone k))
          ∙ ap (λ (ts : List (List ℕ)). take size (drop 4 bytes) ∷ ts) rest.0,
      (omega (arith, front, are.0, long), subst (λ (s : ℕ). AreTexts (suc n) (drop (4 + s) all)) (sym front) (subst (AreTexts (suc n)) (sym gone) rest.1)),
    )

-- a length, an origin and a body after the others are one more update
pub text_pushed : (n m size : ℕ) (bytes head origin body all : List ℕ) → m ≡ n + 1 → AreUpdateTexts n bytes → IsUpdateText (origin ++ body)
    → size ≡ length origin + length body → size < 2 ^ 32 → head ≡ big_bytes 4 size → all ≡ ((bytes ++ head) ++ origin) ++ body
    → (map update_in_text (texts_in m all) ≡ map update_in_text (texts_in n bytes) ++ update_in_text (origin ++ body) ∷ []) × AreUpdateTexts m all
text_pushed n m size bytes head origin body all count are is long short front are_all =
    let text = origin ++ body in
    let size_is : size ≡ length text = long ∙ sym (length-append origin body) in
    let grouped : all ≡ bytes ++ (big_bytes 4 (length text) ++ text) =
    are_all ∙ append_assoc (bytes ++ head) origin body ∙ append_assoc bytes head text ∙ (λ k. bytes ++ ((front ∙ ap (big_bytes 4) size_is) k ++ text)) in
    let more : m ≡ suc n = omega (arith, count) in
    let added = text_added n bytes text are.texts (omega (arith, size_is, short)) in
    let texts : texts_in m all ≡ texts_in n bytes ++ text ∷ [] = (λ k. texts_in (more k) (grouped k)) ∙ added.0 in (
      ap (map update_in_text) texts ∙ map-append update_in_text (texts_in n bytes) (text ∷ []),
      record {
        texts = subst (λ (bs : List ℕ). AreTexts m bs) (sym grouped) (subst (λ (k : ℕ). AreTexts k (bytes ++ (big_bytes 4 (length text) ++ text))) (sym more) added.1);
        lawful = subst (All IsUpdateText) (sym texts) (All-push IsUpdateText (texts_in n bytes) text are.lawful is);
      },
    )

-- the lengths of the texts of origins
pub short_length : (log number : ℕ) → length (short_text log number) ≡ 7
short_length log number = omega (arith, length-append (big_bytes 2 log) (big_bytes 4 number), length-bytes_high_first 2 log, length-bytes_high_first 4 number)

pub long_length : (log number : ℕ) → length (long_text log number) ≡ 17
long_length log number = omega (arith, length-append (big_bytes 8 log) (big_bytes 8 number), length-bytes_high_first 8 log, length-bytes_high_first 8 number)

-- ---- reading

-- the first text of some
pub first_there : (n k : ℕ) (bytes : List ℕ) → n ≡ suc k → AreUpdateTexts n bytes
    → (4 + big_number 4 bytes ≤ length bytes) × IsUpdateText (take (big_number 4 bytes) (drop 4 bytes)) × AreUpdateTexts k (drop (4 + big_number 4 bytes) bytes)
first_there n k bytes more are =
    let texts : AreTexts (suc k) bytes = subst (λ (m : ℕ). AreTexts m bytes) more are.texts in
    let lawful : All IsUpdateText (texts_in (suc k) bytes) = subst (λ (m : ℕ). All IsUpdateText (texts_in m bytes)) more are.lawful in
    let first = take (big_number 4 bytes) (drop 4 bytes) in
    let rest = texts_in k (drop (4 + big_number 4 bytes) bytes) in
    (texts.0, All-head IsUpdateText first rest lawful, record { texts = texts.1; lawful = All-tail IsUpdateText first rest lawful })

-- the texts so far, after the first of the others was read
pub text_read : (n k : ℕ) (bytes text after : List ℕ) (old new all : List Update) → n ≡ suc k → text ≡ take (big_number 4 bytes) (drop 4 bytes) → after ≡ drop (4 + big_number 4 bytes) bytes
    → old ++ map update_in_text (texts_in n bytes) ≡ all → new ≡ old ++ update_in_text text ∷ [] → new ++ map update_in_text (texts_in k after) ≡ all
text_read n k bytes text after old new all more is rest so_far pushed =
    (λ i. pushed i ++ map update_in_text (texts_in k (rest i)))
    ∙ append_assoc old (update_in_text text ∷ []) (map update_in_text (texts_in k (drop (4 + big_number 4 bytes) bytes)))
    ∙ (λ i. old ++ (update_in_text (is i) ∷ map update_in_text (texts_in k (drop (4 + big_number 4 bytes) bytes))))
    ∙ ap (λ (m : ℕ). old ++ map update_in_text (texts_in m bytes)) (sym more)
    ∙ so_far
