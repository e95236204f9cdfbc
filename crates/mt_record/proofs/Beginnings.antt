-- What inputs begin with: a header, or a prefix of one.
use Rattle.std.proofs.Common.{◌≡◌, ◌≢◌, inl, inr, ℕ, ◌<◌, Bool, true, false, List, [], ◌∷◌, ◌++◌, length, take, drop, replicate, refl, sym, ap, ◌∙◌, subst, append_assoc, arith}
use Rattle.std.proofs.lemmas.List.{length-append, append-nil, nil_from_length, take-append-drop, length-drop, length-take-le, length-replicate}
use Rattle.std.proofs.lemmas.Bool.{false≢true}
use Rattle.std.specs.Prelude.{codes, slice_index, Option, Some, None, IfNone, MatchBool}
use Rattle.std.specs.Option.{is_some}
use Rattle.byteorder.specs.Endian.{big_bytes, big_from}
use Rattle.byteorder.specs.Numbers.{big_from-lt}
use Rattle.mt_words.specs.declared.limits.Format.{Format}
use Rattle.mt_words.specs.declared.limits.Format.TheVariants.{One, Two}
use Rattle.mt_words.specs.Limits.{limits_of, widest_format, magic}
use Rattle.mt_record.specs.declared.feed.head.Head.{Head}
use Rattle.mt_record.specs.declared.feed.head.Segment.{Segment}
use Rattle.mt_record.specs.Fronts.{GoTogether, GoesWithMagic, ShowsNone, IsUnfinishedFront, GoesWithLog}
use Rattle.mt_record.specs.Heads.{NoneBegins, IsHead, log_magic, segment_bytes, head_bytes}
use Rattle.mt_record.specs.Encoding.{head_of, segment_head}
use Rattle.mt_record.proofs.Feeds.{apart}
use Rattle.mt_record.proofs.Numbers.{AreBytes, bytes_front, bytes_back, bytes_padded, four, eight, number_front}

-- ---- prefixes, for any type that has an encoding

-- if the bytes do not begin with an encoding, but are a prefix of one, the prefix is proper
lacks : {H : Type 0} (Is : H → Type 0) (spelled : H → List ℕ) (head : H) (bytes more : List ℕ) → Is head → NoneBegins Is spelled bytes → spelled head ≡ bytes ++ more → 0 < length more
lacks Is spelled head bytes [] is none e = absurd (none head [] is (sym (append-nil bytes) ∙ sym e ∙ sym (append-nil (spelled head))))
lacks Is spelled head bytes (x ∷ more) is none e = omega arith

-- if no encoding is a proper prefix of another, a proper prefix of one begins with none
pub cut_none : {H : Type 0} (Is : H → Type 0) (spelled : H → List ℕ) → ((head other : H) (more : List ℕ) → spelled head ≡ spelled other ++ more → length (spelled head) ≡ length (spelled other))
    → (bytes : List ℕ) → IsUnfinishedFront Is spelled bytes → NoneBegins Is spelled bytes
cut_none Is spelled long bytes cut other rest too f =
    let whole = ap length cut.begun ∙ length-append bytes cut.more in
    let front = ap length f ∙ length-append (spelled other) rest in
    let begins = cut.begun ∙ ap (λ (x : List ℕ). x ++ cut.more) f ∙ append_assoc (spelled other) rest cut.more in
    omega (arith, whole, front, cut.some, long cut.head other (rest ++ cut.more) begins)

-- If every encoding begins with one of some magics, bytes that go with none of these show that there is no encoding.
pub shows_none : {H : Type 0} (Is : H → Type 0) (spelled first_of : H → List ℕ) → ((head : H) → (rest : List ℕ) × (spelled head ≡ first_of head ++ rest)) → (bytes : List ℕ)
    → ((head : H) → GoTogether (first_of head) bytes → ⊥) → ShowsNone Is spelled bytes
shows_none Is spelled first_of begins bytes not_so = (
  λ head more is e.
      let begin = begins head in
      not_so head (inr (begin.0 ++ more, e ∙ ap (λ (x : List ℕ). x ++ more) begin.1 ∙ append_assoc (first_of head) begin.0 more)),
  λ head more is e.
      let begin = begins head in
      not_so head (apart (first_of head) bytes begin.0 more (sym begin.1 ∙ e)),
)

-- If a magic followed by any `size` bytes is an encoding, bytes that go with the magic go with an encoding.
module _ {H : Type 0} (Is : H → Type 0) (spelled : H → List ℕ) (first : List ℕ) (size : ℕ)
    (whole : (xs : List ℕ) → length xs ≡ size → AreBytes xs → (head : H) × Is head × (spelled head ≡ first ++ xs)) where
  -- the bytes go with an encoding: they begin with it or are a prefix of it
  abbrev BeginsAlike : List ℕ → Type 0
  BeginsAlike bytes = (head : H) × Is head × GoTogether (spelled head) bytes

  -- if the bytes are a prefix of the magic and a tail, they go with an encoding: zeros complete the tail
  tail_alike : (bytes tail more : List ℕ) → first ++ tail ≡ bytes ++ more → AreBytes tail → BeginsAlike bytes
  tail_alike bytes tail more e small =
      let zeros : List ℕ = replicate size 0 in
      let front = take size (tail ++ zeros) in
      let back = drop size (tail ++ zeros) in
      let both : front ++ back ≡ tail ++ zeros = take-append-drop size (tail ++ zeros) in
      let long = length-take-le size (tail ++ zeros) (omega (arith, length-append tail zeros, length-replicate {A = ℕ} size 0)) in
      let head = whole front long (bytes_front front back (subst AreBytes (sym both) (bytes_padded tail size small))) in
      let all = ap (λ (x : List ℕ). x ++ back) head.2 ∙ append_assoc first front back ∙ ap (λ (x : List ℕ). first ++ x) both ∙ sym (append_assoc first tail zeros) in
      (head.0, head.1, apart (spelled head.0) bytes back (more ++ zeros) (all ∙ ap (λ (x : List ℕ). x ++ zeros) e ∙ append_assoc bytes more zeros))

  alike : (bytes : List ℕ) → GoTogether first bytes → AreBytes bytes → BeginsAlike bytes
  alike bytes (inl u) small = tail_alike bytes [] u.0 (append-nil first ∙ u.1) (λ i. omega arith)
  alike bytes (inr u) small = tail_alike bytes u.0 [] (sym u.1 ∙ sym (append-nil bytes)) (bytes_back first u.0 (subst AreBytes u.1 small))

  -- so bytes that go with the magic but do not begin with an encoding are a proper prefix of one
  pub cut_front : (bytes : List ℕ) → GoTogether first bytes → AreBytes bytes → NoneBegins Is spelled bytes → IsUnfinishedFront Is spelled bytes
  cut_front bytes goes small none =
      let one = alike bytes goes small in
      elim one.2 as (λ _. IsUnfinishedFront Is spelled bytes) [
        | inl u ↦ record { head = one.0; more = u.0; is_head = one.1; some = lacks Is spelled one.0 bytes u.0 one.1 none u.1; begun = u.1 }
        | inr u ↦ absurd (none one.0 u.0 one.1 u.1)
      ]

-- ---- magics: letters and a digit

-- bytes that begin with a magic begin with its letters and then its digit
pub letters_begin : (letters bytes more : List ℕ) (format : Format) → bytes ≡ magic letters format ++ more → bytes ≡ letters ++ ((limits_of format).digit ∷ more)
letters_begin letters bytes more format e = e ∙ append_assoc letters ((limits_of format).digit ∷ []) more

-- bytes that begin with letters and then the digit of a format begin with a magic
pub behind_digit : (letters bytes rest after : List ℕ) (digit : ℕ) (format : Format) → bytes ≡ letters ++ rest → rest ≡ digit ∷ after → (limits_of format).digit ≡ digit
    → bytes ≡ magic letters format ++ after
behind_digit letters bytes rest after digit format e tail same =
    e ∙ ap (λ (x : List ℕ). letters ++ x) (tail ∙ ap (λ (n : ℕ). n ∷ after) (sym same)) ∙ sym (append_assoc letters ((limits_of format).digit ∷ []) after)

-- a prefix of the letters goes with a magic
letters_go : (letters bytes more : List ℕ) → letters ≡ bytes ++ more → GoesWithMagic letters bytes
letters_go letters bytes more e =
    let digit = (limits_of widest_format).digit ∷ [] in
    (widest_format, inl (more ++ digit, ap (λ (x : List ℕ). x ++ digit) e ∙ append_assoc bytes more digit))

-- bytes that go with letters and a digit, but do not begin with both, are a prefix of the letters
letters_long : (letters bytes : List ℕ) (digit : ℕ) → ((more : List ℕ) → bytes ≢ (letters ++ digit ∷ []) ++ more) → GoTogether (letters ++ digit ∷ []) bytes → (rest : List ℕ) × (letters ≡ bytes ++ rest)
letters_long letters bytes digit none (inr u) = absurd (none u.0 u.1)
letters_long letters bytes digit none (inl ([], e)) = absurd (none [] (sym (append-nil bytes) ∙ sym e ∙ sym (append-nil (letters ++ digit ∷ []))))
letters_long letters bytes digit none (inl (x ∷ more, e)) = elim (apart letters bytes (digit ∷ []) (x ∷ more) e) as (λ _. (rest : List ℕ) × (letters ≡ bytes ++ rest)) [
  | inl u ↦ (u.0, u.1)
  | inr u ↦ ([], sym (append-nil letters) ∙ ap (λ (y : List ℕ). letters ++ y) (sym (no_more u.0 u.1)) ∙ sym u.1 ∙ sym (append-nil bytes))
]
  where
    no_more : (tail : List ℕ) → bytes ≡ letters ++ tail → tail ≡ []
    no_more tail behind =
        let front = ap length e ∙ length-append bytes (x ∷ more) in
        let back = ap length behind ∙ length-append letters tail in
        nil_from_length tail (omega (arith, front, back, length-append letters (digit ∷ [])))

-- bytes that do not begin with a magic go with one exactly if they are a prefix of the letters
pub letters_left : {X : Type 0} (letters bytes : List ℕ) (found : Option X) (starts : Bool) → false ≡ is_some found
    → IfNone found ((format : Format) (more : List ℕ) → bytes ≢ magic letters format ++ more)
    → (starts ≡ true → letters ≡ bytes ++ drop (length bytes) letters) × ((rest : List ℕ) → letters ≡ bytes ++ rest → starts ≡ true)
    → MatchBool starts (GoesWithMagic letters bytes) (GoesWithMagic letters bytes → ⊥)
letters_left letters bytes (Some x) starts test none tells = absurd (false≢true test)
letters_left letters bytes None true test none tells = letters_go letters bytes (drop (length bytes) letters) (tells.0 refl)
letters_left letters bytes None false test none tells = λ (format, goes).
    let long = letters_long letters bytes (limits_of format).digit (none format) goes in
    false≢true (tells.1 long.0 long.1)

-- ---- logs

-- eight bytes after the magic of a format are a `from`
log_whole : (format : Format) (xs : List ℕ) → length xs ≡ 8 → AreBytes xs → (head : Head) × IsHead head × (head_bytes head ≡ magic (codes "MTL") format ++ xs)
log_whole format xs long small =
    let from : ℕ = big_from 0 8 xs in
    let spelled : big_bytes 8 from ++ [] ≡ xs = append-nil (big_bytes 8 from) ∙ eight xs long small in
    (head_of format from, record { from = big_from-lt 0 8 xs small; segment = tt }, ap (λ (x : List ℕ). magic (codes "MTL") format ++ x) spelled)

-- sixteen bytes after the magic of segments are a `from`, a worker and a segment
segment_whole : (xs : List ℕ) → length xs ≡ 16 → AreBytes xs → (head : Head) × IsHead head × (head_bytes head ≡ codes "MTL3" ++ xs)
segment_whole xs long small =
    let behind = drop 8 xs in
    let last = drop 4 behind in
    let from = number_front 8 xs eight (omega (arith, long)) small in
    let worker = number_front 4 behind four (omega (arith, long, length-drop 8 xs)) from.2 in
    let segment = four last (omega (arith, long, length-drop 8 xs, length-drop 4 behind)) worker.2 in
    let whole : xs ≡ big_bytes 8 (big_from 0 8 xs) ++ (big_bytes 4 (big_from 0 4 behind) ++ big_bytes 4 (big_from 0 4 last)) =
    from.1 ∙ λ i. big_bytes 8 (big_from 0 8 xs) ++ (worker.1 ∙ λ j. big_bytes 4 (big_from 0 4 behind) ++ sym segment j) i in (
      segment_head (big_from 0 8 xs) (big_from 0 4 behind) (big_from 0 4 last),
      record { from = from.0; segment = (refl, worker.0, big_from-lt 0 4 last worker.2) },
      λ i. codes "MTL3" ++ sym whole i,
    )

-- bytes that do not go with the magic of a log show that there is no header
pub log_none : (bytes : List ℕ) → (GoesWithLog bytes → ⊥) → ShowsNone IsHead head_bytes bytes
log_none bytes not_so = shows_none IsHead head_bytes (λ (head : Head). log_magic head.format head.segment) (λ head. (big_bytes 8 head.from ++ segment_bytes head.segment, refl)) bytes (λ head. by head.format head.segment)
  where
    by : (format : Format) (segment : Option Segment) → GoTogether (log_magic format segment) bytes → ⊥
    by format None goes = not_so (inl (format, goes))
    by format (Some segment) goes = not_so (inr goes)

-- bytes that go with it but do not begin with a header are a proper prefix of one
pub log_cut : (bytes : List ℕ) → GoesWithLog bytes → AreBytes bytes → NoneBegins IsHead head_bytes bytes → IsUnfinishedFront IsHead head_bytes bytes
log_cut bytes (inl goes) = cut_front IsHead head_bytes (magic (codes "MTL") goes.0) 8 (log_whole goes.0) bytes goes.1
log_cut bytes (inr goes) = cut_front IsHead head_bytes (codes "MTL3") 16 segment_whole bytes goes

-- bytes that go with no format's magic go with that of a log exactly if they begin with that of segments
pub segments_left : (bytes : List ℕ) (starts : Bool) → (GoesWithMagic (codes "MTL") bytes → ⊥) → (starts ≡ true → bytes ≡ codes "MTL3" ++ drop 4 bytes) × ((rest : List ℕ) → bytes ≡ codes "MTL3" ++ rest → starts ≡ true)
    → MatchBool starts (GoesWithLog bytes) (GoesWithLog bytes → ⊥)
segments_left bytes true none tells = inr (inr (drop 4 bytes, tells.0 refl))
segments_left bytes false none tells = not
  where
    not : GoesWithLog bytes → ⊥
    not (inl goes) = none goes
    not (inr goes) =
        let long = letters_long (codes "MTL") bytes 51 (λ more e. false≢true (tells.1 more e)) goes in
        none (letters_go (codes "MTL") bytes long.0 long.1)

-- no format has the digit of segments
pub no_digit : (format : Format) → (limits_of format).digit ≡ 51 → ⊥
no_digit One e = omega (arith, e)
no_digit Two e = omega (arith, e)

-- a header has bytes
pub head_long : (head : Head) → 0 < length (head_bytes head)
head_long head = by head.segment
  where
    by : (segment : Option Segment) → 0 < length (log_magic head.format segment ++ (big_bytes 8 head.from ++ segment_bytes segment))
    by None = omega arith
    by (Some segment) = omega arith

pub head_short : (head : Head) → length (head_bytes head) < 21
head_short head = by head.segment
  where
    by : (segment : Option Segment) → length (log_magic head.format segment ++ (big_bytes 8 head.from ++ segment_bytes segment)) < 21
    by None = omega arith
    by (Some segment) = omega arith

-- headers of which one is a prefix of the other have the same length
pub same_long : (head other : Head) (more : List ℕ) → head_bytes head ≡ head_bytes other ++ more → length (head_bytes head) ≡ length (head_bytes other)
same_long head other more e = by head.format other.format head.segment other.segment (ap (λ (x : List ℕ). slice_index x 3) e)
  where
    by : (f g : Format) (v w : Option Segment) → slice_index (log_magic f v ++ (big_bytes 8 head.from ++ segment_bytes v)) 3 ≡ slice_index ((log_magic g w ++ (big_bytes 8 other.from ++ segment_bytes w)) ++ more) 3
        → length (log_magic f v ++ (big_bytes 8 head.from ++ segment_bytes v)) ≡ length (log_magic g w ++ (big_bytes 8 other.from ++ segment_bytes w))
    by f g None None digit = refl
    by f g None (Some w) digit = absurd (no_digit f digit)
    by f g (Some v) None digit = absurd (no_digit g (sym digit))
    by f g (Some v) (Some w) digit = refl
