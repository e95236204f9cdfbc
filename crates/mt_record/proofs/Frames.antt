-- Frames (bodies between two copies of their length), and their faults.
use Rattle.std.proofs.Common.{◌≡◌, ◌≢◌, ◌⊎◌, inl, inr, ℕ, ◌+◌, ◌^◌, ◌<◌, ◌≤◌, List, [], ◌++◌, length, take, drop, sym, ap, ◌∙◌, subst, append_assoc, arith}
use Rattle.std.proofs.lemmas.List.{length-append, take-append-drop}
use Rattle.byteorder.specs.Endian.{big_bytes}
use Rattle.mt_words.specs.declared.fault.What.{What}
use Rattle.mt_words.specs.declared.fault.What.TheVariants.{Length, Trailer}
use Rattle.mt_words.specs.declared.limits.Limits.{Limits}
use Rattle.mt_words.proofs.ColumnBytes.{same_number}
use Rattle.mt_record.specs.Spelling.{framed, IsRecordLength}
use Rattle.mt_record.specs.Steps.Bodies.{IsFrameFault}
use Rattle.mt_record.specs.Logs.{IsUnfinished}
use Rattle.mt_record.specs.LogFaults.{HasLengthFault, HasFrame, HasTrailerFault, RestFault}
use Rattle.mt_record.proofs.Unique.{framed_apart}
use Rattle.mt_record.proofs.Feeds.{behind_on}

-- a list is its first n elements and the others
pub parts : (n : ℕ) (bytes front back : List ℕ) → front ≡ take n bytes → back ≡ drop n bytes → bytes ≡ front ++ back
parts n bytes front back f b = sym (take-append-drop n bytes) ∙ λ i. sym f i ++ sym b i

-- a number after the body that is not its length is a trailer fault
pub trailer_fault : (IsLength : ℕ → Type 0) (rest a b c body : List ℕ) (n trailer : ℕ) → IsLength n → rest ≡ big_bytes 4 n ++ a
    → a ≡ body ++ b → b ≡ big_bytes 4 trailer ++ c → length body ≡ n → trailer < 2 ^ 32 → (trailer ≢ n) → HasTrailerFault IsLength rest
trailer_fault IsLength rest a b c body n trailer is ea eb ec number small differ = (
  record {
    body = body;
    number = trailer;
    more = c;
    is_length = rw number is;
    fits = small;
    spelled = ea
        ∙ ap (λ (x : List ℕ). big_bytes 4 n ++ x) (eb ∙ ap (λ (x : List ℕ). body ++ x) ec)
        ∙ ap (λ (k : ℕ). big_bytes 4 k ++ (body ++ (big_bytes 4 trailer ++ c))) (sym number);
  },
  rw number differ,
)

-- For lengths that fit in four bytes.
module _ (IsLength : ℕ → Type 0) (small : (n : ℕ) → IsLength n → n < 2 ^ 32) where
  -- a body between two copies of its length is a frame
  abbrev pub body_frame : (rest body more : List ℕ) → IsLength (length body) → rest ≡ framed body ++ more → HasFrame IsLength rest
  body_frame rest body more is e = record {
    body = body;
    number = length body;
    more = more;
    is_length = is;
    fits = small (length body) is;
    spelled = e ∙ framed_apart body more;
  }

  -- the bytes begin with a length, and enough bytes follow if the length is allowed
  pub record Begins (rest : List ℕ) : Type 0 where
    pub number : ℕ
    pub more : List ℕ
    pub fits : number < 2 ^ 32
    pub spelled : rest ≡ big_bytes 4 number ++ more
    pub enough : IsLength number → number + 4 ≤ length more

  -- if there is a frame, there are enough bytes
  abbrev pub frame_begins : (rest : List ℕ) → HasFrame IsLength rest → Begins rest
  frame_begins rest f =
      let behind = big_bytes 4 f.number ++ f.more in
      let all = length-append f.body behind in
      record {
        number = length f.body;
        more = f.body ++ behind;
        fits = small (length f.body) f.is_length;
        spelled = f.spelled;
        enough = λ is. omega (arith, all);
      }

  -- a length that is not allowed asks for no bytes
  abbrev pub wrong_begins : (rest : List ℕ) → HasLengthFault IsLength rest → Begins rest
  wrong_begins rest h = record { number = h.number; more = h.more; fits = h.fits; spelled = h.spelled; enough = λ is. absurd (h.wrong is) }

  -- an empty or cut rest has too few bytes
  pub none_begins : (rest : List ℕ) → (rest ≡ []) ⊎ IsUnfinished IsLength rest → Begins rest → ⊥
  none_begins rest (inl e) b = let n : length rest ≡ 0 = ap length e in let m = ap length b.spelled in omega (arith, n, m)
  none_begins rest (inr (inl short)) b = let m = ap length b.spelled in omega (arith, m, short.1)
  none_begins rest (inr (inr cut)) b =
      let same = same_number 4 cut.number b.number cut.more b.more (small cut.number cut.is_length) b.fits (sym cut.spelled ∙ b.spelled) in
      let enough = b.enough (subst IsLength same.0 cut.is_length) in
      let lengths : length cut.more ≡ length b.more = ap length same.1 in
      omega (arith, enough, cut.short, same.0, lengths)

-- ---- more bytes

-- a length that is not allowed stays so when more bytes follow
abbrev pub length_fault_on : (IsLength : ℕ → Type 0) (rest more : List ℕ) → HasLengthFault IsLength rest → HasLengthFault IsLength (rest ++ more)
length_fault_on IsLength rest more h = record {
  number = h.number;
  more = h.more ++ more;
  fits = h.fits;
  spelled = behind_on (big_bytes 4 h.number) rest h.more more h.spelled;
  wrong = h.wrong;
}

-- a frame stays a frame when more bytes follow
abbrev pub frame_on : (IsLength : ℕ → Type 0) (rest more : List ℕ) → HasFrame IsLength rest → HasFrame IsLength (rest ++ more)
frame_on IsLength rest more f = record {
  body = f.body;
  number = f.number;
  more = f.more ++ more;
  is_length = f.is_length;
  fits = f.fits;
  spelled = ap (λ (x : List ℕ). x ++ more) f.spelled ∙ simp append_assoc;
}

-- a fault of a record's frame is the fault of the rest
pub rest_fault : (limits : Limits) (low : ℕ) (rest : List ℕ) (what : What) → IsFrameFault (IsRecordLength limits) rest what → RestFault what limits low rest
rest_fault limits low rest Length h = h
rest_fault limits low rest Trailer h = h
rest_fault limits low rest what h = absurd h
