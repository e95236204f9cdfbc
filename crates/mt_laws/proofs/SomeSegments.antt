-- There is a life in which a second segment follows the first, after an acknowledged update.
use Rattle.std.proofs.Common.{◌≡◌, inl, inr, ℕ, ◌<◌, ◌≤◌, true, None, List, [], ◌∷◌, ◌++◌, Contains, refl, sym, subst, arith}
use Rattle.std.specs.List.{flat_map}
use Rattle.mt_words.specs.declared.update.Update.{Update}
use Rattle.mt_words.specs.Built.{mark_of, put_of}
use Rattle.mt_words.specs.Changes.{Logged, is_mark}
use Rattle.mt_words.proofs.Elements.{no_element, head_or_tail, head_in, tail_in}
use Rattle.mt_record.specs.declared.feed.head.Head.{Head}
use Rattle.mt_record.specs.Encoding.{segment_head}
use Rattle.mt_record.specs.Heads.{head_bytes}
use Rattle.mt_record.specs.Logs.{LogReading, IsReading, times_of}
use Rattle.mt_record.specs.Spelling.{spelling}
use Rattle.mt_scan.specs.Segments.{IsEarlier, IsSame, HasGap}
use Rattle.mt_writer.specs.Files.{OpenFile, file_bytes, file_reading, HasSynced, IsOpenFile}
use Rattle.mt_record.proofs.Opened.{whole_reading}
use Rattle.mt_laws.specs.Lives.{IsBehind, AreOpen, there, only, IsAdded, running, acknowledge, add_file, Life, begun, then}
use Rattle.mt_laws.proofs.LeftFiles.{none_at}
use Rattle.mt_laws.proofs.Living.{all_of_it}
use Rattle.mt_laws.proofs.Doubled.{once_of}
use Rattle.mt_laws.proofs.SomeLife.{only_one, of_two, update}

-- a file, all of which is synced
abbrev synced_file : Head → List Logged → OpenFile
synced_file head records = record { head = head; records = records; synced = head_bytes head ++ flat_map spelling records }

-- a put at 1, and a mark at 3
abbrev put : Logged
put = put_of 1 1 [] ((0, []) ∷ [])

abbrev first : OpenFile
first = synced_file (segment_head 0 1 1) (put ∷ mark_of 3 ∷ [])

-- the next segment, from 3, with a mark at 5
abbrev second : OpenFile
second = synced_file (segment_head 3 1 2) (mark_of 5 ∷ [])

first_reads : IsReading (file_bytes first) (file_reading first)
first_reads = whole_reading first.head first.records (record { from = omega arith; segment = (refl, omega arith, omega arith) })
    ((omega arith, (record { version = omega arith; version_fits = omega arith; key = omega arith; kind = ((((omega arith, omega arith), tt), (omega arith, tt)), omega arith) }, tt)), omega arith, ((omega arith, tt), omega arith, tt))

second_reads : IsReading (file_bytes second) (file_reading second)
second_reads = whole_reading second.head second.records (record { from = omega arith; segment = (refl, omega arith, omega arith) }) ((omega arith, tt), omega arith, tt)

first_synced : (P : Logged → Type 0) → P (mark_of 3) → HasSynced P first
first_synced P holds = record { reading = file_reading first; is_reading = first_reads; at = mark_of 3; stands = tail_in put (mark_of 3) (mark_of 3 ∷ []) (head_in (mark_of 3) []); holds = holds }

second_synced : (P : Logged → Type 0) → P (mark_of 5) → HasSynced P second
second_synced P holds = record { reading = file_reading second; is_reading = second_reads; at = mark_of 5; stands = head_in (mark_of 5) []; holds = holds }

first_open : IsOpenFile first
first_open = record { is_reading = first_reads; synced = all_of_it first first_reads; claim = first_synced (λ r. 0 ≤ r.timestamp) (omega arith) }

second_open : IsOpenFile second
second_open = record { is_reading = second_reads; synced = all_of_it second second_reads; claim = second_synced (λ r. 3 ≤ r.timestamp) (omega arith) }

of_both : (P : OpenFile → Type 0) → P first → P second → (file : OpenFile) → Contains (first ∷ second ∷ []) file → P file
of_both P one two file at = of_two P first second file one two at

first_opens : AreOpen 0 (first ∷ [])
first_opens = record {
  each = λ file at. subst IsOpenFile (only_one first file at) first_open;
  once = once_of (file_reading first ∷ []) (λ x none. absurd (no_element x none), tt);
  no_gap = λ i. none_at (HasGap 0 readings) readings i (λ x at. no_gap x (only_one (file_reading first) x at));
  whole = λ a b at_a at_b behind. absurd (none_behind a b (only_one first a at_a) (only_one first b at_b) behind);
  beyond = λ a b at_a at_b behind. absurd (none_behind a b (only_one first a at_a) (only_one first b at_b) behind);
}
  where
    readings : List LogReading
    readings = file_reading first ∷ []

    none_behind : (a b : OpenFile) → first ≡ a → first ≡ b → IsBehind a b → ⊥
    none_behind a b is_a is_b behind =
        let is = subst (λ (p : OpenFile × OpenFile). IsBehind p.0 p.1) (λ i. (sym is_a i, sym is_b i)) behind in
        let less : 1 < 1 = is.1 in
        omega (arith, less)

    first_gap : HasGap 0 readings (file_reading first) → ⊥
    first_gap gap = elim gap as (λ _. ⊥) [
      | inl amid ↦
          let has = amid.0 in
          let is = subst (λ (f : LogReading). IsEarlier f.head.segment first.head.segment) (sym (only_one (file_reading first) has.1 (has.0, has.2, has.3))) has.4 in
          let less : 1 < 1 = is.1 in
          omega (arith, less)
      | inr alone ↦ let late : 0 < 0 = alone.1 in omega (arith, late)
    ]

    no_gap : (x : LogReading) → file_reading first ≡ x → HasGap 0 readings x → ⊥
    no_gap x e gap = first_gap (subst (HasGap 0 readings) (sym e) gap)

low : (time : ℕ) → Contains (0 ∷ 1 ∷ 3 ∷ []) time → time ≤ 5
low time at = elim (head_or_tail 0 time (1 ∷ 3 ∷ []) at) as (λ _. time ≤ 5) [
  | inl e ↦ omega (arith, e)
  | inr more ↦ elim (head_or_tail 1 time (3 ∷ []) more) as (λ _. time ≤ 5) [ inl e ↦ omega (arith, e) | inr last ↦ omega (arith, only_one 3 time last) ]
]

both_open : AreOpen 0 (first ∷ second ∷ [])
both_open = record {
  each = of_both IsOpenFile first_open second_open;
  once = once_of readings (λ x at same. apart x (only_one (file_reading second) x at) same, (λ x none. absurd (no_element x none), tt));
  no_gap = λ i. none_at (HasGap 0 readings) readings i (λ x at. elim (head_or_tail (file_reading first) x (file_reading second ∷ []) at) as (λ _. HasGap 0 readings x → ⊥) [
    | inl e ↦ subst (λ (l : LogReading). HasGap 0 readings l → ⊥) e first_gap
    | inr later ↦ subst (λ (l : LogReading). HasGap 0 readings l → ⊥) (only_one (file_reading second) x later) second_gap
  ]);
  whole = λ a b at_a at_b behind. of_both (λ file. file.synced ≡ file_bytes file) refl refl a at_a;
  beyond = λ a b at_a at_b. of_both (λ x. (y : OpenFile) → Contains (first ∷ second ∷ []) y → IsBehind x y → Marked x y) (of_both (λ y. IsBehind first y → Marked first y) (λ behind. absurd (one_behind behind)) (λ _. beyond))
      (of_both (λ y. IsBehind second y → Marked second y) (λ behind. absurd (two_behind behind)) (λ behind. absurd (three_behind behind))) a at_a b at_b;
}
  where
    readings : List LogReading
    readings = file_reading first ∷ file_reading second ∷ []

    Marked : OpenFile → OpenFile → Type 0
    Marked a b = (time : ℕ) → Contains (times_of (file_reading a)) time → HasSynced (λ r. (is_mark r ≡ true) × (time ≤ r.timestamp)) b

    one_behind : IsBehind first first → ⊥
    one_behind is = let less : 1 < 1 = is.1 in omega (arith, less)

    two_behind : IsBehind second first → ⊥
    two_behind is = let less : 2 < 1 = is.1 in omega (arith, less)

    three_behind : IsBehind second second → ⊥
    three_behind is = let less : 2 < 2 = is.1 in omega (arith, less)

    beyond : Marked first second
    beyond time at = second_synced (λ r. (is_mark r ≡ true) × (time ≤ r.timestamp)) (refl, low time at)

    apart : (x : LogReading) → file_reading second ≡ x → IsSame x.head.segment first.head.segment → ⊥
    apart x e same =
        let is = subst (λ (l : LogReading). IsSame l.head.segment first.head.segment) (sym e) same in
        let number : 2 ≡ 1 = is.1 in
        omega (arith, number)

    first_gap : HasGap 0 readings (file_reading first) → ⊥
    first_gap gap = elim gap as (λ _. ⊥) [
      | inl amid ↦
          let has = amid.0 in
          elim (head_or_tail (file_reading first) has.1 (file_reading second ∷ []) (has.0, has.2, has.3)) as (λ _. ⊥) [
            | inl e ↦ one_behind (subst (λ (f : LogReading). IsEarlier f.head.segment first.head.segment) (sym e) has.4)
            | inr later ↦ two_behind (subst (λ (f : LogReading). IsEarlier f.head.segment first.head.segment) (sym (only_one (file_reading second) has.1 later)) has.4)
          ]
      | inr alone ↦ let late : 0 < 0 = alone.1 in omega (arith, late)
    ]

    at_first : Contains readings (file_reading first)
    at_first = head_in (file_reading first) (file_reading second ∷ [])

    second_gap : HasGap 0 readings (file_reading second) → ⊥
    second_gap gap = elim gap as (λ _. ⊥) [
      | inl amid ↦ amid.1 (at_first.0, file_reading first, at_first.1, at_first.2, refl)
      | inr alone ↦ alone.0 (at_first.0, file_reading first, at_first.1, at_first.2, (refl, omega arith))
    ]

abbrev pub SomeSegments : Type 0
SomeSegments = (u : Update) × (a b : OpenFile) × IsBehind a b × Life (running (u ∷ []) (there a ∷ there b ∷ []) (only None))

pub some_segments : SomeSegments
some_segments =
    let a = begun first [] first_opens in
    let b = then (running [] (there first ∷ []) (only None)) (running (update ∷ []) (there first ∷ []) (only None)) a (acknowledge [] (there first ∷ []) (only None) update (head_in update []) (λ file at. record {
      last = file;
      stands = at;
      of_log = inl refl;
      above = subst (HasSynced (λ r. 1 < r.timestamp)) (only_one first file at) (first_synced (λ r. 1 < r.timestamp) (omega arith));
    })) in
    let added : IsAdded (update ∷ []) (only None) (there first ∷ []) second = record {
      opens = both_open;
      new = λ u at. inl at;
      above = λ u at. subst (λ (w : Update). HasSynced (λ r. w.timestamp < r.timestamp) second) (only_one update u at) (second_synced (λ r. 1 < r.timestamp) (omega arith));
      above_base = tt;
    } in (
      update,
      first,
      second,
      (refl, omega arith),
      then (running (update ∷ []) (there first ∷ []) (only None)) (running (update ∷ []) (there first ∷ there second ∷ []) (only None)) b (add_file (update ∷ []) (there first ∷ []) (only None) second added),
    )
