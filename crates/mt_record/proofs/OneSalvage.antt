-- Bytes have one list of records or entries, which make a log or a part.
use Rattle.std.proofs.Common.{◌≡◌, inl, inr, ℕ, ◌<◌, ◌^◌, List, [], ◌∷◌, ◌++◌, Bool, true, false, length, map, refl, sym, ap, ◌∙◌, subst, append_assoc, arith}
use Rattle.std.proofs.lemmas.Bool.{cases_lt}
use Rattle.std.proofs.lemmas.List.{length-append, append-nil}
use Rattle.std.specs.List.{flat_map, AllByRecursion}
use Rattle.mt_words.specs.declared.limits.Format.{Format}
use Rattle.mt_words.specs.declared.limits.Limits.{Limits}
use Rattle.mt_words.specs.declared.record.Change.{Change}
use Rattle.mt_words.specs.Limits.{limits_of}
use Rattle.mt_words.specs.Changes.{Logged, IsEntry}
use Rattle.mt_words.proofs.ColumnBytes.{same_split}
use Rattle.mt_record.specs.Spelling.{spelling}
use Rattle.mt_record.specs.Logs.{AreRecords, IsLog}
use Rattle.mt_record.specs.declared.feed.head.Head.{Head}
use Rattle.mt_record.specs.Heads.{IsHead, head_bytes}
use Rattle.mt_record.specs.declared.part_text.PartHead.{PartHead}
use Rattle.mt_record.specs.Parts.{part_head_bytes, IsPartHead, entry_spelling, footer_bytes, IsPart}
use Rattle.mt_record.specs.declared.salvage.Items.{Items}
use Rattle.mt_record.specs.declared.salvage.Items.TheVariants.{Records, Entries}
use Rattle.mt_record.specs.declared.salvage.Found.{Found}
use Rattle.mt_record.specs.Salvage.{IsItem, GoOn, enough_after, StartsNowhere, IsFirst, AreFound, AreFoundIn, bytes_of, spans, marked, NeverFall, KeepMost, salvaged_part}
use Rattle.mt_record.proofs.Salvages.{item_some, same_item}

-- ---- one list

-- where items go on at a place of the bytes, but at none before, that is the same place
same_skipped : (items : Items) (limits : Limits) (a b x y : List ℕ) → a ++ x ≡ b ++ y → GoOn items limits (enough_after (length a)) x → GoOn items limits (enough_after (length b)) y
    → StartsNowhere items limits (a ++ x) (length a) → StartsNowhere items limits (b ++ y) (length b) → (a ≡ b) × (x ≡ y)
same_skipped items limits a b x y e goes_x goes_y first_a first_b =
    elim (cases_lt (length a) (length b)) as (λ _. (a ≡ b) × (x ≡ y)) [
      | inl less ↦ absurd (first_b a x (sym e) less goes_x)
      | inr most ↦ elim (cases_lt (length b) (length a)) as (λ _. (a ≡ b) × (x ≡ y)) [
        | inl less ↦ absurd (first_a b y e less goes_y)
        | inr least ↦ same_split a b x y (omega (arith, most, least)) e
      ]
    ]

-- an item is not where none is
no_more : (items : Items) (format : Format) (bytes : List ℕ) (found : Found) (after : List ℕ) → StartsNowhere items (limits_of format) bytes (length bytes)
    → IsFirst items (limits_of format) bytes found after → ⊥
no_more items format bytes found after nowhere is =
    let some = item_some items format found.timestamp found.bytes.now is.is in
    nowhere found.skipped.now (found.bytes.now ++ after) is.spelled
    (omega (arith, some, ap length is.spelled, length-append found.skipped.now (found.bytes.now ++ after), length-append found.bytes.now after)) is.starts

-- bytes have only one list of items
pub one_list : (items : Items) (format : Format) (bytes : List ℕ) (found others : List Found) → AreFound items (limits_of format) bytes found → AreFound items (limits_of format) bytes others
    → spans found ≡ spans others
one_list items format bytes [] [] a b = refl
one_list items format bytes [] (t ∷ ts) a b = absurd (no_more items format bytes t b.0 a b.1)
one_list items format bytes (s ∷ ss) [] a b = absurd (no_more items format bytes s a.0 b a.1)
one_list items format bytes (s ∷ ss) (t ∷ ts) a b =
    let limits = limits_of format in
    let first_a = subst (λ (x : List ℕ). StartsNowhere items limits x (length s.skipped.now)) a.1.spelled a.1.nowhere in
    let first_b = subst (λ (x : List ℕ). StartsNowhere items limits x (length t.skipped.now)) b.1.spelled b.1.nowhere in
    let gap = same_skipped items limits s.skipped.now t.skipped.now (s.bytes.now ++ a.0) (t.bytes.now ++ b.0) (sym a.1.spelled ∙ b.1.spelled) a.1.starts b.1.starts first_a first_b in
    let same = same_item items format s.timestamp t.timestamp s.bytes.now t.bytes.now a.0 b.0 a.1.is b.1.is gap.1 in
    let others = one_list items format b.0 ss ts (subst (λ (x : List ℕ). AreFound items limits x ss) same.1 a.2) b.2 in
    λ i. (gap.0 i, same.0 i) ∷ others i

-- the bytes are the items and those that are skipped, in order
pub in_order : (items : Items) (limits : Limits) (bytes : List ℕ) (found : List Found) → AreFound items limits bytes found
    → (rest : List ℕ) × (bytes ≡ flat_map (λ (s : Found). s.skipped.now ++ s.bytes.now) found ++ rest)
in_order items limits bytes [] are = (bytes, refl)
in_order items limits bytes (s ∷ ss) are =
    let after = in_order items limits are.0 ss are.2 in
    let others = flat_map (λ (s : Found). s.skipped.now ++ s.bytes.now) ss in (
      after.0,
      are.1.spelled ∙ ap (λ (x : List ℕ). s.skipped.now ++ (s.bytes.now ++ x)) after.1 ∙ sym (append_assoc s.skipped.now s.bytes.now (others ++ after.0))
          ∙ sym (append_assoc (s.skipped.now ++ s.bytes.now) others after.0),
    )

-- ---- what is kept

abbrev AreItems : Items → Limits → List Found → Type 0
AreItems items limits found = AllByRecursion (λ (s : Found). IsItem items limits s.timestamp s.bytes.now) found

are_items : (items : Items) (limits : Limits) (bytes : List ℕ) (found : List Found) → AreFound items limits bytes found → AreItems items limits found
are_items items limits bytes [] are = tt
are_items items limits bytes (s ∷ ss) are = (are.1.is, are_items items limits are.0 ss are.2)

items_on : (items : Items) (limits : Limits) (xs ys : List Found) → AreItems items limits xs → AreItems items limits ys → AreItems items limits (xs ++ ys)
items_on items limits [] ys are on = on
items_on items limits (x ∷ xs) ys are on = (are.0, items_on items limits xs ys are.1 on)

items_in : (items : Items) (limits : Limits) (pieces : List (List ℕ)) (found : List Found) → AreFoundIn items limits pieces found → AreItems items limits found
items_in items limits [] found are = subst (AreItems items limits) (sym are) tt
items_in items limits (piece ∷ pieces) found are =
    subst (AreItems items limits) (sym are.2) (items_on items limits are.0 are.1 (are_items items limits piece are.0 are.3) (items_in items limits pieces are.1 are.4))

-- marked records whose timestamps never fall
kept_records : (limits : Limits) (low : ℕ) (marks : List Bool) (found : List Found) → AreItems Records limits found → NeverFall low (marked marks (map (λ (s : Found). s.timestamp) found))
    → (records : List Logged) × AreRecords limits low records × (bytes_of (marked marks found) ≡ flat_map spelling records) × (length records ≡ length (marked marks found))
kept_records limits low [] found are rise = ([], tt, refl, refl)
kept_records limits low (b ∷ bs) [] are rise = ([], tt, refl, refl)
kept_records limits low (false ∷ bs) (s ∷ ss) are rise = kept_records limits low bs ss are.1 rise
kept_records limits low (true ∷ bs) (s ∷ ss) are rise =
    let r = are.0.0 in
    let rest = kept_records limits r.timestamp bs ss are.1 (subst (λ (t : ℕ). NeverFall t (marked bs (map (λ (s : Found). s.timestamp) ss))) are.0.2 rise.1) in
    (r ∷ rest.0, (are.0.1, omega (arith, rise.0, are.0.2), rest.1), λ i. are.0.3 i ++ rest.2 i, omega (arith, rest.3))

-- so they make a log
pub salvaged_log : (head : Head) (pieces : List (List ℕ)) (found : List Found) (marks : List Bool) → IsHead head → AreFoundIn Records (limits_of head.format) pieces found
    → KeepMost (map (λ (s : Found). s.timestamp) found) marks
    → (records : List Logged) × IsLog (head_bytes head ++ bytes_of (marked marks found)) head records [] × (length records ≡ length (marked marks found))
salvaged_log head pieces found marks is_head are keep =
    let kept = kept_records (limits_of head.format) 0 marks found (items_in Records (limits_of head.format) pieces found are) keep.rise in (
      kept.0,
      record {
        spelled = ap (λ (x : List ℕ). head_bytes head ++ x) (kept.2 ∙ sym (append-nil (flat_map spelling kept.0)));
        is_head = is_head;
        lawful = kept.1;
        ends = inl refl;
      },
      kept.3,
    )

entries_of : (limits : Limits) (found : List Found) → AreItems Entries limits found
    → (changes : List Change) × AllByRecursion (IsEntry limits) changes × (bytes_of found ≡ flat_map entry_spelling changes) × (length changes ≡ length found)
entries_of limits [] are = ([], tt, refl, refl)
entries_of limits (s ∷ ss) are =
    let rest = entries_of limits ss are.1 in
    (are.0.0 ∷ rest.0, (are.0.1, rest.1), λ i. are.0.3 i ++ rest.2 i, omega (arith, rest.3))

-- so they make a part
pub part_of : (head : PartHead) (pieces : List (List ℕ)) (entries : List Found) (end : ℕ) → IsPartHead head → end < 2 ^ 64 → AreFoundIn Entries (limits_of head.format) pieces entries
    → length entries < 2 ^ 32 → (changes : List Change) × IsPart (salvaged_part head entries end) head changes end × (length changes ≡ length entries)
part_of head pieces entries end is_head fits are few =
    let kept = entries_of (limits_of head.format) entries (items_in Entries (limits_of head.format) pieces entries are) in (
      kept.0,
      record {
        spelled = λ i. part_head_bytes head ++ (kept.2 i ++ footer_bytes end (sym kept.3 i));
        is_head = is_head;
        lawful = kept.1;
        fits = fits;
        count = omega (arith, few, kept.3);
      },
      kept.3,
    )
