-- Salvaging a damaged log or a broken part.
use Rattle.std.proofs.Common.{◌≡◌, ◌⊎◌, inl, inr, ℕ, ◌+◌, ◌-◌, ◌^◌, ◌<◌, ◌≤◌, List, [], ◌∷◌, ◌++◌, length, take, drop, refl, sym, ap, ◌∙◌, subst, append_assoc, arith}
use Rattle.std.proofs.lemmas.List.{length-append, length-drop, length-take-le, take-append-drop}
use Rattle.std.proofs.Math.Seq.{take-append_seam, drop-append_seam}
use Rattle.std.specs.List.{flat_map, AllByRecursion}
use Rattle.mt_words.specs.declared.limits.Format.{Format}
use Rattle.mt_words.specs.declared.limits.Limits.{Limits}
use Rattle.mt_words.specs.declared.fault.What.{What}
use Rattle.mt_words.specs.Limits.{limits_of}
use Rattle.mt_words.specs.Changes.{Logged}
use Rattle.mt_record.specs.declared.salvage.Items.{Items}
use Rattle.mt_record.specs.declared.salvage.Items.TheVariants.{Records, Entries}
use Rattle.mt_record.specs.declared.salvage.Found.{Found}
use Rattle.mt_record.specs.Spelling.{change_bytes, body, spelling, framed}
use Rattle.mt_record.specs.LogFaults.{RestFault}
use Rattle.mt_record.specs.Parts.{entry_spelling}
use Rattle.mt_record.specs.PartTexts.{IsEntryLength}
use Rattle.mt_record.specs.PartFeeding.{ShowsNoEntry}
use Rattle.mt_record.specs.Steps.Bodies.{IsNextBody, IsNextEntry}
use Rattle.mt_record.specs.Steps.Salvages.{IsNextItem, HasNoItem, IsFault}
use Rattle.mt_record.specs.Salvage.{IsItem, IsSomeItem, IsItemLength, IsEnd, GoOn, enough_after, StartsNowhere, IsFirst, AreFound}
use Rattle.mt_record.proofs.Unique.{same_framed, length_framed}
use Rattle.mt_record.proofs.Lawful.{length_fits, lawful_length}
use Rattle.mt_record.proofs.Entries.{entry_length, short_entry}
use Rattle.mt_record.proofs.OneFault.{fault_stops, fault_no_end}
use Rattle.mt_record.proofs.Frames.{body_frame, frame_begins, wrong_begins, none_begins}
use Rattle.mt_record.proofs.PartFrontLemmas.{no_entry_found}

-- ---- items

-- an item is a body in its frame
framing : (items : Items) (format : Format) (timestamp : ℕ) (item : List ℕ) → IsItem items (limits_of format) timestamp item
    → (fields : List ℕ) × IsItemLength items (limits_of format) (length fields) × (item ≡ framed fields)
framing Records format timestamp item is = (body is.0, lawful_length (limits_of format) is.0 is.1, is.3)
framing Entries format timestamp item is = (change_bytes is.0, entry_length (limits_of format) is.0 is.1, is.3)

short_item : (items : Items) (format : Format) (n : ℕ) → IsItemLength items (limits_of format) n → n < 2 ^ 32
short_item Records format n is = length_fits format n is
short_item Entries format n is = short_entry format n is

-- it is not empty
pub item_some : (items : Items) (format : Format) (timestamp : ℕ) (item : List ℕ) → IsItem items (limits_of format) timestamp item → 0 < length item
item_some items format timestamp item is =
    let f = framing items format timestamp item is in
    omega (arith, ap length f.2, length_framed f.0)

-- bytes begin with only one item
pub same_item : (items : Items) (format : Format) (t u : ℕ) (a b x y : List ℕ) → IsItem items (limits_of format) t a → IsItem items (limits_of format) u b → a ++ x ≡ b ++ y → (a ≡ b) × (x ≡ y)
same_item items format t u a b x y is_a is_b e =
    let f = framing items format t a is_a in
    let g = framing items format u b is_b in
    let same = same_framed f.0 g.0 x y (short_item items format (length f.0) f.1) (short_item items format (length g.0) g.1) ((λ i. sym f.2 i ++ x) ∙ e ∙ λ i. g.2 i ++ y) in
    (f.2 ∙ ap framed same.0 ∙ sym g.2, same.1)

-- an end begins with none
end_no_item : (items : Items) (format : Format) (rest : List ℕ) → IsEnd items (limits_of format) rest → HasNoItem items (limits_of format) rest
end_no_item items format rest ends timestamp item after is e =
    let f = framing items format timestamp item is in
    none_begins (IsItemLength items (limits_of format)) (short_item items format) rest ends
    (frame_begins (IsItemLength items (limits_of format)) (short_item items format) rest
    (body_frame (IsItemLength items (limits_of format)) (short_item items format) rest f.0 after f.1 (e ∙ ap (λ (x : List ℕ). x ++ after) f.2)))

-- bytes that show that no entry is at their front do not end there
shown_no_end : (format : Format) (rest : List ℕ) → ShowsNoEntry (limits_of format) rest → IsEnd Entries (limits_of format) rest → ⊥
shown_no_end format rest (inl wrong) ends = none_begins (IsEntryLength (limits_of format)) (short_entry format) rest ends (wrong_begins (IsEntryLength (limits_of format)) (short_entry format) rest wrong)
shown_no_end format rest (inr wrong) ends = none_begins (IsEntryLength (limits_of format)) (short_entry format) rest ends (frame_begins (IsEntryLength (limits_of format)) (short_entry format) rest wrong.0)

-- what was found at the front
pub record_fault : (format : Format) (bytes : List ℕ) (what : What) → RestFault what (limits_of format) 0 bytes → IsFault Records (limits_of format) bytes
record_fault format bytes what fault = record {
  no_item = λ t item after is e. fault_stops format 0 bytes what fault is.0 after is.1 (omega arith) (e ∙ ap (λ (x : List ℕ). x ++ after) is.3);
  no_end = fault_no_end format 0 bytes what fault;
}

pub entry_fault : (format : Format) (bytes : List ℕ) → ShowsNoEntry (limits_of format) bytes → IsFault Entries (limits_of format) bytes
entry_fault format bytes shown = record {
  no_item = λ t item after is e. no_entry_found format bytes shown is.0 after is.1 (e ∙ ap (λ (x : List ℕ). x ++ after) is.3);
  no_end = shown_no_end format bytes shown;
}

pub record_next : (limits : Limits) (bytes : List ℕ) (timestamp : ℕ) (found after : List ℕ) → IsNextBody limits 0 bytes timestamp found after → IsNextItem Records limits bytes timestamp after
record_next limits bytes timestamp found after h = record { item = spelling h.next; is = (h.next, h.is_next.lawful, h.same_time, refl); spelled = h.is_next.spelled }

pub entry_next : (limits : Limits) (bytes fields after : List ℕ) → IsNextEntry limits bytes fields after → IsNextItem Entries limits bytes 0 after
entry_next limits bytes fields after h = record { item = entry_spelling h.next; is = (h.next, h.fields.lawful, refl, refl); spelled = h.spelled ∙ ap (λ (x : List ℕ). framed x ++ after) h.fields.spelled }

-- ---- whether items go on

module _ (items : Items) (format : Format) (enough : ℕ) where
  -- so many items in all, or an end behind them
  abbrev AreMany : ℕ → List ℕ → Type 0
  AreMany n after = (enough ≤ n) ⊎ IsEnd items (limits_of format) after

  -- items go on after `n` of them
  pub record GoOnAfter (n : ℕ) (bytes : List ℕ) : Type 0 where
    pub row : List (List ℕ)
    pub after : List ℕ
    pub spelled : bytes ≡ flat_map (λ (item : List ℕ). item) row ++ after
    pub are : AllByRecursion (IsSomeItem items (limits_of format)) row
    pub some : 0 < n + length row
    pub many : AreMany (n + length row) after

  as_many : (n m : ℕ) (after : List ℕ) → n ≡ m → AreMany n after → AreMany m after
  as_many n m after same many = subst (λ (k : ℕ). AreMany k after) same many

  -- none were read yet
  pub go_on_begins : (bytes : List ℕ) → GoOn items (limits_of format) enough bytes → GoOnAfter 0 bytes
  go_on_begins bytes h = record {
    row = h.row;
    after = h.after;
    spelled = h.spelled;
    are = h.are;
    some = omega (arith, h.some);
    many = as_many (length h.row) (0 + length h.row) h.after (omega arith) h.many;
  }

  pub go_on_begun : (bytes : List ℕ) → GoOnAfter 0 bytes → GoOn items (limits_of format) enough bytes
  go_on_begun bytes h = record {
    row = h.row;
    after = h.after;
    spelled = h.spelled;
    are = h.are;
    some = omega (arith, h.some);
    many = as_many (0 + length h.row) (length h.row) h.after (omega arith) h.many;
  }

  -- one item more was read
  pub go_on_read : (n : ℕ) (bytes : List ℕ) (timestamp : ℕ) (after : List ℕ) → IsNextItem items (limits_of format) bytes timestamp after → n < enough → GoOnAfter n bytes → GoOnAfter (n + 1) after
  go_on_read n bytes timestamp after next few h = by h.row h.after h.spelled h.are h.many
    where
      by : (row : List (List ℕ)) (x : List ℕ) → bytes ≡ flat_map (λ (item : List ℕ). item) row ++ x → AllByRecursion (IsSomeItem items (limits_of format)) row → AreMany (n + length row) x
          → GoOnAfter (n + 1) after
      by [] x e are (inl many) = absurd (omega (arith, few, many))
      by [] x e are (inr ends) = absurd (end_no_item items format x ends timestamp next.item after next.is (sym e ∙ next.spelled))
      by (s ∷ ss) x e are many =
          let behind = flat_map (λ (item : List ℕ). item) ss in
          let same = same_item items format timestamp are.0.0 next.item s after (behind ++ x) next.is are.0.1 (sym next.spelled ∙ e ∙ append_assoc s behind x) in
          record {
            row = ss;
            after = x;
            spelled = same.1;
            are = are.1;
            some = omega arith;
            many = as_many (n + length (s ∷ ss)) ((n + 1) + length ss) x (omega arith) many;
          }

  pub go_on_unread : (n : ℕ) (bytes : List ℕ) (timestamp : ℕ) (after : List ℕ) → IsNextItem items (limits_of format) bytes timestamp after → GoOnAfter (n + 1) after → GoOnAfter n bytes
  go_on_unread n bytes timestamp after next h = record {
    row = next.item ∷ h.row;
    after = h.after;
    spelled = next.spelled ∙ ap (λ (x : List ℕ). next.item ++ x) h.spelled ∙ sym (append_assoc next.item (flat_map (λ (item : List ℕ). item) h.row) h.after);
    are = ((timestamp, next.is), h.are);
    some = omega arith;
    many = as_many ((n + 1) + length h.row) (n + length (next.item ∷ h.row)) h.after (omega arith) h.many;
  }

  -- enough were read
  pub go_on_enough : (n : ℕ) (bytes : List ℕ) → 0 < enough → enough ≤ n → GoOnAfter n bytes
  go_on_enough n bytes least many = record {
    row = [];
    after = bytes;
    spelled = refl;
    are = tt;
    some = omega (arith, least, many);
    many = inl (omega (arith, many));
  }

  -- the bytes end, after some items
  pub go_on_ends : (n : ℕ) (bytes : List ℕ) → IsEnd items (limits_of format) bytes → 0 < n → GoOnAfter n bytes
  go_on_ends n bytes ends some = record {
    row = [];
    after = bytes;
    spelled = refl;
    are = tt;
    some = omega (arith, some);
    many = inr ends;
  }

  -- at the end there were some
  pub go_on_ended : (n : ℕ) (bytes : List ℕ) → IsEnd items (limits_of format) bytes → GoOnAfter n bytes → 0 < n
  go_on_ended n bytes ends h = by h.row h.spelled h.are h.some
    where
      by : (row : List (List ℕ)) → bytes ≡ flat_map (λ (item : List ℕ). item) row ++ h.after → AllByRecursion (IsSomeItem items (limits_of format)) row → 0 < n + length row → 0 < n
      by [] e are some = omega (arith, some)
      by (s ∷ ss) e are some =
          let behind = flat_map (λ (item : List ℕ). item) ss in
          absurd (end_no_item items format bytes ends are.0.0 s (behind ++ h.after) are.0.1 (e ∙ append_assoc s behind h.after))

  -- after a fault they do not go on, unless there were enough
  pub go_on_fault : (n : ℕ) (bytes : List ℕ) → IsFault items (limits_of format) bytes → n < enough → GoOnAfter n bytes → ⊥
  go_on_fault n bytes fault few h = by h.row h.after h.spelled h.are h.many
    where
      by : (row : List (List ℕ)) (x : List ℕ) → bytes ≡ flat_map (λ (item : List ℕ). item) row ++ x → AllByRecursion (IsSomeItem items (limits_of format)) row → AreMany (n + length row) x → ⊥
      by [] x e are (inl many) = omega (arith, few, many)
      by [] x e are (inr ends) = fault.no_end (subst (IsEnd items (limits_of format)) (sym e) ends)
      by (s ∷ ss) x e are many =
          let behind = flat_map (λ (item : List ℕ). item) ss in
          fault.no_item are.0.0 s (behind ++ x) are.0.1 (e ∙ append_assoc s behind x)

  -- nor where no item is
  not_on : (bytes : List ℕ) → HasNoItem items (limits_of format) bytes → GoOn items (limits_of format) enough bytes → ⊥
  not_on bytes none h = by h.row h.spelled h.are h.some
    where
      by : (row : List (List ℕ)) → bytes ≡ flat_map (λ (item : List ℕ). item) row ++ h.after → AllByRecursion (IsSomeItem items (limits_of format)) row → 0 < length row → ⊥
      by [] e are some = omega (arith, some)
      by (s ∷ ss) e are some =
          let behind = flat_map (λ (item : List ℕ). item) ss in
          none are.0.0 s (behind ++ h.after) are.0.1 (e ∙ append_assoc s behind h.after)

-- ---- the first item

-- the first place at which items go on, or the end
abbrev pub IsPlace : Items → Format → List ℕ → ℕ → Type 0
IsPlace items format bytes place = (drop place bytes ≡ []) ⊎ GoOn items (limits_of format) (enough_after place) (drop place bytes)

pub first_found : (items : Items) (format : Format) (bytes rest after last : List ℕ) (place : ℕ) (found : Found) → place ≤ length bytes → StartsNowhere items (limits_of format) bytes place → IsPlace items format bytes place
    → IsNextItem items (limits_of format) rest found.timestamp after → rest ≡ drop place bytes → found.skipped.now ≡ take place bytes → found.bytes.now ≡ take (length rest - length after) rest
    → last ≡ drop (length rest - length after) rest → IsFirst items (limits_of format) bytes found last
first_found items format bytes rest after last place found within nowhere starts next rest_is skipped_is bytes_is last_is =
    let long : length found.skipped.now ≡ place = ap length skipped_is ∙ length-take-le place bytes within in
    let size : length rest - length after ≡ length next.item = omega (arith, ap length next.spelled, length-append next.item after) in
    let is : found.bytes.now ≡ next.item = bytes_is ∙ (λ i. take (size i) (next.spelled i)) ∙ take-append_seam next.item after in
    let behind : last ≡ after = last_is ∙ (λ i. drop (size i) (next.spelled i)) ∙ drop-append_seam next.item after in
    let joins : rest ≡ found.bytes.now ++ last = next.spelled ∙ λ i. sym is i ++ sym behind i in
    record {
      is = subst (IsItem items (limits_of format) found.timestamp) (sym is) next.is;
      spelled = sym (take-append-drop place bytes) ∙ (λ i. sym skipped_is i ++ sym rest_is i) ∙ ap (λ (x : List ℕ). found.skipped.now ++ x) joins;
      nowhere = subst (StartsNowhere items (limits_of format) bytes) (sym long) nowhere;
      starts = elim starts as (λ _. GoOn items (limits_of format) (enough_after (length found.skipped.now)) (found.bytes.now ++ last)) [
        | inl none ↦ absurd (omega (arith, item_some items format found.timestamp next.item next.is, ap length next.spelled, length-append next.item after, ap length rest_is, ap length none))
        | inr goes ↦ subst (λ (p : ℕ × List ℕ). GoOn items (limits_of format) (enough_after p.0) p.1) (λ i. (sym long i, (sym rest_is ∙ joins) i)) goes
      ];
    }

pub none_found : (items : Items) (format : Format) (bytes rest : List ℕ) (place : ℕ) → place ≤ length bytes → StartsNowhere items (limits_of format) bytes place → IsPlace items format bytes place
    → HasNoItem items (limits_of format) rest → rest ≡ drop place bytes → StartsNowhere items (limits_of format) bytes (length bytes)
none_found items format bytes rest place within nowhere starts none rest_is =
    elim starts as (λ _. StartsNowhere items (limits_of format) bytes (length bytes)) [
      | inl ends ↦ subst (StartsNowhere items (limits_of format) bytes) (omega (arith, within, ap length ends, length-drop place bytes)) nowhere
      | inr goes ↦ absurd (not_on items format (enough_after place) rest none (subst (GoOn items (limits_of format) (enough_after place)) (sym rest_is) goes))
    ]

pub end_found : (items : Items) (format : Format) (bytes rest : List ℕ) (place : ℕ) → place ≤ length bytes → StartsNowhere items (limits_of format) bytes place → IsPlace items format bytes place
    → IsEnd items (limits_of format) rest → rest ≡ drop place bytes → StartsNowhere items (limits_of format) bytes (length bytes)
end_found items format bytes rest place within nowhere starts ends rest_is = none_found items format bytes rest place within nowhere starts (end_no_item items format rest ends) rest_is

-- what follows an item is shorter
pub fewer_left : (items : Items) (format : Format) (bytes : List ℕ) (found : Found) (after : List ℕ) → IsFirst items (limits_of format) bytes found after → length after < length bytes
fewer_left items format bytes found after is = omega (
  arith,
  item_some items format found.timestamp found.bytes.now is.is,
  ap length is.spelled,
  length-append found.skipped.now (found.bytes.now ++ after),
  length-append found.bytes.now after,
)

-- one item more
pub found_on : (items : Items) (limits : Limits) (all bytes after : List ℕ) (before : List Found) (found : Found) → IsFirst items limits bytes found after
    → ((others : List Found) → AreFound items limits bytes others → AreFound items limits all (before ++ others))
    → (others : List Found) → AreFound items limits after others → AreFound items limits all ((before ++ found ∷ []) ++ others)
found_on items limits all bytes after before found is so_far others are =
    subst (AreFound items limits all) (sym (append_assoc before (found ∷ []) others)) (so_far (found ∷ others) (after, is, are))

-- ---- records below a timestamp

pub below_push : (timestamp : ℕ) (rs : List Logged) (r : Logged) → AllByRecursion (λ (r : Logged). r.timestamp < timestamp) rs → r.timestamp < timestamp
    → AllByRecursion (λ (r : Logged). r.timestamp < timestamp) (rs ++ r ∷ [])
below_push timestamp [] r these this = (this, tt)
below_push timestamp (s ∷ rs) r these this = (these.0, below_push timestamp rs r these.1 this)
