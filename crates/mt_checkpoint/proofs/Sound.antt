-- What is read of a checkpoint that was written.
use Rattle.std.proofs.Common.{◌≡◌, ◌⊎◌, ◌∙◌, ℕ, zero, suc, ◌+◌, ◌<◌, ◌^◌, false, List, [], ◌∷◌, ◌++◌, length, get_or, refl, sym, ap, subst, inl, inr, arith}
use Rattle.std.specs.Prelude.{IsTrue}
use Rattle.std.specs.List.{flat_map, AllByRecursion}
use Rattle.std.proofs.lemmas.Bool.{false≢true}
use Rattle.std.proofs.lemmas.List.{append-nil, map-append, length-map}
use Rattle.mt_words.specs.declared.limits.Format.TheVariants.{Two}
use Rattle.mt_words.specs.declared.record.Change.{Change}
use Rattle.mt_words.specs.Limits.{limits_of, widest}
use Rattle.mt_words.specs.Walks.{Pair, IsPair, IsMap, joined}
use Rattle.mt_words.specs.Changes.{IsEntry}
use Rattle.mt_words.specs.Built.{entry_of, mark_of}
use Rattle.mt_record.specs.Heads.{head_bytes}
use Rattle.mt_record.specs.Encoding.{segment_head}
use Rattle.mt_record.specs.Opening.{text_of}
use Rattle.mt_record.specs.Spelling.{spelling}
use Rattle.mt_record.specs.Logs.{IsTorn, IsReading}
use Rattle.mt_record.specs.Parts.{part_head_bytes, footer_bytes, IsPart, part_text_of, IsPartReading}
use Rattle.mt_record.proofs.Records.{torn_some}
use Rattle.mt_tree.proofs.Joins.{all_front, all_back}
use Rattle.mt_checkpoint.specs.Checkpoints.{Checkpoint, HasPairs, head_of_part, entries_with, entries_text, pairs_of, part_text, part_header, part_reading, IsPartFile, log_header, log_reading, IsLogFile}

all_at : {X : Type 0} (P : X → Type 0) (xs : List X) (i : ℕ) (d : X) → i < length xs → AllByRecursion P xs → P (get_or xs i d)
all_at P [] i d below all = absurd (omega (arith, below))
all_at P (x ∷ xs) zero d below all = all.0
all_at P (x ∷ xs) (suc i) d below all = all_at P xs i d (omega (arith, below)) all.1

all_in_each : (P : Pair → Type 0) (lists : List (List Pair)) → AllByRecursion P (joined lists) → AllByRecursion (AllByRecursion P) lists
all_in_each P [] all = tt
all_in_each P (list ∷ lists) all = (all_front P list (joined lists) all, all_in_each P lists (all_back P list (joined lists) all))

-- the entries of lawful pairs are lawful
lawful_entries : (version : ℕ) (pairs : List Pair) → 0 < version → version < 2 ^ 64 → AllByRecursion IsPair pairs → AllByRecursion (IsEntry widest) (entries_with version pairs)
lawful_entries version [] some fits all = tt
lawful_entries version (pair ∷ pairs) some fits all =
    ((record { version = some; version_fits = fits; key = all.0.0; kind = (all.0.1, all.0.2) }, tt), lawful_entries version pairs some fits all.1)

is_part : (pairs : List Pair) (checkpoint : Checkpoint) (part : ℕ) → IsMap pairs → HasPairs pairs checkpoint → part < length checkpoint.parts
    → IsPart (part_text checkpoint part) (head_of_part checkpoint part) (entries_with checkpoint.version (pairs_of checkpoint part)) checkpoint.cutoff
is_part pairs checkpoint part map is below =
    let each = all_in_each IsPair checkpoint.parts (subst (AllByRecursion IsPair) (sym is.whole) map.1) in
    let few : length (pairs_of checkpoint part) < 2 ^ 32 = all_at (λ (z : List Pair). length z < 2 ^ 32) checkpoint.parts part [] below is.counts in
    record {
      spelled = refl;
      is_head = record { number = is.number; begin = omega (arith, is.cutoff); part = omega (arith, below, is.few); parts = is.few };
      lawful = lawful_entries checkpoint.version (pairs_of checkpoint part) is.version (omega (arith, is.newest)) (all_at (AllByRecursion IsPair) checkpoint.parts part [] below each);
      fits = omega (arith, is.cutoff);
      count = omega (arith, few, length-map (pairs_of checkpoint part) (λ pair. entry_of checkpoint.version pair.0 pair.1));
    }

-- the text of a file of the part is that of the part
text_is : (salt : ℕ) (checkpoint : Checkpoint) (part : ℕ) (bytes : List ℕ) (is : IsPartFile salt checkpoint part bytes) → part_text checkpoint part ≡ part_text_of (part_header salt checkpoint part) is.bodies
text_is salt checkpoint part bytes is =
    let counted = length-map (pairs_of checkpoint part) (λ pair. entry_of checkpoint.version pair.0 pair.1) in
    let front = part_head_bytes (head_of_part checkpoint part) in
    let entries = entries_text checkpoint.version (pairs_of checkpoint part) in
    ap (λ (n : ℕ). front ++ (entries ++ footer_bytes checkpoint.cutoff n)) counted ∙ ap (λ (l : List ℕ). front ++ l) (sym is.joins)

pub part_is_read : (pairs : List Pair) (checkpoint : Checkpoint) (salt part : ℕ) (bytes : List ℕ) → IsMap pairs → HasPairs pairs checkpoint → part < length checkpoint.parts
    → IsPartFile salt checkpoint part bytes → IsPartReading bytes (part_reading checkpoint part)
part_is_read pairs checkpoint salt part bytes map has below is = record {
  text = part_text checkpoint part;
  opens = inr (record { header = part_header salt checkpoint part; bodies = is.bodies; begins = is.begins; is_text = text_is salt checkpoint part bytes is });
  is_part = (Two, is_part pairs checkpoint part map has below);
}

entries_joined : (version : ℕ) (lists : List (List Pair)) → flat_map (entries_with version) lists ≡ entries_with version (joined lists)
entries_joined version [] = refl
entries_joined version (list ∷ lists) =
    ap (λ (z : List Change). entries_with version list ++ z) (entries_joined version lists) ∙ sym (map-append (λ pair. entry_of version pair.0 pair.1) list (joined lists))

pub all_entries : (pairs : List Pair) (checkpoint : Checkpoint) → HasPairs pairs checkpoint → flat_map (entries_with checkpoint.version) checkpoint.parts ≡ entries_with checkpoint.version pairs
all_entries pairs checkpoint is = entries_joined checkpoint.version checkpoint.parts ∙ ap (entries_with checkpoint.version) is.whole

pub log_is_read : (pairs : List Pair) (checkpoint : Checkpoint) (salt : ℕ) (bytes : List ℕ) → HasPairs pairs checkpoint → IsLogFile salt checkpoint bytes → IsReading bytes (log_reading checkpoint)
log_is_read pairs checkpoint salt bytes has is =
    let header = log_header salt checkpoint in
    let mark = spelling (mark_of (checkpoint.cutoff + 1)) in record {
      text = text_of header (mark ∷ []);
      ended = false;
      opens = inr (record { header = header; bodies = mark ∷ []; end = []; is_file = record { begins = is; ends = inl refl }; is_text = refl; ends = refl });
      tail = [];
      is_log = record {
        spelled = ap (λ (z : List ℕ). head_bytes (segment_head checkpoint.cutoff 0 0) ++ z) (sym (append-nil (mark ++ [])));
        is_head = record { from = omega (arith, has.cutoff); segment = (refl, omega arith, omega arith) };
        lawful = ((omega (arith, has.cutoff), tt), omega arith, tt);
        ends = inl refl;
      };
      torn = (λ not. absurd (false≢true not), whole);
    }
  where
    whole : IsTrue false ⊎ IsTorn (limits_of Two) [] → IsTrue false
    whole (inl not) = not
    whole (inr torn) = absurd (omega (arith, torn_some (limits_of Two) [] torn))
