-- The header, the entries and the footer of a part, one after the other.
use Rattle.std.proofs.Common.{◌≡◌, ◌≢◌, inl, inr, ℕ, zero, suc, ◌^◌, ◌<◌, Some, None, List, [], ◌∷◌, ◌++◌, length, refl, sym, ◌∙◌, append_assoc, arith}
use Rattle.std.proofs.lemmas.List.{append-nil, flat_map_more}
use Rattle.std.specs.List.{flat_map, AllByRecursion}
use Rattle.byteorder.specs.Endian.{big_bytes}
use Rattle.mt_words.specs.declared.record.Change.{Change}
use Rattle.mt_words.specs.Limits.{limits_of, widest, widest_format}
use Rattle.mt_words.specs.Changes.{IsEntry}
use Rattle.mt_words.proofs.Rising.{all_push}
use Rattle.mt_record.specs.declared.part_text.PartHead.{PartHead}
use Rattle.mt_record.specs.declared.part_text.PartFault.{PartFault}
use Rattle.mt_record.specs.declared.part_text.PartFault.TheVariants as faults
use Rattle.mt_record.specs.declared.feed.part_items.PartItems.{PartItems}
use Rattle.mt_record.specs.Spelling.{framed}
use Rattle.mt_record.specs.Steps.Bodies.{AreFieldsOf, IsNextEntry}
use Rattle.mt_record.specs.Parts.{part_head, part_head_bytes, IsPartHead, entry_spelling, footer_bytes}
use Rattle.mt_record.specs.PartFeeding.{part_so_far, end_bytes, ShowsNoEntry, ShowsNoPart, HoldsPart, IsPartLeft, IsPartFaulty}
use Rattle.mt_record.specs.Feeding.{Reads, HoldsAll}
use Rattle.mt_record.proofs.Copying.{entry_within}
use Rattle.mt_record.proofs.Feeds.{front_read}

-- the header is read if nothing was read before
pub header_read : {E : Type 0} (listed : E → List Change) (old : PartItems E) (head : PartHead) (bytes after : List ℕ) → old.head ≡ None → IsPartHead head → bytes ≡ part_head_bytes head ++ after
    → Reads (λ (taken : Unit {0}) items. HoldsPart (part_so_far listed items)) old (record old { head = Some head }) bytes after × (length after < length bytes)
header_read listed old head bytes after none is e =
    front_read (λ (taken : Unit {0}) items. HoldsPart (part_so_far listed items)) old (record old { head = Some head }) (part_head_bytes head) bytes after e (omega arith) (λ taken front h.
    let empty : (listed old.entries ≡ []) × (old.end ≡ None) = rw none at h.lawful in
    let before : front ≡ [] = rw (none, empty.0, empty.1) at h.spelled in
    rw (before, empty.0, empty.1) (record { spelled = sym (append-nil (part_head_bytes head)); lawful = (is, tt); fits = tt }))

-- a complete entry is read after those before it
pub entry_read : {E : Type 0} (listed : E → List Change) (old : PartItems E) (entries : E) (head : PartHead) (bytes fields after : List ℕ) → old.head ≡ Some head → old.end ≡ None
    → IsNextEntry (limits_of head.format) bytes fields after
    → ((entry : Change) → AreFieldsOf widest fields entry → listed entries ≡ listed old.entries ++ entry ∷ [])
    → Reads (λ (taken : Unit {0}) items. HoldsPart (part_so_far listed items)) old (record old { entries = entries }) bytes after × (length after < length bytes)
entry_read listed old entries head bytes fields after some open_yet next put =
    let added = put next.next (entry_within head.format fields next.next next.fields) in
    front_read (λ (taken : Unit {0}) items. HoldsPart (part_so_far listed items)) old (record old { entries = entries }) (framed fields) bytes after next.spelled (omega arith) (λ taken front h.
    let lawful : IsPartHead head × AllByRecursion (IsEntry (limits_of head.format)) (listed old.entries) = rw some at h.lawful in
    let before : front ≡ part_head_bytes head ++ flat_map entry_spelling (listed old.entries) = rw (some, open_yet, append-nil) at h.spelled in
    rw (some, open_yet, added) (record {
      spelled = rw append-nil ((λ i. before i ++ framed (next.fields.spelled i)) ∙ flat_map_more entry_spelling (part_head_bytes head) (listed old.entries) next.next);
      lawful = (lawful.0, all_push (IsEntry (limits_of head.format)) (listed old.entries) next.next lawful.1 next.fields.lawful);
      fits = tt;
    }))

-- a complete footer with the right number of entries ends the part
pub footer_read : {E : Type 0} (listed : E → List Change) (old : PartItems E) (head : PartHead) (end count : ℕ) (bytes after : List ℕ) → old.head ≡ Some head → old.end ≡ None → end < 2 ^ 64 → count < 2 ^ 32
    → count ≡ length (listed old.entries) → bytes ≡ footer_bytes end count ++ after
    → Reads (λ (taken : Unit {0}) items. HoldsPart (part_so_far listed items)) old (record old { end = Some end }) bytes after × (length after < length bytes)
footer_read listed old head end count bytes after some open_yet fits_end fits same e =
    front_read (λ (taken : Unit {0}) items. HoldsPart (part_so_far listed items)) old (record old { end = Some end }) (footer_bytes end count) bytes after e (omega arith) (λ taken front h.
    let before : front ≡ part_head_bytes head ++ flat_map entry_spelling (listed old.entries) = rw (some, open_yet, append-nil) at h.spelled in
    rw some (record {
      spelled = (λ i. before i ++ footer_bytes end (same i)) ∙ append_assoc (part_head_bytes head) (flat_map entry_spelling (listed old.entries)) (footer_bytes end (length (listed old.entries)));
      lawful = rw some at h.lawful;
      fits = (fits_end, omega (arith, fits, same));
    }))

-- ---- faults

-- bytes that show that there is no part show that this part is broken
pub broken : {E : Type 0} (listed : E → List Change) (old : PartItems E) (head : PartHead) (fault : PartFault) (bytes : List ℕ) → old.head ≡ Some head
    → fault ≡ faults.Broken head.number (length (listed old.entries)) → ShowsNoPart (limits_of head.format) (length (listed old.entries)) (end_bytes (part_so_far listed old) ++ bytes)
    → IsPartFaulty (part_so_far listed old) fault bytes
broken listed old head fault bytes some is breaks = rw is (record { head = head; begun = some; named = refl; counted = refl; breaks = breaks })

-- if the bytes begin with a length, but not with a length of zero, it is above zero
other_than_zero : (bytes : List ℕ) (n : ℕ) (more : List ℕ) → bytes ≡ big_bytes 4 n ++ more → ((rest : List ℕ) → bytes ≢ big_bytes 4 0 ++ rest) → 0 < n
other_than_zero bytes zero more e some = absurd (some more e)
other_than_zero bytes (suc n) more e some = omega arith

-- bytes that begin with neither an entry nor a footer break the part
pub entry_broken : {E : Type 0} (listed : E → List Change) (old : PartItems E) (head : PartHead) (fault : PartFault) (bytes : List ℕ) → old.head ≡ Some head → old.end ≡ None
    → fault ≡ faults.Broken head.number (length (listed old.entries)) → ((rest : List ℕ) → bytes ≢ big_bytes 4 0 ++ rest) → ShowsNoEntry (limits_of head.format) bytes
    → IsPartFaulty (part_so_far listed old) fault bytes
entry_broken listed old head fault bytes some open_yet is other (inl h) =
    broken listed old head fault bytes some is (rw open_yet (inl (h, other_than_zero bytes h.number h.more h.spelled other)))
entry_broken listed old head fault bytes some open_yet is other (inr h) = broken listed old head fault bytes some is (rw open_yet (inr (inl h)))

-- so does a byte after the footer
pub more_broken : {E : Type 0} (listed : E → List Change) (old : PartItems E) (head : PartHead) (fault : PartFault) (end : ℕ) (bytes : List ℕ) → old.head ≡ Some head → old.end ≡ Some end
    → fault ≡ faults.Broken head.number (length (listed old.entries)) → 0 < length bytes → IsPartFaulty (part_so_far listed old) fault bytes
more_broken listed old head fault end [] some ends is more = absurd (omega (arith, more))
more_broken listed old head fault end (byte ∷ more) some ends is _ =
    broken listed old head fault (byte ∷ more) some is (rw ends (inr (inr (inr (record { end = end; byte = byte; more = more; spelled = refl })))))

-- ---- the beginning

-- a new feed has read nothing and holds nothing
pub nothing_read : {E : Type 0} (listed : E → List Change) (entries : E) → listed entries ≡ []
    → HoldsAll (λ items. HoldsPart (part_so_far listed items)) (λ items. IsPartLeft (part_so_far listed items)) (record { head = None; entries = entries; end = None }) [] []
nothing_read listed entries none = (
  record { front = []; joins = refl; read = rw none (record { spelled = refl; lawful = (refl, refl); fits = tt }) },
  record {
    head = part_head widest_format 0 0 0 0;
    more = part_head_bytes (part_head widest_format 0 0 0 0);
    is_head = record { number = omega arith; begin = omega arith; part = omega arith; parts = omega arith };
    some = omega arith;
    begun = refl;
  },
)
