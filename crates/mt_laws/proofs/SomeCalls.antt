-- There are calls of a server by which an update is acknowledged, a segment follows, a checkpoint is written, and the old segment is deleted.
use Rattle.std.proofs.Common.{◌≡◌, ◌⊎◌, inl, inr, ℕ, ◌+◌, ◌^◌, ◌<◌, ◌≤◌, false, Some, None, List, [], ◌∷◌, ◌++◌, length, Contains, refl, sym, ap, ◌∙◌, subst, arith}
use Rattle.std.proofs.lemmas.Bool.{true≢false}
use Rattle.mt_words.specs.declared.update.Update.{Update}
use Rattle.mt_words.specs.declared.record.Change.{Change}
use Rattle.mt_words.specs.Built.{mark_of, put_of}
use Rattle.mt_words.specs.Changes.{Logged, is_mark, IsLawful}
use Rattle.mt_words.specs.Limits.{widest}
use Rattle.mt_words.specs.Walks.{Pair}
use Rattle.mt_words.proofs.Elements.{no_element, head_or_tail, head_in, tail_in}
use Rattle.mt_record.specs.declared.feed.head.Head.{Head}
use Rattle.mt_block.specs.declared.header.Header.{Header}
use Rattle.mt_block.specs.Blocks.{header_bytes, mark_of as mark_in, block}
use Rattle.mt_record.specs.Encoding.{segment_head}
use Rattle.mt_record.specs.Opening.{text_head}
use Rattle.mt_record.specs.Spelling.{spelling}
use Rattle.mt_replay.specs.Survivors.{log_updates}
use Rattle.mt_writer.specs.Files.{OpenFile, file_bytes}
use Rattle.mt_writer.specs.Journals.{Journal, Writer, Keeps, file_of, records_of, begun, holding, taking, syncing, NewFile, Begins, IsReached, IsSealed}
use Rattle.mt_writer.proofs.JournalLemmas.{reached, held_more, taken_all, synced_all, begun_keeps, times_below, opens}
use Rattle.mt_laws.specs.Lives.{IsBehind, LogOf, there, deleted, AreOld, Checkpoints, only}
use Rattle.mt_laws.specs.Names.{IsLowest}
use Rattle.mt_laws.specs.Writing.{Slot, writing, sealed, coming, going, gone, IsLogReached, IsRead, Server, with_slot, append, hand_out, told_synced, tell_client, seal, begin_segment, told_created, count_up, checkpoint as read_checkpoint, stand_on, delete, told_deleted, IsCrashOf, Called, new_server, called}
use Rattle.mt_laws.proofs.Living.{left_whole}
use Rattle.mt_laws.proofs.SomeLife.{only_one, of_two, update_in, walk, checkpoint, sound, part_text, stood, parts_left}

-- ---- writers

abbrev begin : Header → ℕ → NewFile
begin header mark = record { bytes = header_bytes header ++ block (mark_in header) (spelling (mark_of mark)); header = header; mark = mark }

abbrev created : Header → ℕ → Writer
created header mark = record {
  mark = Some (mark_in header);
  buffer = [];
  last = mark;
  taken = mark;
  reach = mark;
  size = 37;
  taken_size = 37;
  synced_size = 37;
  frames = 40;
  segment = (text_head header).segment;
  failed = false;
}

-- the writer after a record
abbrev with_record : Writer → Logged → Writer
with_record w r = record w { buffer = w.buffer ++ spelling r; last = r.timestamp; size = w.size + length (spelling r) }

keeps_record : (w : Writer) (j : Journal) (r : Logged) → Keeps w j → IsLawful widest r → w.last ≤ r.timestamp → Keeps (with_record w r) (holding j r)
keeps_record w j r keeps lawful rises = held_more w (with_record w r) j r w.mark (w.buffer ++ spelling r) (w.size + length (spelling r)) keeps lawful rises refl refl refl

-- and after a mark that is synced
abbrev taken_mark : Writer → ℕ → Writer
taken_mark w time = let more = with_record w (mark_of time) in record more { buffer = []; taken = time; taken_size = more.size }

abbrev synced_mark : Writer → ℕ → Writer
synced_mark w time = let more = taken_mark w time in record more { reach = time; synced_size = more.taken_size }

abbrev marked : Journal → ℕ → Journal
marked j time = syncing (taking (holding j (mark_of time)))

-- a mark is written and synced
record IsMarked (s : Server) (front back : List Slot) (w : Writer) (j : Journal) (time : ℕ) : Type 0 where
  so_far : Called (with_slot s front (writing (marked j time)) back)
  keeps : Keeps (synced_mark w time) (marked j time)

mark_synced : (s : Server) (front back : List Slot) (w : Writer) (j : Journal) (time : ℕ) → Called (with_slot s front (writing j) back) → Keeps w j → time < 2 ^ 64
    → w.last ≤ time → IsMarked s front back w j time
mark_synced s front back w j time so_far keeps fits rises =
    let held = holding j (mark_of time) in
    let keeps_held = keeps_record w j (mark_of time) keeps (fits, tt) rises in
    let keeps_taken = taken_all (with_record w (mark_of time)) (taken_mark w time) held keeps_held refl refl refl refl refl refl refl refl in
    let keeps_synced = synced_all (taken_mark w time) (synced_mark w time) (taking held) keeps_taken refl in
    let a = called (with_slot s front (writing j) back) (with_slot s front (writing held) back) so_far (append s front back (with_record w (mark_of time)) j (mark_of time) keeps_held tt) in
    let b = called (with_slot s front (writing held) back) (with_slot s front (writing (taking held)) back) a (hand_out s front back (taken_mark w time) held keeps_taken) in record {
      so_far = called (with_slot s front (writing (taking held)) back) (with_slot s front (writing (marked j time)) back) b
          (told_synced s front back (taken_mark w time) (synced_mark w time) (taking held) keeps_taken keeps_synced);
      keeps = keeps_synced;
    }

-- ---- two segments: a mark at 0, a put at 1 and a mark at 2; then marks at 2 and 3

abbrev header : Header
header = record { salt = 0; worker = 1; segment = 1; workers = 1; from = 0 }

abbrev next_header : Header
next_header = record { salt = 1; worker = 1; segment = 2; workers = 1; from = 2 }

abbrev head : Head
head = segment_head 0 1 1

abbrev next_head : Head
next_head = segment_head 2 1 2

begins : Begins (begin header 0) head
begins = record {
  text = refl;
  is_header = record { salt = omega arith; worker = omega arith; segment = omega arith; workers = omega arith; from = omega arith };
  claim = omega arith;
  fits = omega arith;
  bytes = refl;
}

next_begins : Begins (begin next_header 2) next_head
next_begins = record {
  text = refl;
  is_header = record { salt = omega arith; worker = omega arith; segment = omega arith; workers = omega arith; from = omega arith };
  claim = omega arith;
  fits = omega arith;
  bytes = refl;
}

keeps_new : Keeps (created header 0) (begun head 0)
keeps_new = begun_keeps (begin header 0) (created header 0) head begins refl

keeps_next : Keeps (created next_header 2) (begun next_head 2)
keeps_next = begun_keeps (begin next_header 2) (created next_header 2) next_head next_begins refl

abbrev put : Logged
put = put_of 1 1 [] ((0, []) ∷ [])

put_lawful : IsLawful widest put
put_lawful = (omega arith, (record { version = omega arith; version_fits = omega arith; key = omega arith; kind = ((((omega arith, omega arith), tt), (omega arith, tt)), omega arith) }, tt))

abbrev with_put : Journal
with_put = holding (begun head 0) put

abbrev put_writer : Writer
put_writer = with_record (created header 0) put

keeps_put : Keeps put_writer with_put
keeps_put = keeps_record (created header 0) (begun head 0) put keeps_new put_lawful (omega arith)

abbrev old : Journal
old = marked with_put 2

abbrev new : Journal
new = marked (begun next_head 2) 3

abbrev update : Update
update = update_in 1

-- ---- servers

abbrev places_of : List Slot → List ℕ
places_of [] = []
places_of (x ∷ []) = 0 ∷ []
places_of (x ∷ y ∷ slots) = 0 ∷ 1 ∷ []

-- with two files at the most
abbrev server : ℕ → List Update → List Slot → Checkpoints → Server
server clock acked slots checkpoints = record { clock = clock; acked = acked; slots = slots; places = places_of slots; checkpoints = checkpoints }

abbrev acked : List Update
acked = update ∷ []

abbrev slots : List Slot
slots = sealed old ∷ writing new ∷ []

-- the put is acknowledged
record IsOld : Type 0 where
  so_far : Called (server 1 acked (writing old ∷ []) (only None))
  keeps : Keeps (synced_mark put_writer 2) old

old_server : IsOld
old_server =
    let a = new_server (created header 0) (begin header 0) head keeps_new refl in
    let b = called (server 0 [] (writing (begun head 0) ∷ []) (only None)) (server 1 [] (writing with_put ∷ []) (only None)) a
    (append (server 0 [] (writing (begun head 0) ∷ []) (only None)) [] [] put_writer (begun head 0) put keeps_put (refl, omega arith)) in
    let c = mark_synced (server 1 [] (writing with_put ∷ []) (only None)) [] [] put_writer with_put 2 b keeps_put (omega arith) (omega arith) in
    let is : IsReached 2 (file_of old) = reached (synced_mark put_writer 2) old c.keeps in
    let now = server 1 [] (writing old ∷ []) (only None) in record {
      so_far = called now (server 1 acked (writing old ∷ []) (only None)) c.so_far
          (tell_client now update 2 (head_in update []) (λ file at. record { last = file; stands = at; of_log = inl refl; reached = subst (IsReached 2) (only_one (file_of old) file at) is }) (omega arith));
      keeps = c.keeps;
    }

-- the next segment follows
record IsNext : Type 0 where
  so_far : Called (server 1 acked (sealed old ∷ writing new ∷ []) (only None))
  keeps : Keeps (synced_mark (created next_header 2) 3) new

not_behind : IsBehind (file_of old) (file_of old) → ⊥
not_behind is = let less : 1 < 1 = is.1 in omega (arith, less)

is_sealed : IsSealed 2 1 1 old
is_sealed = record {
  segment = refl;
  whole = refl;
  reached = reached (synced_mark put_writer 2) old old_server.keeps;
  times = times_below (synced_mark put_writer 2) old old_server.keeps;
}

next_server : IsNext
next_server =
    let one = server 1 acked (writing old ∷ []) (only None) in
    let shut = server 1 acked (sealed old ∷ []) (only None) in
    let a = called one shut old_server.so_far (seal one [] [] old refl) in
    let b = called shut (server 1 acked (sealed old ∷ coming (begun next_head 2) ∷ []) (only None)) a
    (begin_segment shut (created next_header 2) (begin next_header 2) old 2 1 1 (head_in (sealed old) []) is_sealed
    (λ other at behind. not_behind (subst (IsBehind (file_of old)) (sym (only_one (file_of old) other at)) behind)) keeps_next next_begins refl) in
    let c = called (server 1 acked (sealed old ∷ coming (begun next_head 2) ∷ []) (only None)) (server 1 acked (sealed old ∷ writing (begun next_head 2) ∷ []) (only None)) b
    (told_created (server 1 acked slots (only None)) (sealed old ∷ []) [] (begun next_head 2)) in
    let d = mark_synced (server 1 acked slots (only None)) (sealed old ∷ []) [] (created next_header 2) (begun next_head 2) 3 c keeps_next (omega arith) (omega arith) in
    record { so_far = d.so_far; keeps = d.keeps }

-- ---- the checkpoint

is_read : IsRead acked checkpoint
is_read = record {
  entries = λ entry at.
      let is = (sound 1).entries entry at in
      record { whole = is.whole; seen = is.seen.before; by_end = subst (λ (e : Change). e.version ≤ 2) (only_one _ entry at) (omega arith); columns = is.columns };
  others = λ key none. record {
    version = 1;
    seen = λ u at same early. subst (λ (w : Update). w.stamp.version ≤ 1) (only_one update u at) (omega arith);
    by_end = omega arith;
    no_column = λ number bytes column.
        let pair = ((walk 1).exact key number bytes).1 column in
        none _ (head_in _ []) (ap (λ (p : Pair). p.0) (only_one ([], (0, []) ∷ []) (key, pair.0) pair.1));
  };
}

all_reached : (file : OpenFile) → Contains (file_of old ∷ file_of new ∷ []) file → IsLogReached 3 (file_of old ∷ file_of new ∷ []) file
all_reached file at = of_two (IsLogReached 3 files) (file_of old) (file_of new) file (by (file_of old) (inr (refl, omega arith))) (by (file_of new) (inl refl)) at
  where
    files : List OpenFile
    files = file_of old ∷ file_of new ∷ []

    by : (x : OpenFile) → (x ≡ file_of new) ⊎ IsBehind x (file_of new) → IsLogReached 3 files x
    by x of_log = record {
      last = file_of new;
      stands = tail_in (file_of old) (file_of new) (file_of new ∷ []) (head_in (file_of new) []);
      of_log = of_log;
      reached = reached (synced_mark (created next_header 2) 3) new next_server.keeps;
    }

stood_server : Called (server 2 acked slots stood)
stood_server =
    let one = server 1 acked slots (only None) in
    let two = server 2 acked slots (only None) in
    let written : Checkpoints = record { written = checkpoint ∷ []; base = None } in
    let a = called one two next_server.so_far (count_up one) in
    let b = called two (server 2 acked slots written) a (read_checkpoint two checkpoint is_read (omega arith) (omega arith) (λ c at. absurd (no_element c at))) in
    called (server 2 acked slots written) (server 2 acked slots stood) b (stand_on (server 2 acked slots written) checkpoint 3 (head_in checkpoint []) (omega arith) all_reached (omega arith))

-- ---- the old segment is deleted

is_old : AreOld 2 (records_of old)
is_old r at change = elim (head_or_tail (mark_of 0) r (put ∷ mark_of 2 ∷ []) at) as (λ _. r.timestamp < 2) [
  | inl e ↦ absurd (true≢false (ap is_mark e ∙ change))
  | inr later ↦ of_two (λ (x : Logged). is_mark x ≡ false → x.timestamp < 2) put (mark_of 2) r (λ _. omega arith) (λ none. absurd (true≢false none)) later change
]

is_lowest : IsLowest 2 (file_of old ∷ file_of new ∷ []) (file_of old)
is_lowest = record {
  first = λ file at. of_two (λ (x : OpenFile). IsBehind x (file_of old) → ⊥) (file_of old) (file_of new) file not_behind (λ is. let less : 2 < 1 = is.1 in omega (arith, less)) at;
  next = λ file at _. of_two (λ (x : OpenFile). x.head.from ≤ 2) (file_of old) (file_of new) file (omega arith) (omega arith) at;
}

deleted_server : Called (server 2 acked (gone (records_of old) ∷ writing new ∷ []) stood)
deleted_server =
    let s = server 2 acked slots stood in
    let a = called (server 2 acked slots stood) (server 2 acked (going old ∷ writing new ∷ []) stood) stood_server
    (delete s [] (writing new ∷ []) old new is_old is_lowest (inl (head_in (writing new) []))) in
    called (server 2 acked (going old ∷ writing new ∷ []) stood) (server 2 acked (gone (records_of old) ∷ writing new ∷ []) stood) a
    (told_deleted s [] (writing new ∷ []) old)

-- The server acknowledges a put, begins a segment, writes a checkpoint and stands on it, deletes the old segment, and crashes.
abbrev pub SomeCalls : Type 0
SomeCalls = (s : Server) × (u : Update) × (records : List Logged) × Contains s.acked u × Contains (log_updates (records ∷ [])) u × Contains s.slots (gone records)
    × Called s × (names : List (LogOf OpenFile)) × (left parts : List (List ℕ)) × IsCrashOf s names left parts

pub some_calls : SomeCalls
some_calls =
    let whole = left_whole (file_of new ∷ []) (file_of new) (opens (synced_mark (created next_header 2) 3) new next_server.keeps).is_reading refl in (
      server 2 acked (gone (records_of old) ∷ writing new ∷ []) stood,
      update,
      records_of old,
      head_in update [],
      head_in update [],
      head_in (gone (records_of old)) (writing new ∷ []),
      deleted_server,
      deleted (records_of old) ∷ there (file_of new) ∷ [],
      file_bytes (file_of new) ∷ [],
      part_text ∷ [],
      record { each = (refl, (refl, tt)); cuts = (whole, tt); of_parts = parts_left },
    )
