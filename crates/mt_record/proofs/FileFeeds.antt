-- What the feed of a log was fed, whatever the kind of its file.
use Rattle.std.proofs.lemmas.Option.{none-some}
use Rattle.std.proofs.Common.{◌≡◌, ◌≢◌, ◌⊎◌, inl, inr, ℕ, ◌+◌, ◌-◌, ◌<◌, ◌≤◌, Bool, true, false, Option, Some, None, List, [], ◌∷◌, ◌++◌, length, refl, sym, ap, ◌∙◌, subst, append_assoc, arith}
use Rattle.std.specs.Prelude.{codes, MatchOption, MatchBool, IsTrue, Result, Err}
use Rattle.std.specs.Option.{ok_or}
use Rattle.std.specs.List.{flat_map}
use Rattle.std.proofs.lemmas.Bool.{false≢true}
use Rattle.std.proofs.lemmas.List.{length-append, append-nil}
use Rattle.mt_words.specs.declared.fault.What.{What}
use Rattle.mt_words.specs.declared.fault.What.TheVariants.{Checksum}
use Rattle.mt_words.specs.Limits.{limits_of}
use Rattle.mt_words.specs.Changes.{Logged}
use Rattle.mt_block.specs.declared.header.Header.{Header}
use Rattle.mt_block.specs.Blocks.{IsHeader, header_bytes, mark_of, IsTornEnd, IsDamage, blocks, Begins}
use Rattle.mt_block.proofs.Heads.{same_split}
use Rattle.mt_block.proofs.Files.{cut_at}
use Rattle.mt_record.specs.declared.read.FeedFault.{FeedFault}
use Rattle.mt_record.specs.declared.read.FeedFault.TheVariants as faults
use Rattle.mt_record.specs.declared.feed.head.Head.{Head}
use Rattle.mt_record.specs.declared.feed.file_feed.FileKind.{FileKind}
use Rattle.mt_record.specs.declared.feed.file_feed.FileKind.TheVariants as kinds
use Rattle.mt_record.specs.declared.front.LogFront.{LogFront}
use Rattle.mt_record.specs.declared.front.Rest.{Rest}
use Rattle.mt_record.specs.declared.front.Rest.TheVariants.{Nothing, Torn, Faulty}
use Rattle.mt_record.specs.Spelling.{spelling}
use Rattle.mt_record.specs.Heads.{IsHead, head_bytes}
use Rattle.mt_record.specs.Opening.{IsSealed, HasNoSeal, text_head, joined, text_of, is_torn, IsDamagedAfter, Opens, OpensSoFar}
use Rattle.mt_record.specs.Logs.{IsTorn, count_of}
use Rattle.mt_record.specs.LogTexts.{front_of}
use Rattle.mt_record.specs.LogFaults.{IsLogFault}
use Rattle.mt_record.specs.LogFronts.{IsFrontOf}
use Rattle.mt_record.specs.Feeding.{HasRead, HoldsAll, HasShown, IsFedBy}
use Rattle.mt_record.specs.Unsealing.{Place, FileSoFar, IsPassed, HasPassed, HoldsBlocks, AreBlocksLeft, AreBlocksFaulty, IsUntold, ShowsNoSeal, IsPlain, IsFedBlocks, IsFedAs}
use Rattle.mt_record.specs.LogFeeding.{LogSoFar, ShowsFault, IsShown, IsHeaderShown, ShowsNoFault, IsReadTo, HoldsLog, IsLogLeft, IsLogFaulty, FedLog, count_read, damage_after, IsMemory, IsTextFed, IsLogFed, IsAllRead}
use Rattle.mt_record.proofs.Beginnings.{head_long}
use Rattle.mt_record.proofs.Feeds.{behind_on, fed_on}
use Rattle.mt_record.proofs.Records.{torn_some}
use Rattle.mt_record.proofs.Opened.{head_not_sealed, header_sealed, header-length, begins_sealed, blocks_long, plain_front}
use Rattle.mt_record.proofs.OneReading.{not_both}
use Rattle.mt_record.proofs.Unsealing.{end_of, damage_of, broken_some}
use Rattle.mt_record.proofs.LogFeeds.{begun, no_head_read, front_is, front_faulty, ShowsInText, text_shows, text_shows_none, log_read}

-- ---- kinds of files

plain_now : (bytes : List ℕ) → IsPlain bytes → IsSealed bytes → ⊥
plain_now bytes plain sealed = plain [] (subst IsSealed (sym (append-nil bytes)) sealed)

pub plain_on : (bytes more : List ℕ) → IsPlain bytes → IsPlain (bytes ++ more)
plain_on bytes more plain m sealed = plain (more ++ m) (subst IsSealed (append_assoc bytes more m) sealed)

sealed_on : (bytes more : List ℕ) → IsSealed bytes → IsSealed (bytes ++ more)
sealed_on bytes more sealed = record { more = sealed.more ++ more; spelled = behind_on (codes "MTL4") bytes sealed.more more sealed.spelled }

-- bytes that are enough for a header of format 4 have none, whatever follows
no_seal_on : (bytes more : List ℕ) → 44 ≤ length bytes → HasNoSeal bytes → HasNoSeal (bytes ++ more)
no_seal_on bytes more long none header after is e =
    let c = cut_at 44 bytes long in
    let s = same_split c.front (header_bytes header) (c.back ++ more) after (c.size ∙ sym (header-length header)) (sym (append_assoc c.front c.back more) ∙ ap (λ (l : List ℕ). l ++ more) (sym c.spelled) ∙ e) in
    none header c.back is (c.spelled ∙ ap (λ (l : List ℕ). l ++ c.back) s.0)

pub shows_no_seal_on : (bytes more : List ℕ) → ShowsNoSeal bytes → ShowsNoSeal (bytes ++ more)
shows_no_seal_on bytes more (sealed, long, none) = (sealed_on bytes more sealed, omega (arith, length-append bytes more, long), no_seal_on bytes more long none)

header_shown_on : (bytes more : List ℕ) (fault : FeedFault) → IsHeaderShown bytes fault → IsHeaderShown (bytes ++ more) fault
header_shown_on bytes more fault (inl memory) = inl memory
header_shown_on bytes more fault (inr (same, shows)) = inr (same, shows_no_seal_on bytes more shows)

pub untold_short : (bytes : List ℕ) → IsUntold bytes → length bytes < 44
untold_short bytes (inl (more, e, some)) = omega (arith, ap length e, length-append bytes more, some)
untold_short bytes (inr few) = few.1

-- bytes that do not tell what they are do not begin with a header
untold_no_header : (bytes : List ℕ) (head : Head) (more : List ℕ) → IsUntold bytes → bytes ≡ head_bytes head ++ more → ⊥
untold_no_header bytes head more (inr (sealed, few)) e = head_not_sealed bytes head more e sealed
untold_no_header bytes head more (inl (lost, spelled, some)) e =
    head_not_sealed (codes "MTL4") head (more ++ lost) (spelled ∙ behind_on (head_bytes head) bytes more lost e) (record { more = []; spelled = refl })

untold_no_seal : (bytes : List ℕ) → IsUntold bytes → HasNoSeal bytes
untold_no_seal bytes untold header more is e = omega (arith, untold_short bytes untold, ap length e, length-append (header_bytes header) more, header-length header)

untold_not_plain : (bytes : List ℕ) → IsUntold bytes → IsPlain bytes → ⊥
untold_not_plain bytes (inl (more, e, some)) plain = plain more (record { more = []; spelled = sym e })
untold_not_plain bytes (inr (sealed, few)) plain = plain_now bytes plain sealed

-- ---- what was read of the text

-- with a fault or without, a feed has read a front of its text
pub text_front_read : (taken : List Logged) (s : LogSoFar) (held : List ℕ) (fault : Option FeedFault) (text : List ℕ) → IsTextFed taken s held fault text → (front rest : List ℕ) × (text ≡ front ++ rest) × HoldsLog taken s front
text_front_read taken s held None text fed = let all = fed.0 refl in (all.0.front, held, all.0.joins, all.0.read)
text_front_read taken s held (Some fault) text fed = let shown = fed.1 fault refl in (shown.read.front, shown.shown ++ shown.more, shown.read.joins, shown.read.read)

-- with a fault or without, the bytes behind a header are blocks, and then others
pub record HasBlocks (is_fed : List ℕ → Type 0) (header : Header) (bytes : List ℕ) : Type 0 where
  pub bodies : List (List ℕ)
  pub rest : List ℕ
  pub begins : Begins bytes header bodies rest
  pub fed : is_fed (text_of header bodies)

blocks_begin : (is_fed : List ℕ → Type 0) (place : Place) (header : Header) (bytes behind front rest : List ℕ) → IsHeader header → bytes ≡ header_bytes header ++ behind → behind ≡ front ++ rest
    → (h : HoldsBlocks is_fed place (head_bytes (text_head header)) (mark_of header) front) → Begins bytes header h.bodies (h.skipped ++ rest)
blocks_begin is_fed place header bytes behind front rest is spelled joins h = record {
  spelled = spelled
      ∙ ap (λ (l : List ℕ). header_bytes header ++ l) (joins ∙ behind_on (blocks place.mark h.bodies) front h.skipped rest h.spelled ∙ ap (λ (m : ℕ). blocks m h.bodies ++ (h.skipped ++ rest)) h.same);
  is_header = is;
  are_bodies = h.are_bodies;
}

pub has_blocks : (is_fed : List ℕ → Type 0) (damage : FeedFault) (file : FileSoFar FeedFault) (fault : Option FeedFault) (bytes : List ℕ) → (fed : IsFedBlocks is_fed damage IsMemory file fault bytes) → HasBlocks is_fed fed.header bytes
has_blocks is_fed damage file None bytes fed =
    let all = fed.fed.0 refl in
    record {
      bodies = all.0.read.bodies;
      rest = all.0.read.skipped ++ file.held;
      begins = blocks_begin is_fed file.place fed.header bytes fed.behind all.0.front file.held fed.is_header fed.spelled all.0.joins all.0.read;
      fed = all.0.read.fed;
    }
has_blocks is_fed damage file (Some fault) bytes fed =
    let shown = fed.fed.1 fault refl in
    record {
      bodies = shown.read.read.bodies;
      rest = shown.read.read.skipped ++ (shown.shown ++ shown.more);
      begins = blocks_begin is_fed file.place fed.header bytes fed.behind shown.read.front (shown.shown ++ shown.more) fed.is_header fed.spelled shown.read.joins shown.read.read;
      fed = shown.read.read.fed;
    }

-- with a fault or without, a feed has read a front of the text, no longer than the bytes
pub has_read : (feed : FedLog) (bytes : List ℕ) (taken : List Logged) → IsLogFed feed bytes taken → (front : List ℕ) × HoldsLog taken feed.so_far front × (length front ≤ length bytes)
has_read feed bytes taken = by feed.file.kind
  where
    by : (kind : FileKind) → IsFedAs kind (IsTextFed taken feed.so_far feed.held) (damage_after feed.so_far) IsHeaderShown IsMemory feed.file feed.fault bytes
        → (front : List ℕ) × HoldsLog taken feed.so_far front × (length front ≤ length bytes)
    by kinds.Untold fed =
        let (front, rest, joins, read) = text_front_read taken feed.so_far feed.held feed.file.fault [] fed.fed in
        (front, read, omega (arith, ap length joins, length-append front rest))
    by kinds.Plain (plain, fed) =
        let (front, rest, joins, read) = text_front_read taken feed.so_far feed.held feed.fault bytes fed in
        (front, read, omega (arith, ap length joins, length-append front rest))
    by kinds.Blocks fed =
        let has = has_blocks (IsTextFed taken feed.so_far feed.held feed.file.fault) (damage_after feed.so_far) feed.file feed.fault bytes fed in
        let (front, rest, joins, read) = text_front_read taken feed.so_far feed.held feed.file.fault (text_of fed.header has.bodies) has.fed in
        let long = blocks_long bytes fed.header has.bodies has.rest has.begins in
        (front, read, omega (arith, ap length joins, length-append front rest, long))

-- ---- steps of a caller

-- the records that are ready may be taken
pub taken_on : (feed : FedLog) (bytes : List ℕ) (taken : List Logged) → IsLogFed feed bytes taken
    → IsLogFed (record feed { so_far = record feed.so_far { ready = [] } }) bytes (taken ++ feed.so_far.ready)
taken_on feed bytes taken fed =
    subst (λ (rs : List Logged). IsFedAs feed.file.kind
    (λ fault text. IsFedBy {I = LogSoFar} (λ s read. MatchOption s.front ((read ≡ []) × (rs ≡ [])) (λ front. IsReadTo front rs read)) IsLogLeft IsLogFaulty feed.so_far feed.held fault text)
    (damage_after feed.so_far) IsHeaderShown IsMemory feed.file feed.fault bytes) (sym (append-nil (taken ++ feed.so_far.ready))) fed

-- the same for other names of these records
pub taken_as : (feed : FedLog) (bytes : List ℕ) (taken ready taking : List Logged) → IsLogFed feed bytes taken → ready ≡ [] → taking ≡ feed.so_far.ready
    → IsLogFed (record feed { so_far = record feed.so_far { ready = ready } }) bytes (taken ++ taking)
taken_as feed bytes taken ready taking fed none same =
    subst (λ (p : List Logged × List Logged). IsLogFed (record feed { so_far = record feed.so_far { ready = p.0 } }) bytes (taken ++ p.1)) (λ i. (sym none i, sym same i)) (taken_on feed bytes taken fed)

-- a feed that has a fault counts as fed with any bytes that follow
pub log_fed_on : (feed : FedLog) (fault : FeedFault) (bytes more : List ℕ) (taken : List Logged) → feed.fault ≡ Some fault → IsLogFed feed bytes taken → IsLogFed feed (bytes ++ more) taken
log_fed_on feed fault bytes more taken failed = by feed.file.kind
  where
    by : (kind : FileKind) → IsFedAs kind (IsTextFed taken feed.so_far feed.held) (damage_after feed.so_far) IsHeaderShown IsMemory feed.file feed.fault bytes
        → IsFedAs kind (IsTextFed taken feed.so_far feed.held) (damage_after feed.so_far) IsHeaderShown IsMemory feed.file feed.fault (bytes ++ more)
    by kinds.Untold fed = record {
      fed = fed.fed;
      sound = fed.sound;
      first = fed.first;
      held = λ none. absurd (none-some fault (sym none ∙ failed));
      shown = λ answer is. header_shown_on bytes more answer (fed.shown answer is);
    }
    by kinds.Plain (plain, fed) = (plain_on bytes more plain, fed_on (HoldsLog taken) IsLogLeft IsLogFaulty feed.so_far feed.held feed.fault fault bytes more failed fed)
    by kinds.Blocks fed = record {
      header = fed.header;
      behind = fed.behind ++ more;
      is_header = fed.is_header;
      spelled = behind_on (header_bytes fed.header) bytes fed.behind more fed.spelled;
      fed = fed_on {I = Place} (λ place. HoldsBlocks (IsTextFed taken feed.so_far feed.held feed.file.fault) place (head_bytes (text_head fed.header)) (mark_of fed.header)) (λ place. AreBlocksLeft feed.file.fault place)
          (λ place. AreBlocksFaulty (damage_after feed.so_far) IsMemory feed.file.fault place) feed.file.place feed.file.held feed.fault fault fed.behind more failed fed.fed;
    }

-- ---- a file without a fault

pub text_is_head : (header : Header) → IsHeader header → IsHead (text_head header)
text_is_head header is = record { from = is.from; segment = (refl, is.worker, is.segment) }

-- the header of the text was read
text_begun : (taken : List Logged) (s : LogSoFar) (held : List ℕ) (header : Header) (bodies : List (List ℕ)) → IsHeader header → HoldsAll (HoldsLog taken) IsLogLeft s held (text_of header bodies)
    → (front : LogFront) × (s.front ≡ Some front)
text_begun taken s held header bodies is all = by s.front refl
  where
    by : (o : Option LogFront) → s.front ≡ o → (front : LogFront) × (s.front ≡ Some front)
    by None none = absurd (no_head_read taken s (text_of header bodies) held none all (text_head header) (joined bodies) (text_is_head header is) refl)
    by (Some front) some = (front, some)

-- what a feed without a fault has read of a file of format 4
record IsWholeText (taken : List Logged) (s : LogSoFar) (held : List ℕ) (file : FileSoFar FeedFault) (bytes : List ℕ) : Type 0 where
  text : List ℕ
  ended : Bool
  opens : Opens bytes text ended
  front : LogFront
  some : s.front ≡ Some front
  all : HoldsAll (HoldsLog taken) IsLogLeft s held text
  whole : (file.held ≡ []) × (file.place.searching ≡ false) → ended ≡ false
  torn : ended ≡ false → (file.held ≡ []) × (file.place.searching ≡ false)

left_nil : (a b : List ℕ) → a ++ b ≡ [] → (a ≡ []) × (b ≡ [])
left_nil [] b e = (refl, e)
left_nil (x ∷ xs) b e = absurd (omega (arith, ap length e))

not_torn : (end : List ℕ) → is_torn end ≡ false → end ≡ []
not_torn [] e = refl
not_torn (x ∷ xs) e = absurd (false≢true (sym e))

whole_text : (taken : List Logged) (s : LogSoFar) (held : List ℕ) (damage : FeedFault) (file : FileSoFar FeedFault) (fault : Option FeedFault) (bytes : List ℕ) → fault ≡ None
    → IsFedBlocks (IsTextFed taken s held file.fault) damage IsMemory file fault bytes → IsWholeText taken s held file bytes
whole_text taken s held damage file fault bytes none fed =
    let all = fed.fed.0 none in
    let h = all.0.read in
    let inner = h.fed.0 all.1.0 in
    let read = text_begun taken s held fed.header h.bodies fed.is_header inner in
    let end = h.skipped ++ file.held in
    record {
      text = text_of fed.header h.bodies;
      ended = is_torn end;
      opens = inr (record {
        header = fed.header;
        bodies = h.bodies;
        end = end;
        is_file = record {
          begins = blocks_begin (IsTextFed taken s held file.fault) file.place fed.header bytes fed.behind all.0.front file.held fed.is_header fed.spelled all.0.joins h;
          ends = subst (λ (m : ℕ). (end ≡ []) ⊎ IsTornEnd m end) h.same (end_of file.place h.skipped file.held h.passed all.1.1);
        };
        is_text = refl;
        ends = refl;
      });
      front = read.0;
      some = read.1;
      all = inner;
      whole = λ is. ap is_torn (nothing_left h.skipped h.passed is);
      torn = λ e. nothing_passed h.skipped h.passed (not_torn end e);
    }
  where
    nothing_left : (skipped : List ℕ) → HasPassed file.place skipped → (file.held ≡ []) × (file.place.searching ≡ false) → skipped ++ file.held ≡ []
    nothing_left skipped passed is =
        let empty : (skipped ≡ []) × (file.place.seam ≡ []) = subst (λ (x : Bool). MatchBool x (IsPassed file.place.mark skipped file.place.seam) ((skipped ≡ []) × (file.place.seam ≡ []))) is.1 passed in
        λ i. empty.0 i ++ is.0 i

    nothing_passed : (skipped : List ℕ) → HasPassed file.place skipped → skipped ++ file.held ≡ [] → (file.held ≡ []) × (file.place.searching ≡ false)
    nothing_passed skipped passed e = ((left_nil skipped file.held e).1, by file.place.searching passed)
      where
        by : (searching : Bool) → MatchBool searching (IsPassed file.place.mark skipped file.place.seam) ((skipped ≡ []) × (file.place.seam ≡ [])) → searching ≡ false
        by false passed = refl
        by true passed = absurd (omega (arith, ap length (left_nil skipped file.held e).0, broken_some file.place.mark skipped passed.behind passed.broken))

own_whole : (bytes : List ℕ) → IsPlain bytes → Opens bytes bytes false
own_whole bytes plain = inl ((plain_now bytes plain, refl), refl)

-- a file whose text is a log has no fault
no_fault_of : (bytes text : List ℕ) (ended : Bool) (taken : List Logged) (s : LogSoFar) (front : LogFront) (held : List ℕ) → Opens bytes text ended → s.front ≡ Some front → HoldsAll (HoldsLog taken) IsLogLeft s held text
    → (fault : FeedFault) → IsLogFault bytes fault → ⊥
no_fault_of bytes text ended taken s front held opens some all fault h = by ended refl (log_read taken s front held text some all).ends
  where
    with_torn : (torn : Bool) → (IsTrue torn → IsTrue ended ⊎ IsTorn (limits_of front.head.format) held) → (IsTrue ended ⊎ IsTorn (limits_of front.head.format) held → IsTrue torn) → ⊥
    with_torn torn there back =
        not_both bytes (record { head = front.head; records = taken ++ s.ready; torn = torn }) fault
        (record { text = text; ended = ended; opens = opens; tail = held; is_log = log_read taken s front held text some all; torn = (there, back) }) h

    neither : ended ≡ false → held ≡ [] → IsTrue ended ⊎ IsTorn (limits_of front.head.format) held → IsTrue false
    neither e none (inl is_ended) = absurd (false≢true (sym e ∙ is_ended))
    neither e none (inr torn) = absurd (omega (arith, ap length none, torn_some (limits_of front.head.format) held torn))

    by : (b : Bool) → ended ≡ b → (held ≡ []) ⊎ IsTorn (limits_of front.head.format) held → ⊥
    by true e ends = with_torn true (λ _. inl e) (λ _. refl)
    by false e (inr torn) = with_torn true (λ _. inr torn) (λ _. refl)
    by false e (inl none) = with_torn false (λ not. absurd (false≢true not)) (neither e none)

untold_shows_none : (bytes : List ℕ) → IsUntold bytes → ShowsNoFault bytes
untold_shows_none bytes untold faults.Header (inl (plain, none)) = untold_not_plain bytes untold plain
untold_shows_none bytes untold faults.Header (inr (sealed, long, none)) = omega (arith, long, untold_short bytes untold)
untold_shows_none bytes untold faults.Memory h = h
untold_shows_none bytes untold (faults.Record nth what) (inr (same, h)) =
    let d = h.is_damaged in
    untold_no_seal bytes untold d.header (blocks (mark_of d.header) d.bodies ++ d.is_damaged.rest) d.is_damaged.begins.is_header d.is_damaged.begins.spelled
untold_shows_none bytes untold (faults.Record nth what) (inl h) = by h.opens
  where
    by : OpensSoFar bytes h.text → ⊥
    by (inl own) = untold_no_header bytes h.fault.fault.head (flat_map spelling h.fault.records ++ h.fault.fault.rest) untold (sym own.1 ∙ h.fault.fault.spelled)
    by (inr so_far) = untold_no_seal bytes untold so_far.header (blocks (mark_of so_far.header) so_far.bodies ++ so_far.rest) so_far.begins.is_header so_far.begins.spelled

plain_shows_none : (bytes : List ℕ) → IsPlain bytes → ((fault : FeedFault) → ShowsInText bytes fault → ⊥) → ShowsNoFault bytes
plain_shows_none bytes plain none faults.Header (inl (too, shows)) = none faults.Header shows
plain_shows_none bytes plain none faults.Header (inr (sealed, long, no_seal)) = plain_now bytes plain sealed
plain_shows_none bytes plain none faults.Memory h = h
plain_shows_none bytes plain none (faults.Record nth what) (inr (same, h)) =
    let d = h.is_damaged in plain_now bytes plain (begins_sealed bytes d.header d.bodies d.is_damaged.rest d.is_damaged.begins)
plain_shows_none bytes plain none (faults.Record nth what) (inl h) = by h.opens
  where
    by : OpensSoFar bytes h.text → ⊥
    by (inl own) = none (faults.Record nth what) (subst (λ (text : List ℕ). ShowsInText text (faults.Record nth what)) own.1 h.fault)
    by (inr so_far) = plain_now bytes plain (begins_sealed bytes so_far.header so_far.bodies so_far.rest so_far.begins)

header_there_shows_none : (bytes : List ℕ) (header : Header) (behind : List ℕ) → IsHeader header → bytes ≡ header_bytes header ++ behind → ShowsFault bytes faults.Header → ⊥
header_there_shows_none bytes header behind is e (inl (plain, none)) = plain_now bytes plain (header_sealed bytes header behind e)
header_there_shows_none bytes header behind is e (inr (sealed, long, no_seal)) = no_seal header behind is e

-- the bytes of a feed without a fault show no fault
pub fed_shows_none : (feed : FedLog) (bytes : List ℕ) (taken : List Logged) → IsLogFed feed bytes taken → feed.fault ≡ None → ShowsNoFault bytes
fed_shows_none feed bytes taken fed none = by feed.file.kind fed
  where
    of_blocks : (fault : FeedFault) → IsFedBlocks (IsTextFed taken feed.so_far feed.held feed.file.fault) (damage_after feed.so_far) IsMemory feed.file feed.fault bytes → ShowsFault bytes fault → ⊥
    of_blocks faults.Header fed h = header_there_shows_none bytes fed.header fed.behind fed.is_header fed.spelled h
    of_blocks faults.Memory fed h = h
    of_blocks (faults.Record nth what) fed h =
        let w = whole_text taken feed.so_far feed.held (damage_after feed.so_far) feed.file feed.fault bytes none fed in
        no_fault_of bytes w.text w.ended taken feed.so_far w.front feed.held w.opens w.some w.all (faults.Record nth what) h

    by : (kind : FileKind) → IsFedAs kind (IsTextFed taken feed.so_far feed.held) (damage_after feed.so_far) IsHeaderShown IsMemory feed.file feed.fault bytes → ShowsNoFault bytes
    by kinds.Untold fed = untold_shows_none bytes (fed.held none).1
    by kinds.Plain (plain, fed) = plain_shows_none bytes plain (text_shows_none taken feed.so_far feed.held bytes (fed.0 none))
    by kinds.Blocks fed = λ fault h. of_blocks fault fed h

-- ---- a file with a fault

header_shown : (bytes : List ℕ) (fault : FeedFault) → IsHeaderShown bytes fault → IsShown bytes fault
header_shown bytes fault (inl memory) other = absurd (other memory)
header_shown bytes fault (inr (same, shows)) other = subst (ShowsFault bytes) (sym same) (inr shows)

plain_shows : (bytes : List ℕ) (fault : FeedFault) → IsPlain bytes → ShowsInText bytes fault → ShowsFault bytes fault
plain_shows bytes faults.Header plain h = inl (plain, h)
plain_shows bytes (faults.Record nth what) plain h = inl (record { text = bytes; opens = inl (plain_now bytes plain, refl); fault = h })
plain_shows bytes faults.Memory plain h = h

-- a fault of the text of the blocks so far is one of the file
blocks_show : (bytes : List ℕ) (header : Header) (bodies : List (List ℕ)) (rest : List ℕ) (fault : FeedFault) → Begins bytes header bodies rest → ShowsInText (text_of header bodies) fault → ShowsFault bytes fault
blocks_show bytes header bodies rest faults.Header begins h = absurd (h.0 (text_head header) (joined bodies) (text_is_head header begins.is_header) refl)
blocks_show bytes header bodies rest (faults.Record nth what) begins h =
    inl (record { text = text_of header bodies; opens = inr (record { header = header; bodies = bodies; rest = rest; begins = begins; is_text = refl }); fault = h })
blocks_show bytes header bodies rest faults.Memory begins h = h

-- what a feed with a fault has read of a file of format 4
record IsDamagedText (taken : List Logged) (s : LogSoFar) (held bytes : List ℕ) : Type 0 where
  text : List ℕ
  damaged : IsDamagedAfter bytes text
  front : LogFront
  some : s.front ≡ Some front
  all : HoldsAll (HoldsLog taken) IsLogLeft s held text

record IsFaultyText (taken : List Logged) (s : LogSoFar) (held bytes : List ℕ) (fault : FeedFault) : Type 0 where
  header : Header
  bodies : List (List ℕ)
  rest : List ℕ
  begins : Begins bytes header bodies rest
  fed : HasShown (HasRead (HoldsLog taken s) (text_of header bodies)) (IsLogFaulty s fault)

faulty_text : (taken : List Logged) (s : LogSoFar) (held : List ℕ) (damage : FeedFault) (file : FileSoFar FeedFault) (answered : Option FeedFault) (fault : FeedFault) (bytes : List ℕ) → answered ≡ Some fault
    → IsFedBlocks (IsTextFed taken s held file.fault) damage IsMemory file answered bytes
    → IsFaultyText taken s held bytes fault ⊎ (((fault ≡ damage) × IsDamagedText taken s held bytes) ⊎ IsMemory fault)
faulty_text taken s held damage file answered fault bytes is fed = by shown.fault
  where
    shown : HasShown (HasRead (HoldsBlocks (IsTextFed taken s held file.fault) file.place (head_bytes (text_head fed.header)) (mark_of fed.header)) fed.behind) (AreBlocksFaulty damage IsMemory file.fault file.place fault)
    shown = fed.fed.1 fault is

    begins : Begins bytes fed.header shown.read.read.bodies (shown.read.read.skipped ++ (shown.shown ++ shown.more))
    begins = blocks_begin (IsTextFed taken s held file.fault) file.place fed.header bytes fed.behind shown.read.front (shown.shown ++ shown.more) fed.is_header fed.spelled shown.read.joins shown.read.read

    by : AreBlocksFaulty damage IsMemory file.fault file.place fault shown.shown → IsFaultyText taken s held bytes fault ⊎ (((fault ≡ damage) × IsDamagedText taken s held bytes) ⊎ IsMemory fault)
    by (inl failed) = inl (record {
      header = fed.header;
      bodies = shown.read.read.bodies;
      rest = shown.read.read.skipped ++ (shown.shown ++ shown.more);
      begins = begins;
      fed = shown.read.read.fed.1 fault failed;
    })
    by (inr (inl (sound, same, damaged))) =
        let inner = shown.read.read.fed.0 sound in
        let read = text_begun taken s held fed.header shown.read.read.bodies fed.is_header inner in
        let rest = shown.read.read.skipped ++ (shown.shown ++ shown.more) in
        inr (inl (
          same,
          record {
            text = text_of fed.header shown.read.read.bodies;
            damaged = record {
              header = fed.header;
              bodies = shown.read.read.bodies;
              is_damaged = record {
                rest = rest;
                begins = begins;
                damage = subst (λ (m : ℕ). IsDamage m rest) shown.read.read.same (damage_of file.place shown.read.read.skipped shown.shown shown.more shown.read.read.passed damaged);
              };
              is_text = refl;
            };
            front = read.0;
            some = read.1;
            all = inner;
          },
        ))
    by (inr (inr memory)) = inr (inr memory)

-- the number of records that were read
count_is : (taken : List Logged) (s : LogSoFar) (front : LogFront) (text held : List ℕ) → s.front ≡ Some front → HasRead (HoldsLog taken s) text held → count_read s.front ≡ count_of (taken ++ s.ready)
count_is taken s front text held some reads = ap count_read some ∙ ap (λ (f : LogFront). f.count) (begun taken s front text held some reads).1.numbers

damage_shows : (taken : List Logged) (s : LogSoFar) (held bytes : List ℕ) → IsDamagedText taken s held bytes → ShowsFault bytes (damage_after s)
damage_shows taken s held bytes d = inr (
  refl,
  record {
    text = d.text;
    is_damaged = d.damaged;
    head = d.front.head;
    records = taken ++ s.ready;
    tail = held;
    is_log = log_read taken s d.front held d.text d.some d.all;
    number = count_is taken s d.front d.text held d.some d.all.0;
  },
)

-- the bytes of a feed that failed show its fault
pub fed_shows : (feed : FedLog) (fault : FeedFault) (bytes : List ℕ) (taken : List Logged) → IsLogFed feed bytes taken → feed.fault ≡ Some fault → IsShown bytes fault
fed_shows feed fault bytes taken fed is other = by feed.file.kind fed
  where
    of_blocks : IsFaultyText taken feed.so_far feed.held bytes fault ⊎ (((fault ≡ damage_after feed.so_far) × IsDamagedText taken feed.so_far feed.held bytes) ⊎ IsMemory fault) → ShowsFault bytes fault
    of_blocks (inl f) = blocks_show bytes f.header f.bodies f.rest fault f.begins (text_shows taken feed.so_far fault (text_of f.header f.bodies) f.fed other)
    of_blocks (inr (inl (same, d))) = subst (ShowsFault bytes) (sym same) (damage_shows taken feed.so_far feed.held bytes d)
    of_blocks (inr (inr memory)) = absurd (other memory.1)

    by : (kind : FileKind) → IsFedAs kind (IsTextFed taken feed.so_far feed.held) (damage_after feed.so_far) IsHeaderShown IsMemory feed.file feed.fault bytes → ShowsFault bytes fault
    by kinds.Untold fed = header_shown bytes fault (fed.shown fault is) other
    by kinds.Plain (plain, fed) = plain_shows bytes fault plain (text_shows taken feed.so_far fault bytes (fed.1 fault is) other)
    by kinds.Blocks fed = of_blocks (faulty_text taken feed.so_far feed.held (damage_after feed.so_far) feed.file feed.fault fault bytes is fed)

-- a fault that the bytes show is the fault of the file
pub shown_fault : (fault : FeedFault) (bytes : List ℕ) → ShowsFault bytes fault → IsLogFault bytes fault
shown_fault faults.Header bytes (inl (plain, none)) = (none.0, λ header more is e. plain_now bytes plain (header_sealed bytes header more e))
shown_fault faults.Header bytes (inr (sealed, long, none)) = (λ head more is e. head_not_sealed bytes head more e sealed, none)
shown_fault (faults.Record nth what) bytes h = h
shown_fault faults.Memory bytes h = h

-- ---- fronts

-- the numbers of a front do not depend on what follows its records
other_rest : (records : List Logged) (front : LogFront) (a b : Rest) → record front { rest = a } ≡ front_of front.head records a → record front { rest = b } ≡ front_of front.head records b
other_rest records front a b same = ap (λ (f : LogFront). record f { rest = b }) same

front_whole : (bytes text : List ℕ) (taken : List Logged) (s : LogSoFar) (front : LogFront) (held : List ℕ) → Opens bytes text false → s.front ≡ Some front → HoldsAll (HoldsLog taken) IsLogLeft s held text → held ≡ []
    → IsFrontOf bytes (taken ++ s.ready) (record front { rest = Nothing })
front_whole bytes text taken s front held opens some all none =
    let t = front_is taken s front text held Nothing some all.0 none in
    record { text = text; rest = t.rest; spelled = t.spelled; is_head = t.is_head; lawful = t.lawful; is_rest = (opens, t.is_rest); numbers = t.numbers }

front_ended : (bytes text : List ℕ) (ended : Bool) (taken : List Logged) (s : LogSoFar) (front : LogFront) (held : List ℕ) → Opens bytes text ended → s.front ≡ Some front → HoldsAll (HoldsLog taken) IsLogLeft s held text
    → ((held ≡ []) × (ended ≡ false) → ⊥) → IsFrontOf bytes (taken ++ s.ready) (record front { rest = Torn })
front_ended bytes text ended taken s front held opens some all not_all = by ended refl (log_read taken s front held text some all).ends
  where
    by : (b : Bool) → ended ≡ b → (held ≡ []) ⊎ IsTorn (limits_of front.head.format) held → IsFrontOf bytes (taken ++ s.ready) (record front { rest = Torn })
    by b e (inr torn) =
        let t = front_is taken s front text held Torn some all.0 torn in
        record { text = text; rest = t.rest; spelled = t.spelled; is_head = t.is_head; lawful = t.lawful; is_rest = (ended, opens, inr t.is_rest, inr t.is_rest); numbers = t.numbers }
    by false e (inl none) = absurd (not_all (none, e))
    by true e (inl none) =
        let t = front_is taken s front text held Nothing some all.0 none in
        record { text = text; rest = t.rest; spelled = t.spelled; is_head = t.is_head; lawful = t.lawful; is_rest = (ended, opens, inl t.is_rest, inl e); numbers = other_rest (taken ++ s.ready) front Nothing Torn t.numbers }

front_damaged : (bytes : List ℕ) (taken : List Logged) (s : LogSoFar) (front : LogFront) (held : List ℕ) (what : What) → what ≡ Checksum → s.front ≡ Some front → IsDamagedText taken s held bytes
    → IsFrontOf bytes (taken ++ s.ready) (record front { rest = Faulty what })
front_damaged bytes taken s front held what same some d = by (log_read taken s front held d.text some d.all).ends
  where
    by : (held ≡ []) ⊎ IsTorn (limits_of front.head.format) held → IsFrontOf bytes (taken ++ s.ready) (record front { rest = Faulty what })
    by (inl none) =
        let t = front_is taken s front d.text held Nothing some d.all.0 none in
        record {
          text = d.text;
          rest = t.rest;
          spelled = t.spelled;
          is_head = t.is_head;
          lawful = t.lawful;
          is_rest = inr (same, d.damaged, inl t.is_rest);
          numbers = other_rest (taken ++ s.ready) front Nothing (Faulty what) t.numbers;
        }
    by (inr torn) =
        let t = front_is taken s front d.text held Torn some d.all.0 torn in
        record {
          text = d.text;
          rest = t.rest;
          spelled = t.spelled;
          is_head = t.is_head;
          lawful = t.lawful;
          is_rest = inr (same, d.damaged, inr t.is_rest);
          numbers = other_rest (taken ++ s.ready) front Torn (Faulty what) t.numbers;
        }

front_in_blocks : (bytes : List ℕ) (taken : List Logged) (s : LogSoFar) (front : LogFront) (held : List ℕ) (nth : ℕ) (what : What) → s.front ≡ Some front → IsFaultyText taken s held bytes (faults.Record nth what)
    → IsFrontOf bytes (taken ++ s.ready) (record front { rest = Faulty what })
front_in_blocks bytes taken s front held nth what some f =
    let text = text_of f.header f.bodies in
    let t = front_faulty taken s front nth what text some f.fed in
    record {
      text = text;
      rest = t.rest;
      spelled = t.spelled;
      is_head = t.is_head;
      lawful = t.lawful;
      is_rest = inl (inr (record { header = f.header; bodies = f.bodies; rest = f.rest; begins = f.begins; is_text = refl }), t.is_rest);
      numbers = t.numbers;
    }

-- nothing but its header could have been read of a file whose kind is not told
untold_unread : (taken : List Logged) (s : LogSoFar) (held : List ℕ) (front : LogFront) → s.front ≡ Some front → (fault : Option FeedFault) → fault ≡ None → IsTextFed taken s held fault [] → ⊥
untold_unread taken s held front some fault none fed =
    let all = fed.0 none in
    let is = begun taken s front [] held some all.0 in
    omega (arith, ap length is.0, length-append (head_bytes front.head) (flat_map spelling (taken ++ s.ready) ++ held), head_long front.head)

what_is : (nth n : ℕ) (what : What) → faults.Record nth what ≡ faults.Record n Checksum → what ≡ Checksum
what_is nth n what e = cc

not_memory : (nth : ℕ) (what : What) → faults.Record nth what ≡ faults.Memory → ⊥
not_memory nth what e = cc

module _ (feed : FedLog) (bytes : List ℕ) (taken : List Logged) (front : LogFront) (fed : IsLogFed feed bytes taken) (some : feed.so_far.front ≡ Some front) where
  -- if all bytes were read, nothing follows the records
  pub front_nothing : feed.fault ≡ None → IsAllRead feed → IsFrontOf bytes (taken ++ feed.so_far.ready) (record front { rest = Nothing })
  front_nothing none all = by feed.file.kind refl fed
    where
      by : (kind : FileKind) → feed.file.kind ≡ kind → IsFedAs kind (IsTextFed taken feed.so_far feed.held) (damage_after feed.so_far) IsHeaderShown IsMemory feed.file feed.fault bytes
          → IsFrontOf bytes (taken ++ feed.so_far.ready) (record front { rest = Nothing })
      by kinds.Untold is fed = absurd (untold_unread taken feed.so_far feed.held front some feed.file.fault fed.sound fed.fed)
      by kinds.Plain is (plain, fed) = front_whole bytes bytes taken feed.so_far front feed.held (own_whole bytes plain) some (fed.0 none) all.0
      by kinds.Blocks is fed =
          let w = whole_text taken feed.so_far feed.held (damage_after feed.so_far) feed.file feed.fault bytes none fed in
          front_whole bytes w.text taken feed.so_far front feed.held (subst (Opens bytes w.text) (w.whole (all.1 is)) w.opens) some w.all all.0

  -- if not all bytes were read, the end is torn
  pub front_cut : feed.fault ≡ None → (IsAllRead feed → ⊥) → IsFrontOf bytes (taken ++ feed.so_far.ready) (record front { rest = Torn })
  front_cut none not_all = by feed.file.kind refl fed
    where
      by : (kind : FileKind) → feed.file.kind ≡ kind → IsFedAs kind (IsTextFed taken feed.so_far feed.held) (damage_after feed.so_far) IsHeaderShown IsMemory feed.file feed.fault bytes
          → IsFrontOf bytes (taken ++ feed.so_far.ready) (record front { rest = Torn })
      by kinds.Untold is fed = absurd (untold_unread taken feed.so_far feed.held front some feed.file.fault fed.sound fed.fed)
      by kinds.Plain is (plain, fed) = front_ended bytes bytes false taken feed.so_far front feed.held (own_whole bytes plain) some (fed.0 none) (λ e. not_all (e.0, λ blocks. absurd (not_blocks (sym is ∙ blocks))))
        where
          not_blocks : kinds.Plain ≡ kinds.Blocks → ⊥
          not_blocks e = cc
      by kinds.Blocks is fed =
          let w = whole_text taken feed.so_far feed.held (damage_after feed.so_far) feed.file feed.fault bytes none fed in
          front_ended bytes w.text w.ended taken feed.so_far front feed.held w.opens some w.all (λ e. not_all (e.0, λ _. w.torn e.1))

  -- after a fault of a record, it follows the records
  pub front_fault : (nth : ℕ) (what : What) → feed.fault ≡ Some (faults.Record nth what) → IsFrontOf bytes (taken ++ feed.so_far.ready) (record front { rest = Faulty what })
  front_fault nth what is = by feed.file.kind fed
    where
      of_blocks : IsFaultyText taken feed.so_far feed.held bytes (faults.Record nth what) ⊎ (((faults.Record nth what ≡ damage_after feed.so_far) × IsDamagedText taken feed.so_far feed.held bytes) ⊎ IsMemory (faults.Record nth what))
          → IsFrontOf bytes (taken ++ feed.so_far.ready) (record front { rest = Faulty what })
      of_blocks (inl f) = front_in_blocks bytes taken feed.so_far front feed.held nth what some f
      of_blocks (inr (inl (same, d))) = front_damaged bytes taken feed.so_far front feed.held what (what_is nth (count_read feed.so_far.front) what same) some d
      of_blocks (inr (inr memory)) = absurd (not_memory nth what memory.1)

      by : (kind : FileKind) → IsFedAs kind (IsTextFed taken feed.so_far feed.held) (damage_after feed.so_far) IsHeaderShown IsMemory feed.file feed.fault bytes
          → IsFrontOf bytes (taken ++ feed.so_far.ready) (record front { rest = Faulty what })
      by kinds.Untold fed = absurd (untold_unread taken feed.so_far feed.held front some feed.file.fault fed.sound fed.fed)
      by kinds.Plain (plain, fed) =
          plain_front bytes (taken ++ feed.so_far.ready) (record front { rest = Faulty what }) (plain_now bytes plain, refl) (front_faulty taken feed.so_far front nth what bytes some (fed.1 (faults.Record nth what) is))
      by kinds.Blocks fed = of_blocks (faulty_text taken feed.so_far feed.held (damage_after feed.so_far) feed.file feed.fault (faults.Record nth what) bytes is fed)

-- without a header and a fault, the bytes have none
pub no_header_fed : (feed : FedLog) (bytes : List ℕ) (taken : List Logged) → IsLogFed feed bytes taken → feed.so_far.front ≡ None → feed.fault ≡ None → IsLogFault bytes faults.Header
no_header_fed feed bytes taken fed unread none = by feed.file.kind fed
  where
    by : (kind : FileKind) → IsFedAs kind (IsTextFed taken feed.so_far feed.held) (damage_after feed.so_far) IsHeaderShown IsMemory feed.file feed.fault bytes → IsLogFault bytes faults.Header
    by kinds.Untold fed = let untold = (fed.held none).1 in (λ head more is e. untold_no_header bytes head more untold e, untold_no_seal bytes untold)
    by kinds.Plain (plain, fed) = (no_head_read taken feed.so_far bytes feed.held unread (fed.0 none), λ header more is e. plain_now bytes plain (header_sealed bytes header more e))
    by kinds.Blocks fed =
        let w = whole_text taken feed.so_far feed.held (damage_after feed.so_far) feed.file feed.fault bytes none fed in
        absurd (none-some w.front (sym unread ∙ w.some))

-- after a fault of a record, the header was read
pub fault_begun : (feed : FedLog) (bytes : List ℕ) (taken : List Logged) (nth : ℕ) (what : What) → IsLogFed feed bytes taken → feed.so_far.front ≡ None → feed.fault ≡ Some (faults.Record nth what) → ⊥
fault_begun feed bytes taken nth what fed unread is = by feed.file.kind fed
  where
    of_untold : IsHeaderShown bytes (faults.Record nth what) → ⊥
    of_untold (inl memory) = not_memory nth what memory
    of_untold (inr (same, shows)) = cc

    of_blocks : IsFaultyText taken feed.so_far feed.held bytes (faults.Record nth what) ⊎ (((faults.Record nth what ≡ damage_after feed.so_far) × IsDamagedText taken feed.so_far feed.held bytes) ⊎ IsMemory (faults.Record nth what)) → ⊥
    of_blocks (inl f) = none-some f.fed.fault.front (sym unread ∙ f.fed.fault.begun)
    of_blocks (inr (inl (same, d))) = none-some d.front (sym unread ∙ d.some)
    of_blocks (inr (inr memory)) = not_memory nth what memory.1

    by : (kind : FileKind) → IsFedAs kind (IsTextFed taken feed.so_far feed.held) (damage_after feed.so_far) IsHeaderShown IsMemory feed.file feed.fault bytes → ⊥
    by kinds.Untold fed = of_untold (fed.shown (faults.Record nth what) is)
    by kinds.Plain (plain, fed) = let shown = fed.1 (faults.Record nth what) is in none-some shown.fault.front (sym unread ∙ shown.fault.begun)
    by kinds.Blocks fed = of_blocks (faulty_text taken feed.so_far feed.held (damage_after feed.so_far) feed.file feed.fault (faults.Record nth what) bytes is fed)

-- a header that was not read
pub no_front : (front : Option LogFront) (answer : Result LogFront FeedFault) (fault : FeedFault) → answer ≡ ok_or front faults.Header → answer ≡ Err fault → (front ≡ None) × (fault ≡ faults.Header)
no_front None answer fault e is = let same : faults.Header ≡ fault = cc in (refl, sym same)
no_front (Some front) answer fault e is = absurd cc
