-- What the first bytes of a file tell.
use Rattle.std.proofs.Common.{◌≡◌, ◌⊎◌, inl, inr, ℕ, ◌+◌, ◌-◌, ◌<◌, ◌≤◌, min, max, Bool, false, Option, Some, None, List, [], ◌∷◌, ◌++◌, length, refl, sym, ap, ◌∙◌, subst, arith}
use Rattle.std.specs.Prelude.{codes, MatchBool, Result, Ok, Err, IfOk, IfErr}
use Rattle.std.specs.List.{flat_map}
use Rattle.std.proofs.lemmas.List.{length-append, append-nil, nil_from_length}
use Rattle.std.proofs.lemmas.List.Elements.{All-nil}
use Rattle.std.proofs.lemmas.Option.{none-some, same_Some}
use Rattle.mt_words.specs.Changes.{Logged}
use Rattle.mt_block.specs.declared.header.Header.{Header}
use Rattle.mt_block.specs.Blocks.{IsHeader, header_bytes, IsBody, IsCut}
use Rattle.mt_record.specs.declared.read.FeedFault.{FeedFault}
use Rattle.mt_record.specs.declared.read.FeedFault.TheVariants as faults
use Rattle.mt_record.specs.declared.front.LogFront.{LogFront}
use Rattle.mt_record.specs.declared.front.Rest.TheVariants.{Nothing}
use Rattle.mt_record.specs.Spelling.{spelling}
use Rattle.mt_record.specs.Heads.{head_bytes}
use Rattle.mt_record.specs.Opening.{IsSealed, text_head}
use Rattle.mt_record.specs.Feeding.{HoldsAll, IsFedBy}
use Rattle.mt_record.specs.Unsealing.{Place, FileSoFar, HoldsBlocks, AreBlocksLeft, AreBlocksFaulty, IsPassed, HasPassed, IsUntold, ShowsNoSeal, IsPlain, IsFedUntold}
use Rattle.mt_record.specs.declared.feed.file_feed.Told.{Told}
use Rattle.mt_record.specs.declared.feed.file_feed.Told.TheVariants as told
use Rattle.mt_record.specs.Steps.Telling.{Tells, IsToldBy}
use Rattle.mt_record.specs.LogFeeding.{LogSoFar, IsHeaderShown, IsMemory, IsReadTo, HoldsLog, IsLogLeft, IsTextFed}
use Rattle.mt_record.proofs.Feeds.{apart}
use Rattle.mt_record.proofs.Opened.{header-length}
use Rattle.mt_record.proofs.LogFeeds.{begins_at}
use Rattle.mt_record.proofs.FileFeeds.{shows_no_seal_on, text_is_head, untold_short}
use Rattle.mt_record.proofs.Beginnings.{head_long}

-- ---- the first bytes

-- if fewer bytes are held than were wanted, all are held
pub all_held : (old piece held rest : List ℕ) → held ++ rest ≡ old ++ piece → length held ≡ max (length old) (min 44 (length old + length piece)) → length held < 44 → held ≡ old ++ piece
all_held old piece held rest joins size few =
    let none : rest ≡ [] = nil_from_length rest (omega (arith, ap length joins, length-append held rest, length-append old piece, size, few)) in
    sym (append-nil held) ∙ ap (λ (l : List ℕ). held ++ l) (sym none) ∙ joins

-- a beginning of the magic that is not the magic tells nothing
pub told_nothing : (held more : List ℕ) → codes "MTL4" ≡ held ++ more → (IsSealed held → ⊥) → IsUntold held × (length held < 44)
told_nothing held [] e not_sealed = absurd (not_sealed (record { more = []; spelled = sym (append-nil held) ∙ sym e }))
told_nothing held (x ∷ xs) e not_sealed = (inl (x ∷ xs, e, omega arith), omega (arith, ap length e, length-append held (x ∷ xs)))

-- bytes that neither begin with the magic nor begin it are no file of format 4
pub tells_plain : (held : List ℕ) → (IsSealed held → ⊥) → ((more : List ℕ) → codes "MTL4" ≡ held ++ more → ⊥) → IsPlain held
tells_plain held not_sealed none more sealed = elim (apart (codes "MTL4") held sealed.more more (sym sealed.spelled)) as (λ _. ⊥) [
  | inl u ↦ none u.0 u.1
  | inr u ↦ not_sealed (record { more = u.0; spelled = u.1 })
]

-- what bytes tell, when they were moved from the front of a chunk
pub tells : (old piece held rest : List ℕ) (answer : Result Told FeedFault) → length old ≤ 44 → held ++ rest ≡ old ++ piece → length held ≡ max (length old) (min 44 (length old + length piece)) → IfOk answer (IsToldBy held rest)
    → IfOk answer (Tells (old ++ piece) held)
tells old piece held rest (Err fault) short joins size none = tt
tells old piece held rest (Ok answer) short joins size is = by answer is
  where
    by : (answer : Told) → IsToldBy held rest answer → Tells (old ++ piece) held answer
    by told.Nothing (untold, few) = let all = all_held old piece held rest joins size few in (all, subst IsUntold all untold)
    by (told.Plain left) (plain, same) = (sym joins ∙ ap (λ (l : List ℕ). held ++ l) (sym same), plain)
    by (told.Blocks header left) (is_header, (after, e), same) =
        let none : after ≡ [] = nil_from_length after (omega (arith, ap length e, length-append (header_bytes header) after, header-length header, size, short)) in
        (sym joins ∙ ap (λ (l : List ℕ). held ++ l) (sym same), is_header, e ∙ ap (λ (l : List ℕ). header_bytes header ++ l) none ∙ append-nil (header_bytes header))

-- no header is there
pub tells_no_header : (old piece held rest : List ℕ) (answer : Result Told FeedFault) → held ++ rest ≡ old ++ piece → IfErr answer (λ fault. (fault ≡ faults.Header) × ShowsNoSeal held) → IfErr answer (IsHeaderShown (old ++ piece))
tells_no_header old piece held rest (Ok answer) joins shows = tt
tells_no_header old piece held rest (Err fault) joins (same, shows) = inr (same, subst ShowsNoSeal joins (shows_no_seal_on held rest shows))

-- ---- the first bytes of a file of format 4

-- nothing of the text was read
record IsUnread (taken : List Logged) (s : LogSoFar) (held : List ℕ) : Type 0 where
  held_none : held ≡ []
  no_records : taken ++ s.ready ≡ []

unread_text : (taken : List Logged) (s : LogSoFar) (held : List ℕ) → HoldsAll (HoldsLog taken) IsLogLeft s held [] → IsUnread taken s held
unread_text taken s held all = by s.front refl
  where
    sizes : length (all.0.front) + length held ≡ 0
    sizes = omega (arith, ap length all.0.joins, length-append all.0.front held)

    by : (o : Option LogFront) → s.front ≡ o → IsUnread taken s held
    by None none =
        let read : (all.0.front ≡ []) × (taken ++ s.ready ≡ []) = rw none at all.0.read in
        record { held_none = nil_from_length held (omega (arith, sizes)); no_records = read.1 }
    by (Some front) some =
        let read : IsReadTo front (taken ++ s.ready) all.0.front = rw some at all.0.read in
        absurd (omega (arith, sizes, ap length read.spelled, length-append (head_bytes front.head) (flat_map spelling (taken ++ s.ready)), head_long front.head))

-- the header of the text counts as read
begun_text : (taken : List Logged) (s : LogSoFar) (held : List ℕ) (header : Header) → IsHeader header → HoldsAll (HoldsLog taken) IsLogLeft s held []
    → HoldsAll (HoldsLog taken) IsLogLeft (record s { front = Some (begins_at (text_head header) 20) }) held (head_bytes (text_head header))
begun_text taken s held header is all =
    let un = unread_text taken s held all in
    let head = head_bytes (text_head header) in (
      record {
        front = head;
        joins = sym (append-nil head) ∙ ap (λ (l : List ℕ). head ++ l) (sym un.held_none);
        read = subst (λ (rs : List Logged). IsReadTo (begins_at (text_head header) 20) rs head) (sym un.no_records)
            (record { spelled = sym (append-nil head); is_head = text_is_head header is; lawful = tt; numbers = refl });
      },
      inl un.held_none,
    )

-- and so the text is fed its header
pub fed_header : (taken : List Logged) (s : LogSoFar) (held : List ℕ) (fault : Option FeedFault) (header : Header) → IsHeader header → fault ≡ None → IsTextFed taken s held fault []
    → IsTextFed taken (record s { front = Some (begins_at (text_head header) 20) }) held fault (head_bytes (text_head header))
fed_header taken s held fault header is none fed = (λ _. begun_text taken s held header is (fed.0 none), λ answer some. absurd (none-some answer (sym none ∙ some)))

-- before its first block, a reader of blocks was fed nothing
pub blocks_begun : (is_fed : List ℕ → Type 0) (damage : FeedFault) (place : Place) (text : List ℕ) (mark : ℕ) (fault answered : Option FeedFault) → is_fed text → fault ≡ None → place.mark ≡ mark → place.searching ≡ false → place.seam ≡ []
    → answered ≡ None
    → IsFedBy {I = Place} (λ place. HoldsBlocks is_fed place text mark) (λ place. AreBlocksLeft fault place) (λ place. AreBlocksFaulty damage IsMemory fault place) place [] answered []
blocks_begun is_fed damage place text mark fault answered fed none same searching seam no_answer = (
  λ _. (
    record {
      front = [];
      joins = refl;
      read = record {
        same = same;
        bodies = [];
        skipped = [];
        spelled = refl;
        are_bodies = All-nil IsBody;
        fed = subst is_fed (sym (append-nil text)) fed;
        passed = passed [] refl;
      };
    },
    (none, left [] refl),
  ),
  λ answer some. absurd (none-some answer (sym no_answer ∙ some)),
)
  where
    passed : (skipped : List ℕ) → skipped ≡ [] → HasPassed place skipped
    passed skipped e = subst (λ (x : Bool). MatchBool x (IsPassed place.mark skipped place.seam) ((skipped ≡ []) × (place.seam ≡ []))) (sym searching) (e, seam)

    left : (rest : List ℕ) → rest ≡ [] → MatchBool place.searching (rest ≡ []) ((rest ≡ []) ⊎ IsCut place.mark rest)
    left rest e = subst (λ (x : Bool). MatchBool x (rest ≡ []) ((rest ≡ []) ⊎ IsCut place.mark rest)) (sym searching) (inl e)

-- ---- a file whose kind is not told

pub held_short : (bytes held : List ℕ) → bytes ≡ held → IsUntold bytes → length held ≤ 44
held_short bytes held e untold = omega (arith, ap length e, untold_short bytes untold)

-- more bytes are held
pub untold_next : (is_fed : List ℕ → Type 0) (file : FileSoFar FeedFault) (fault : Option FeedFault) (bytes piece held : List ℕ) → fault ≡ None → IsFedUntold is_fed IsHeaderShown file fault bytes
    → (length file.held ≤ 44 → (held ≡ file.held ++ piece) × IsUntold (file.held ++ piece)) → IsFedUntold is_fed IsHeaderShown (record file { held = held }) fault (bytes ++ piece)
untold_next is_fed file fault bytes piece held none fed told =
    let was = fed.held none in
    let now = told (held_short bytes file.held was.0 was.1) in
    let same : bytes ++ piece ≡ file.held ++ piece = ap (λ (l : List ℕ). l ++ piece) was.0 in
    record {
      fed = fed.fed;
      sound = fed.sound;
      first = fed.first;
      held = λ _. (same ∙ sym now.0, subst IsUntold (sym same) now.1);
      shown = λ answer some. absurd (none-some answer (sym none ∙ some));
    }

-- the bytes show that there is no header, or there is no memory
pub untold_fails : (is_fed : List ℕ → Type 0) (file : FileSoFar FeedFault) (fault : Option FeedFault) (answer : FeedFault) (bytes piece held : List ℕ) → fault ≡ None → IsFedUntold is_fed IsHeaderShown file fault bytes
    → IsHeaderShown (file.held ++ piece) answer → IsFedUntold is_fed IsHeaderShown (record file { held = held }) (Some answer) (bytes ++ piece)
untold_fails is_fed file fault answer bytes piece held none fed shows =
    let same : bytes ++ piece ≡ file.held ++ piece = ap (λ (l : List ℕ). l ++ piece) (fed.held none).0 in
    record {
      fed = fed.fed;
      sound = fed.sound;
      first = fed.first;
      held = λ not. absurd (none-some answer (sym not));
      shown = λ other some. subst (IsHeaderShown (bytes ++ piece)) (same_Some _ _ some) (subst (λ (l : List ℕ). IsHeaderShown l answer) (sym same) shows);
    }
