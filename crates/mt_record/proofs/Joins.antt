-- A feed goes on with what another has read behind a header.
use Rattle.std.proofs.lemmas.Option.{none-some}
use Rattle.std.proofs.Common.{◌≡◌, ◌⊎◌, inl, inr, ℕ, ◌+◌, ◌-◌, ◌^◌, min, max, Bool, false, Option, Some, None, List, [], ◌∷◌, ◌++◌, length, refl, sym, ap, ◌∙◌, subst, append_assoc, arith}
use Rattle.std.specs.Prelude.{MatchBool, MatchOption}
use Rattle.std.specs.List.{flat_map}
use Rattle.std.proofs.lemmas.List.{length-append, append-nil}
use Rattle.std.proofs.lemmas.List.Elements.{All-append}
use Rattle.std.proofs.lemmas.Grind.{flat_map-append}
use Rattle.mt_words.specs.declared.limits.Limits.{Limits}
use Rattle.mt_words.specs.Limits.{limits_of}
use Rattle.mt_words.specs.Changes.{Logged}
use Rattle.mt_block.specs.declared.header.Header.{Header}
use Rattle.mt_block.specs.Blocks.{IsHeader, header_bytes, mark_of, IsBody, IsCut, block, blocks}
use Rattle.mt_block.proofs.Heads.{same_split}
use Rattle.mt_record.specs.declared.read.FeedFault.{FeedFault}
use Rattle.mt_record.specs.declared.feed.head.Head.{Head}
use Rattle.mt_record.specs.declared.feed.file_feed.FileKind.{FileKind}
use Rattle.mt_record.specs.declared.feed.file_feed.FileKind.TheVariants as kinds
use Rattle.mt_record.specs.declared.front.LogFront.{LogFront}
use Rattle.mt_record.specs.Spelling.{spelling}
use Rattle.mt_record.specs.Heads.{IsHead, head_bytes}
use Rattle.mt_record.specs.Fronts.{IsUnfinishedFront}
use Rattle.mt_record.specs.Opening.{text_head, text_of, joined}
use Rattle.mt_record.specs.Logs.{AreRecords, IsTorn, latest, count_of, log_bytes}
use Rattle.mt_record.specs.LogTexts.{versions_of, greatest}
use Rattle.mt_record.specs.Feeding.{HoldsAll}
use Rattle.mt_record.specs.Unsealing.{Place, FileSoFar, HoldsBlocks, AreBlocksLeft, IsPlain, IsFedBlocks, IsFedAs}
use Rattle.mt_record.specs.LogFeeding.{LogSoFar, IsHeaderShown, IsReadTo, HoldsLog, IsLogLeft, FedLog, damage_after, IsMemory, IsTextFed, IsLogFed, IsAnyHeader, IsFedBehind}
use Rattle.mt_record.specs.Steps.Joining.{begins_at, begun_feed, joined_front, joined_fronts, joined_feed, RisesTo, IsFollowedBy, IsBefore}
use Rattle.mt_record.proofs.Beginnings.{head_short}
use Rattle.mt_record.proofs.Records.{latest_least}
use Rattle.mt_record.proofs.OneLog.{same_head}
use Rattle.mt_record.proofs.Opened.{head_not_sealed, header_sealed, header-length}
use Rattle.mt_record.proofs.Feeds.{behind_on}
use Rattle.mt_record.proofs.FileFeeds.{plain_on, text_is_head, text_front_read, has_blocks, has_read}
use Rattle.mt_record.proofs.Tellings.{blocks_begun}

-- ---- records

-- records may follow others
records_append : (limits : Limits) (low : ℕ) (rs ss : List Logged) → AreRecords limits low rs → AreRecords limits 0 ss → RisesTo (latest low rs) ss → AreRecords limits low (rs ++ ss)
records_append limits low [] [] are more rises = tt
records_append limits low [] (s ∷ ss) are more rises = (more.0, rises s.timestamp refl, more.2)
records_append limits low (r ∷ rs) ss are more rises = (are.0, are.1, records_append limits r.timestamp rs ss are.2 more rises)

latest_append : (limits : Limits) (low : ℕ) (rs ss : List Logged) → AreRecords limits 0 ss → RisesTo (latest low rs) ss → latest low (rs ++ ss) ≡ max (latest low rs) (latest 0 ss)
latest_append limits low [] [] more rises = omega arith
latest_append limits low [] (s ∷ ss) more rises = omega (arith, rises s.timestamp refl, latest_least limits s.timestamp ss more.2)
latest_append limits low (r ∷ rs) ss more rises = latest_append limits r.timestamp rs ss more rises

greatest_append : (rs ss : List Logged) → greatest (versions_of (rs ++ ss)) ≡ max (greatest (versions_of rs)) (greatest (versions_of ss))
greatest_append [] ss = omega arith
greatest_append (r ∷ rs) ss = omega (arith, greatest_append rs ss)

-- ---- texts

-- the header and records that one feed has read, and then those that another has read behind a header like it
read_joins : (front behind : LogFront) (rs ss : List Logged) (begin more : List ℕ) → front.head ≡ behind.head → RisesTo front.latest ss → IsReadTo front rs begin → IsReadTo behind ss more
    → IsReadTo (joined_front front behind) (rs ++ ss) (begin ++ flat_map spelling ss)
read_joins front behind rs ss begin more same rises read added = record {
  spelled = spelled;
  is_head = read.is_head;
  lawful = records_append (limits_of front.head.format) 0 rs ss read.lawful (subst (λ (h : Head). AreRecords (limits_of h.format) 0 ss) (sym same) added.lawful) low;
  numbers = λ i. record { head = front.head; count = count_is i; latest = latest_is i; version = version_is i; bytes = bytes_is i; rest = (read.numbers i).rest };
}
  where
    spelled : begin ++ flat_map spelling ss ≡ log_bytes front.head (rs ++ ss)
    spelled = ap (λ (l : List ℕ). l ++ flat_map spelling ss) read.spelled ∙ append_assoc (head_bytes front.head) (flat_map spelling rs) (flat_map spelling ss)
        ∙ ap (λ (l : List ℕ). head_bytes front.head ++ l) (sym (flat_map-append spelling rs ss))

    low : RisesTo (latest 0 rs) ss
    low = subst (λ (n : ℕ). RisesTo n ss) (ap (λ (f : LogFront). f.latest) read.numbers) rises

    count_is : min (front.count + behind.count) (2 ^ 64 - 1) ≡ count_of (rs ++ ss)
    count_is = omega (arith, length-append rs ss, ap (λ (f : LogFront). f.count) read.numbers, ap (λ (f : LogFront). f.count) added.numbers)

    latest_is : max front.latest behind.latest ≡ latest 0 (rs ++ ss)
    latest_is = omega (arith, latest_append (limits_of behind.head.format) 0 rs ss added.lawful low, ap (λ (f : LogFront). f.latest) read.numbers, ap (λ (f : LogFront). f.latest) added.numbers)

    version_is : max front.version behind.version ≡ greatest (versions_of (rs ++ ss))
    version_is = omega (arith, greatest_append rs ss, ap (λ (f : LogFront). f.version) read.numbers, ap (λ (f : LogFront). f.version) added.numbers)

    bytes_is : min (front.bytes + (behind.bytes - length (head_bytes behind.head))) (2 ^ 64 - 1) ≡ count_of (log_bytes front.head (rs ++ ss))
    bytes_is = omega (
      arith,
      ap (λ (f : LogFront). f.bytes) read.numbers,
      ap (λ (f : LogFront). f.bytes) added.numbers,
      length-append (head_bytes behind.head) (flat_map spelling ss),
      length-append (head_bytes front.head) (flat_map spelling rs),
      length-append begin (flat_map spelling ss),
      ap length read.spelled,
      ap length spelled,
      ap (λ (h : Head). length (head_bytes h)) same,
    )

-- what holds of both fronts put together, by other names of them
by_fronts : (P : LogFront → Type 0) (none : Type 0) (a b : Option LogFront) (front behind : LogFront) → a ≡ Some front → b ≡ Some behind → P (joined_front front behind) → MatchOption (joined_fronts a b) none P
by_fronts P none a b front behind some next_some = subst (λ (p : Option LogFront × Option LogFront). P (joined_front front behind) → MatchOption (joined_fronts p.0 p.1) none P) (λ i. (sym some i, sym next_some i)) (λ h. h)

-- the text of a log goes on with what was read behind a header
text_joins : (taken : List Logged) (own next : LogSoFar) (front behind : LogFront) (held before after : List ℕ) (head : Head) → own.front ≡ Some front → next.front ≡ Some behind → front.head ≡ behind.head
    → RisesTo front.latest next.ready → IsHead head → HoldsAll (HoldsLog taken) IsLogLeft own [] before → HoldsAll (HoldsLog []) IsLogLeft next held (head_bytes head ++ after)
    → HoldsAll (HoldsLog taken) IsLogLeft (record { front = joined_fronts own.front next.front; ready = own.ready ++ next.ready }) held (before ++ after)
text_joins taken own next front behind held before after head some next_some same rises is_head all more =
    let rs = taken ++ own.ready in
    let ss = next.ready in
    let begin = all.0.front in
    let read : IsReadTo front rs begin = rw some at all.0.read in
    let added : IsReadTo behind ss more.0.front = rw next_some at more.0.read in
    let left : (held ≡ []) ⊎ IsTorn (limits_of behind.head.format) held = rw next_some at more.1 in
    let one = same_head behind.head head (flat_map spelling ss ++ held) after added.is_head is_head
    (sym (append_assoc (head_bytes behind.head) (flat_map spelling ss) held) ∙ ap (λ (l : List ℕ). l ++ held) (sym added.spelled) ∙ sym more.0.joins) in (
      record {
        front = begin ++ flat_map spelling ss;
        joins = ap (λ (l : List ℕ). l ++ after) (all.0.joins ∙ append-nil begin) ∙ ap (λ (l : List ℕ). begin ++ l) (sym one.1) ∙ sym (append_assoc begin (flat_map spelling ss) held);
        read = by_fronts (λ (f : LogFront). IsReadTo f (taken ++ (own.ready ++ ss)) (begin ++ flat_map spelling ss)) ((begin ++ flat_map spelling ss ≡ []) × (taken ++ (own.ready ++ ss) ≡ [])) own.front next.front front behind some next_some
            (subst (λ (list : List Logged). IsReadTo (joined_front front behind) list (begin ++ flat_map spelling ss)) (append_assoc taken own.ready ss) (read_joins front behind rs ss begin more.0.front same rises read added));
      },
      by_fronts (λ (f : LogFront). (held ≡ []) ⊎ IsTorn (limits_of f.head.format) held) (IsUnfinishedFront IsHead head_bytes held) own.front next.front front behind some next_some
          (subst (λ (h : Head). (held ≡ []) ⊎ IsTorn (limits_of h.format) held) (sym same) left),
    )

-- ---- files

not_searching : (P Q : Type 0) (searching : Bool) → searching ≡ false → MatchBool searching P Q → Q
not_searching P Q searching e = subst (λ (x : Bool). MatchBool x P Q → Q) (sym e) (λ q. q)

is_not_searching : (P Q : Type 0) (searching : Bool) → searching ≡ false → Q → MatchBool searching P Q
is_not_searching P Q searching e = subst (λ (x : Bool). Q → MatchBool x P Q) (sym e) (λ q. q)

-- the blocks of a file go on with those that were read behind a header
pub blocks_join : (is_fed next_fed new_fed : List ℕ → Type 0) (place next : Place) (fault next_fault : Option FeedFault) (held before after text other : List ℕ) (mark other_mark : ℕ)
    → place.searching ≡ false → next.searching ≡ false → place.mark ≡ next.mark → fault ≡ None
    → ((a b : List ℕ) → is_fed (text ++ a) → next_fed (other ++ b) → new_fed ((text ++ a) ++ b))
    → HoldsAll {I = Place} (λ place. HoldsBlocks is_fed place text mark) (λ place. AreBlocksLeft fault place) place [] before
    → HoldsAll {I = Place} (λ place. HoldsBlocks next_fed place other other_mark) (λ place. AreBlocksLeft next_fault place) next held after
    → HoldsAll {I = Place} (λ place. HoldsBlocks new_fed place text mark) (λ place. AreBlocksLeft fault place) place held (before ++ after)
blocks_join is_fed next_fed new_fed place next fault next_fault held before after text other mark other_mark first next_first same sound feeds all more = (
  record {
    front = blocks place.mark bodies ++ [];
    joins = ap (λ (l : List ℕ). l ++ after) (all.0.joins ∙ append-nil all.0.front ∙ own_all) ∙ ap (λ (l : List ℕ). blocks place.mark own.bodies ++ l) (more.0.joins ∙ ap (λ (l : List ℕ). l ++ held) added_all)
        ∙ sym (append_assoc (blocks place.mark own.bodies) (blocks place.mark added.bodies) held) ∙ ap (λ (l : List ℕ). l ++ held) (sym (flat_map-append (block place.mark) own.bodies added.bodies) ∙ sym (append-nil (blocks place.mark bodies)));
    read = record {
      same = own.same;
      bodies = bodies;
      skipped = [];
      spelled = refl;
      are_bodies = All-append IsBody own.bodies added.bodies own.are_bodies added.are_bodies;
      fed = subst new_fed
          (append_assoc text (joined own.bodies) (joined added.bodies) ∙ ap (λ (l : List ℕ). text ++ l) (sym (flat_map-append (λ (body : List ℕ). body) own.bodies added.bodies)))
          (feeds (joined own.bodies) (joined added.bodies) own.fed added.fed);
      passed = is_not_searching _ _ place.searching first (refl, (not_searching _ _ place.searching first own.passed).1);
    };
  },
  (sound, is_not_searching _ _ place.searching first (subst (λ (m : ℕ). (held ≡ []) ⊎ IsCut m held) (sym same) (not_searching _ _ next.searching next_first more.1.1))),
)
  where
    own : HoldsBlocks is_fed place text mark all.0.front
    own = all.0.read

    added : HoldsBlocks next_fed next other other_mark more.0.front
    added = more.0.read

    bodies : List (List ℕ)
    bodies = own.bodies ++ added.bodies

    own_all : all.0.front ≡ blocks place.mark own.bodies
    own_all = own.spelled ∙ ap (λ (l : List ℕ). blocks place.mark own.bodies ++ l) (not_searching _ _ place.searching first own.passed).0 ∙ append-nil (blocks place.mark own.bodies)

    added_all : more.0.front ≡ blocks place.mark added.bodies
    added_all = added.spelled ∙ ap (λ (l : List ℕ). blocks next.mark added.bodies ++ l) (not_searching _ _ next.searching next_first added.passed).0 ∙ append-nil (blocks next.mark added.bodies)
        ∙ ap (λ (m : ℕ). blocks m added.bodies) (sym same)

-- a file of format 4 begins with only one header, and with none of another format
header_of_blocks : (header piece behind : List ℕ) (h : Header) → IsAnyHeader header → header ++ piece ≡ header_bytes h ++ behind → piece ≡ behind
header_of_blocks header piece behind h (inl (head, is, e)) same = absurd (head_not_sealed (header ++ piece) head piece (ap (λ (l : List ℕ). l ++ piece) e) (header_sealed (header ++ piece) h behind same))
header_of_blocks header piece behind h (inr (other, is, e)) same =
    (same_split header (header_bytes h) piece behind (ap length e ∙ header-length other ∙ sym (header-length h)) same).1

plain_header : (header piece : List ℕ) → IsAnyHeader header → IsPlain (header ++ piece) → (head : Head) × IsHead head × (header ≡ head_bytes head)
plain_header header piece (inl is) plain = is
plain_header header piece (inr (h, is, e)) plain =
    absurd (plain [] (header_sealed ((header ++ piece) ++ []) h piece (append-nil (header ++ piece) ∙ ap (λ (l : List ℕ). l ++ piece) e)))

-- what a feed was fed, by another name of the kind of its file
as_kind : (feed : FedLog) (kind : FileKind) (bytes : List ℕ) (taken : List Logged) → feed.file.kind ≡ kind → IsLogFed feed bytes taken
    → IsFedAs kind (IsTextFed taken feed.so_far feed.held) (damage_after feed.so_far) IsHeaderShown IsMemory feed.file feed.fault bytes
as_kind feed kind bytes taken e fed = subst (λ (k : FileKind). IsFedAs k (IsTextFed taken feed.so_far feed.held) (damage_after feed.so_far) IsHeaderShown IsMemory feed.file feed.fault bytes) e fed

of_kind : (feed : FedLog) (kind : FileKind) (bytes : List ℕ) (taken : List Logged) → feed.file.kind ≡ kind
    → IsFedAs kind (IsTextFed taken feed.so_far feed.held) (damage_after feed.so_far) IsHeaderShown IsMemory feed.file feed.fault bytes → IsLogFed feed bytes taken
of_kind feed kind bytes taken e fed = subst (λ (k : FileKind). IsFedAs k (IsTextFed taken feed.so_far feed.held) (damage_after feed.so_far) IsHeaderShown IsMemory feed.file feed.fault bytes) (sym e) fed

-- what a feed was fed that goes on with what another has read behind a header
pub feeds_join : (own next : FedLog) (bytes piece : List ℕ) (taken : List Logged) → IsBefore own next → IsFedBehind next piece → IsLogFed own bytes taken → IsLogFed (joined_feed own next) (bytes ++ piece) taken
feeds_join own next bytes piece taken is behind fed = by own.file.kind refl
  where
    new : FedLog
    new = joined_feed own next

    f : IsFollowedBy own next
    f = is.followed

    texts : (before after : List ℕ) (head : Head) → IsHead head → HoldsAll (HoldsLog taken) IsLogLeft own.so_far own.held before → HoldsAll (HoldsLog []) IsLogLeft next.so_far next.held (head_bytes head ++ after)
        → HoldsAll (HoldsLog taken) IsLogLeft new.so_far next.held (before ++ after)
    texts before after head is_head all more =
        text_joins taken own.so_far next.so_far f.front f.behind next.held before after head f.begun f.next_begun f.head f.rises is_head
        (subst (λ (l : List ℕ). HoldsAll (HoldsLog taken) IsLogLeft own.so_far l before) is.whole.0 all) more

    by : (kind : FileKind) → own.file.kind ≡ kind → IsLogFed new (bytes ++ piece) taken
    by kinds.Untold e = absurd (is.own_sound.told e)
    by kinds.Plain e =
        let (plain, text) = as_kind own kinds.Plain bytes taken e fed in
        let (next_plain, next_text) = as_kind next kinds.Plain (behind.header ++ piece) [] (sym f.kind ∙ e) behind.fed in
        let (head, is_head, spelled) = plain_header behind.header piece behind.is_header next_plain in
        let more = subst (λ (l : List ℕ). HoldsAll (HoldsLog []) IsLogLeft next.so_far next.held (l ++ piece)) spelled (next_text.0 is.next_sound.fault) in
        of_kind new kinds.Plain (bytes ++ piece) taken e (
          plain_on bytes piece plain,
          ((λ none. texts bytes piece head is_head (text.0 is.own_sound.fault) more), λ answer some. absurd (none-some answer (sym is.own_sound.fault ∙ some))),
        )
    by kinds.Blocks e =
        let own_fed = as_kind own kinds.Blocks bytes taken e fed in
        let next_fed = as_kind next kinds.Blocks (behind.header ++ piece) [] (sym f.kind ∙ e) behind.fed in
        let own_text = head_bytes (text_head own_fed.header) in
        let next_text = head_bytes (text_head next_fed.header) in
        let same = header_of_blocks behind.header piece next_fed.behind next_fed.header behind.is_header next_fed.spelled in
        let all = subst (λ (l : List ℕ). HoldsAll {I = Place} (λ place. HoldsBlocks (IsTextFed taken own.so_far own.held own.file.fault) place own_text (mark_of own_fed.header)) (λ place. AreBlocksLeft own.file.fault place) own.file.place l own_fed.behind)
        is.whole.1 (own_fed.fed.0 is.own_sound.fault) in
        let more = subst (λ (l : List ℕ). HoldsAll {I = Place} (λ place. HoldsBlocks (IsTextFed [] next.so_far next.held next.file.fault) place next_text (mark_of next_fed.header)) (λ place. AreBlocksLeft next.file.fault place) next.file.place next.file.held l)
        (sym same) (next_fed.fed.0 is.next_sound.fault) in
        of_kind new kinds.Blocks (bytes ++ piece) taken e (record {
          header = own_fed.header;
          behind = own_fed.behind ++ piece;
          is_header = own_fed.is_header;
          spelled = ap (λ (l : List ℕ). l ++ piece) own_fed.spelled ∙ append_assoc (header_bytes own_fed.header) own_fed.behind piece;
          fed = (
            (λ none. blocks_join (IsTextFed taken own.so_far own.held own.file.fault) (IsTextFed [] next.so_far next.held next.file.fault) (IsTextFed taken new.so_far new.held new.file.fault) own.file.place next.file.place own.file.fault next.file.fault next.file.held
                own_fed.behind piece own_text next_text (mark_of own_fed.header) (mark_of next_fed.header) is.own_sound.first is.next_sound.first f.mark is.own_sound.text
                (λ a b first second. (
                  (λ none. texts (own_text ++ a) b (text_head next_fed.header) (text_is_head next_fed.header next_fed.is_header) (first.0 is.own_sound.text) (second.0 is.next_sound.text)),
                  λ answer some. absurd (none-some answer (sym is.own_sound.text ∙ some)),
                )) all more),
            λ answer some. absurd (none-some answer (sym is.own_sound.fault ∙ some)),
          );
        })

-- ---- the beginning

-- a header was read, and nothing else
header_begun : (head : Head) → IsHead head → HoldsAll (HoldsLog []) IsLogLeft (record { front = Some (begins_at head (length (head_bytes head))); ready = [] }) [] (head_bytes head)
header_begun head is =
    let size : length (head_bytes head) ≡ count_of (log_bytes head []) = omega (arith, head_short head, length-append (head_bytes head) []) in (
      record {
        front = head_bytes head;
        joins = sym (append-nil (head_bytes head));
        read = record { spelled = sym (append-nil (head_bytes head)); is_head = is; lawful = tt; numbers = λ i. begins_at head (size i) };
      },
      inl refl,
    )

-- a reader of blocks has the mark of the file
mark_is : (is_fed : List ℕ → Type 0) (damage : FeedFault) (file : FileSoFar FeedFault) (fault : Option FeedFault) (bytes : List ℕ) → (fed : IsFedBlocks is_fed damage IsMemory file fault bytes) → file.place.mark ≡ mark_of fed.header
mark_is is_fed damage file None bytes fed = (fed.fed.0 refl).0.read.same
mark_is is_fed damage file (Some fault) bytes fed = (fed.fed.1 fault refl).read.read.same

-- the header and records that were read, if a header was
read_of : (taken : List Logged) (s : LogSoFar) (front : LogFront) (bytes : List ℕ) → s.front ≡ Some front → HoldsLog taken s bytes → IsReadTo front (taken ++ s.ready) bytes
read_of taken s front bytes some holds = rw some at holds

-- the header of the text of a file of format 4 is the one that was read
header_is : (taken : List Logged) (s : LogSoFar) (front : LogFront) (held : List ℕ) (fault : Option FeedFault) (header : Header) (bodies : List (List ℕ)) → IsHeader header → s.front ≡ Some front
    → IsTextFed taken s held fault (text_of header bodies) → text_head header ≡ front.head
header_is taken s front held fault header bodies is some fed =
    let (begin, rest, joins, holds) = text_front_read taken s held fault (text_of header bodies) fed in
    let read = read_of taken s front begin some holds in
    let records = flat_map spelling (taken ++ s.ready) in
    (same_head (text_head header) front.head (joined bodies) (records ++ rest) (text_is_head header is) read.is_head (joins ∙ behind_on (head_bytes front.head) begin records rest read.spelled)).0

-- the header that a feed has read
head_read : (feed : FedLog) (front : LogFront) (bytes : List ℕ) (taken : List Logged) → feed.so_far.front ≡ Some front → IsLogFed feed bytes taken → IsHead front.head
head_read feed front bytes taken some fed =
    let (begin, holds, short) = has_read feed bytes taken fed in
    (read_of taken feed.so_far front begin some holds).is_head

-- a feed begins behind the header that another has read
pub begins_behind : (feed : FedLog) (front : LogFront) (bytes : List ℕ) (taken : List Logged) → (feed.file.kind ≡ kinds.Untold → ⊥) → feed.so_far.front ≡ Some front → IsLogFed feed bytes taken
    → IsFedBehind (begun_feed feed.file front.head) []
begins_behind feed front bytes taken told some fed = by feed.file.kind refl
  where
    new : FedLog
    new = begun_feed feed.file front.head

    is_head : IsHead front.head
    is_head = head_read feed front bytes taken some fed

    by : (kind : FileKind) → feed.file.kind ≡ kind → IsFedBehind new []
    by kinds.Untold e = absurd (told e)
    by kinds.Plain e =
        let header = head_bytes front.head in
        record {
          header = header;
          is_header = inl (front.head, is_head, refl);
          fed = of_kind new kinds.Plain (header ++ []) [] e (
            (λ more sealed. head_not_sealed ((header ++ []) ++ more) front.head more (ap (λ (l : List ℕ). l ++ more) (append-nil header)) sealed),
            ((λ none. subst (λ (l : List ℕ). HoldsAll (HoldsLog []) IsLogLeft new.so_far [] l) (sym (append-nil header)) (header_begun front.head is_head)), λ answer is. absurd (none-some answer is)),
          );
        }
    by kinds.Blocks e =
        let own = as_kind feed kinds.Blocks bytes taken e fed in
        let is_fed = IsTextFed taken feed.so_far feed.held feed.file.fault in
        let has = has_blocks is_fed (damage_after feed.so_far) feed.file feed.fault bytes own in
        let same = header_is taken feed.so_far front feed.held feed.file.fault own.header has.bodies own.is_header some has.fed in
        let text = head_bytes (text_head own.header) in
        let text_fed : IsTextFed [] new.so_far [] None text = (
          (λ none. subst (λ (h : Head). HoldsAll (HoldsLog []) IsLogLeft new.so_far [] (head_bytes h)) (sym same) (header_begun front.head is_head)),
          λ answer is. absurd (none-some answer is),
        ) in
        record {
          header = header_bytes own.header;
          is_header = inr (own.header, own.is_header, refl);
          fed = of_kind new kinds.Blocks (header_bytes own.header ++ []) [] e (record {
            header = own.header;
            behind = [];
            is_header = own.is_header;
            spelled = refl;
            fed = blocks_begun (IsTextFed [] new.so_far [] None) (damage_after new.so_far) new.file.place text (mark_of own.header) None None text_fed refl (mark_is is_fed (damage_after feed.so_far) feed.file feed.fault bytes own) refl refl refl;
          });
        }
