-- What a feed that drops late records has read.
use Rattle.std.proofs.Common.{◌≡◌, ◌∙◌, ℕ, ◌+◌, ◌-◌, ◌<◌, ◌≤◌, ◌^◌, min, true, List, [], ◌++◌, length, Option, Some, None, Result, Ok, Err, refl, sym, ap, subst, append_assoc, arith}
use Rattle.std.specs.Option.{IsSome}
use Rattle.std.specs.Result.{is_ok, OnOk}
use Rattle.std.proofs.lemmas.Option.{none-some}
use Rattle.std.specs.List.{filter}
use Rattle.std.proofs.lemmas.Bool.{false≢true}
use Rattle.std.proofs.lemmas.List.{length-append}
use Rattle.std.proofs.lemmas.List.Elements.{All-weaker, All-append, filter-append}
use Rattle.mt_words.specs.Changes.{Logged, is_mark}
use Rattle.mt_record.specs.Logs.{latest}
use Rattle.mt_record.specs.declared.read.FeedFault.{FeedFault}
use Rattle.mt_record.specs.LogFeeding.{latest_read, IsLogFed, FedLog}
use Rattle.mt_record.proofs.FileFeeds.{has_read, log_fed_on}
use Rattle.mt_record.specs.declared.kept.log.Dropped.{Dropped}
use Rattle.mt_record.specs.Cutting.{HasCut, IsCountOf}
use Rattle.mt_record.proofs.RecordLemmas.{marks_and_updates}
use Rattle.mt_scan.specs.declared.dropping_feed.DroppingFeed.{DroppingFeed}
use Rattle.mt_scan.specs.Steps.DroppingFeeds.{taken_of, GoesOn, KeepsRecords, HasDropped, IsFedBelow}
use Rattle.mt_scan.proofs.Rises.{Rise, read_rise, read_latest, latest_behind, rise_front, rise_behind, never_falls, all_past, all_below, cut_below}

-- the records that a feed has read
module _ (feed : FedLog) (bytes taken : List _) (fed : IsLogFed feed bytes taken) where
  pub fed_rise : Rise 0 (taken ++ feed.so_far.ready)
  fed_rise = let (front, read, short) = has_read feed bytes taken fed in read_rise taken feed.so_far front read

  pub fed_latest : latest_read feed.so_far.front ≡ latest 0 (taken ++ feed.so_far.ready)
  fed_latest = let (front, read, short) = has_read feed bytes taken fed in read_latest taken feed.so_far front read

-- what was read under one limit holds under a lower one
lowered : (feed : DroppingFeed) (limit lower : ℕ) (bytes : List ℕ) → lower ≤ limit → HasDropped feed limit bytes → HasDropped feed lower bytes
lowered feed limit lower bytes le h = record {
  late = h.late;
  fed = h.fed;
  past = All-weaker (λ (r : Logged). limit ≤ r.timestamp) (λ (r : Logged). lower ≤ r.timestamp) (λ r is. omega (arith, is, le)) h.late h.past;
  marks = h.marks;
  dropped = h.dropped;
  goes_on = λ sound. by feed.kept (h.goes_on sound);
}
  where
    by : (kept : Option (List Logged)) → GoesOn limit kept h.late → GoesOn lower kept h.late
    by None is = is
    by (Some kept) is = omega (arith, is, le)

-- ---- dropping

-- no record is at or past the limit
pub none_late : (feed : DroppingFeed) (limit : ℕ) (bytes : List ℕ) → HasDropped feed limit bytes → feed.feed.fault ≡ None → feed.kept ≡ None → latest_read feed.feed.so_far.front < limit → IsFedBelow feed limit bytes
none_late feed limit bytes h sound none below =
    let late : h.late ≡ [] = rw none at (h.goes_on sound) in
    let taken : taken_of feed.kept ++ h.late ≡ [] = (λ i. taken_of (none i) ++ late i) in
    let fed = subst (IsLogFed feed.feed bytes) taken h.fed in
    let rise = fed_rise feed.feed bytes [] fed in
    let last = fed_latest feed.feed bytes [] fed in
    let all = all_below 0 limit feed.feed.so_far.ready rise (omega (arith, last, below)) in
    record { read = h; keeps = λ sound. rw none all }

pub count_both : (xs ys : List Logged) → length (filter is_mark (xs ++ ys)) ≡ length (filter is_mark xs) + length (filter is_mark ys)
count_both xs ys = ap length (filter-append is_mark xs ys) ∙ length-append (filter is_mark xs) (filter is_mark ys)

-- there are no more marks than records
others : (rs : List Logged) → length (filter is_mark rs) ≤ length rs
others rs = omega (arith, marks_and_updates 0 0 rs)

-- a record was late before: so are all records that the feed has, and those that were kept are cut once more
pub more_late : (old new : DroppingFeed) (limit : ℕ) (bytes : List ℕ) (was kept : List Logged) (gone later : Dropped) → HasDropped old limit bytes → old.feed.fault ≡ None → old.kept ≡ Some was → new.kept ≡ Some kept
    → new.feed ≡ record old.feed { so_far = record old.feed.so_far { ready = [] } } → ((taken : List Logged) → IsLogFed old.feed bytes taken → IsLogFed new.feed bytes (taken ++ old.feed.so_far.ready))
    → IsCountOf old.feed.so_far.ready later → HasCut limit was kept gone → new.marks ≡ min (min (old.marks + gone.marks) (2 ^ 64 - 1) + later.marks) (2 ^ 64 - 1)
    → new.dropped ≡ min (min (old.dropped + gone.updates) (2 ^ 64 - 1) + later.updates) (2 ^ 64 - 1) → IsFedBelow new limit bytes
more_late old new limit bytes was kept gone later h sound some same taken_is feeds went cut marks dropped =
    let ready : List Logged = old.feed.so_far.ready in
    let goes_on : limit ≤ latest 0 (was ++ h.late) = rw some at (h.goes_on sound) in
    let rise : Rise 0 ((was ++ h.late) ++ ready) = subst (λ (k : Option (List Logged)). Rise 0 ((taken_of k ++ h.late) ++ ready)) some (fed_rise old.feed bytes (taken_of old.kept ++ h.late) h.fed) in
    let past = all_past limit (latest 0 (was ++ h.late)) ready (rise_behind 0 (was ++ h.late) ready rise) goes_on in
    let up = never_falls (latest 0 (was ++ h.late)) ready (rise_behind 0 (was ++ h.late) ready rise) in
    let last = latest_behind 0 (was ++ h.late) ready in
    let all : (was ++ h.late) ++ ready ≡ kept ++ (cut.late ++ (h.late ++ ready)) =
    append_assoc was h.late ready ∙ ap (λ (l : List Logged). l ++ (h.late ++ ready)) cut.joins ∙ append_assoc kept cut.late (h.late ++ ready) in
    let kept_rise : Rise 0 kept = rise_front 0 kept (cut.late ++ (h.late ++ ready)) (subst (Rise 0) all rise) in
    let fed : IsLogFed new.feed bytes ((was ++ h.late) ++ ready) = subst (λ (k : Option (List Logged)). IsLogFed new.feed bytes ((taken_of k ++ h.late) ++ ready)) some (feeds (taken_of old.kept ++ h.late) h.fed) in
    let read : HasDropped new limit bytes = record {
      late = cut.late ++ (h.late ++ ready);
      fed = subst (IsLogFed new.feed bytes) (all ∙ ap (λ (k : Option (List Logged)). taken_of k ++ (cut.late ++ (h.late ++ ready))) (sym same)) fed;
      past = All-append (λ (r : Logged). limit ≤ r.timestamp) cut.late (h.late ++ ready) cut.past (All-append (λ (r : Logged). limit ≤ r.timestamp) h.late ready h.past past);
      marks = omega (arith, marks, h.marks, went.marks, cut.counted.marks, count_both cut.late (h.late ++ ready), count_both h.late ready);
      dropped = omega (
        arith,
        dropped,
        h.dropped,
        went.marks,
        went.count,
        cut.counted.marks,
        cut.counted.count,
        count_both cut.late (h.late ++ ready),
        count_both h.late ready,
        length-append cut.late (h.late ++ ready),
        length-append h.late ready,
        others h.late,
      );
      goes_on = λ _. rw same (omega (arith, goes_on, up, last, ap (latest 0) all));
    } in
    record { read = read; keeps = λ _. rw same (ap (λ (f : FedLog). f.so_far.ready) taken_is, cut_below limit limit kept kept_rise cut.ends (omega arith)) }

-- the first late record, and all records after it
pub first_late : (old new : DroppingFeed) (limit : ℕ) (bytes : List ℕ) (kept : List Logged) (gone : Dropped) → HasDropped old limit bytes → old.feed.fault ≡ None → old.kept ≡ None → new.kept ≡ Some kept
    → new.feed ≡ record old.feed { so_far = record old.feed.so_far { ready = [] } } → ((taken : List Logged) → IsLogFed old.feed bytes taken → IsLogFed new.feed bytes (taken ++ old.feed.so_far.ready))
    → HasCut limit old.feed.so_far.ready kept gone → limit ≤ latest_read old.feed.so_far.front → new.marks ≡ min (old.marks + gone.marks) (2 ^ 64 - 1) → new.dropped ≡ min (old.dropped + gone.updates) (2 ^ 64 - 1) → IsFedBelow new limit bytes
first_late old new limit bytes kept gone h sound none some taken_is feeds cut past marks dropped =
    let ready : List Logged = old.feed.so_far.ready in
    let late : h.late ≡ [] = rw none at (h.goes_on sound) in
    let taken : taken_of old.kept ++ h.late ≡ [] = (λ i. taken_of (none i) ++ late i) in
    let fed = subst (IsLogFed old.feed bytes) taken h.fed in
    let rise = fed_rise old.feed bytes [] fed in
    let last = fed_latest old.feed bytes [] fed in
    let kept_rise : Rise 0 kept = rise_front 0 kept cut.late (subst (Rise 0) cut.joins rise) in
    let no_marks : length (filter is_mark h.late) ≡ 0 = ap (λ (l : List Logged). length (filter is_mark l)) late in
    let read : HasDropped new limit bytes = record {
      late = cut.late;
      fed = subst (IsLogFed new.feed bytes) (cut.joins ∙ ap (λ (k : Option (List Logged)). taken_of k ++ cut.late) (sym some)) (feeds [] fed);
      past = cut.past;
      marks = omega (arith, marks, h.marks, no_marks, cut.counted.marks);
      dropped = omega (arith, dropped, h.dropped, ap length late, cut.counted.count, cut.counted.marks);
      goes_on = λ _. rw some (omega (arith, past, last, ap (latest 0) cut.joins));
    } in
    record { read = read; keeps = λ _. rw some (ap (λ (f : FedLog). f.so_far.ready) taken_is, cut_below limit limit kept kept_rise cut.ends (omega arith)) }

-- a fault stays, whatever follows
pub stays_fed : (feed : DroppingFeed) (limit : ℕ) (bytes more : List ℕ) → IsSome feed.feed.fault → IsFedBelow feed limit bytes → IsFedBelow feed limit (bytes ++ more)
stays_fed feed limit bytes more stopped h =
    let there = fault_of feed.feed.fault stopped in
    let never : (P : Type 0) → feed.feed.fault ≡ None → P = λ P sound. absurd (none-some there.0 (sym sound ∙ there.1)) in
    record {
      read = record {
        late = h.read.late;
        fed = log_fed_on feed.feed there.0 bytes more (taken_of feed.kept ++ h.read.late) there.1 h.read.fed;
        past = h.read.past;
        marks = h.read.marks;
        dropped = h.read.dropped;
        goes_on = λ sound. never (GoesOn limit feed.kept h.read.late) sound;
      };
      keeps = λ sound. never (KeepsRecords limit feed.kept feed.feed.so_far.ready) sound;
    }
  where
    fault_of : (o : Option FeedFault) → IsSome o → (f : FeedFault) × (o ≡ Some f)
    fault_of None is = absurd (false≢true is)
    fault_of (Some f) is = (f, refl)

-- ---- the steps

pub was_sound : {X F : Type 0} (fault : Option F) (answer : Result X F) → ((f : F) → fault ≡ Some f → answer ≡ Err f) → is_ok answer ≡ true → fault ≡ None
was_sound None answer again ok = refl
was_sound (Some f) answer again ok = absurd (false≢true (sym (ap is_ok (again f refl)) ∙ ok))

pub now_sound : {X F : Type 0} (P : Type 0) (answer : Result X F) → OnOk answer P → is_ok answer ≡ true → P
now_sound P (Ok x) on ok = on
now_sound P (Err f) on ok = absurd (false≢true ok)

-- one more chunk, under a limit that may have fallen
pub read_on : (old new : DroppingFeed) (was limit : ℕ) (bytes piece : List ℕ) (h : IsFedBelow old was bytes) → limit ≤ was → new ≡ record old { feed = new.feed } → old.feed.fault ≡ None
    → IsLogFed new.feed (bytes ++ piece) (taken_of old.kept ++ h.read.late) → HasDropped new limit (bytes ++ piece)
read_on old new was limit bytes piece h le same sound fed = lowered new was limit (bytes ++ piece) le (record {
  late = h.read.late;
  fed = subst (λ (k : Option (List Logged)). IsLogFed new.feed (bytes ++ piece) (taken_of k ++ h.read.late)) (sym (ap (λ (f : DroppingFeed). f.kept) same)) fed;
  past = h.read.past;
  marks = ap (λ (f : DroppingFeed). f.marks) same ∙ h.read.marks;
  dropped = ap (λ (f : DroppingFeed). f.dropped) same ∙ h.read.dropped;
  goes_on = λ _. subst (λ (k : Option (List Logged)). GoesOn was k h.read.late) (sym (ap (λ (f : DroppingFeed). f.kept) same)) (h.read.goes_on sound);
})

-- a chunk that shows a fault
pub read_fault : (old new : DroppingFeed) (was limit : ℕ) (bytes piece : List ℕ) (fault : FeedFault) (h : IsFedBelow old was bytes) → limit ≤ was → new ≡ record old { feed = new.feed } → new.feed.fault ≡ Some fault
    → IsLogFed new.feed (bytes ++ piece) (taken_of old.kept ++ h.read.late) → IsFedBelow new limit (bytes ++ piece)
read_fault old new was limit bytes piece fault h le same there fed =
    let never : (P : Type 0) → new.feed.fault ≡ None → P = λ P sound. absurd (none-some fault (sym sound ∙ there)) in
    record {
      read = lowered new was limit (bytes ++ piece) le (record {
        late = h.read.late;
        fed = subst (λ (k : Option (List Logged)). IsLogFed new.feed (bytes ++ piece) (taken_of k ++ h.read.late)) (sym (ap (λ (f : DroppingFeed). f.kept) same)) fed;
        past = h.read.past;
        marks = ap (λ (f : DroppingFeed). f.marks) same ∙ h.read.marks;
        dropped = ap (λ (f : DroppingFeed). f.dropped) same ∙ h.read.dropped;
        goes_on = λ sound. never (GoesOn was new.kept h.read.late) sound;
      });
      keeps = λ sound. never (KeepsRecords limit new.kept new.feed.so_far.ready) sound;
    }
