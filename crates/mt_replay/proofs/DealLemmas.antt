-- Each key lies in one piece, and so updates are dealt to pieces.
use Rattle.std.proofs.Common.{◌≡◌, ◌≢◌, ◌∙◌, inl, inr, ℕ, zero, suc, ◌+◌, ◌<◌, ◌≤◌, true, false, List, [], ◌∷◌, ◌++◌, length, map, Option, Some, refl, sym, ap, subst, cond, fold, append_assoc, arith, length-append, take, get_or}
use Rattle.std.specs.Prelude.{slice_index_or, slice_set, filter, IsPermutation}
use Rattle.std.specs.List.{range_with_len}
use Rattle.std.proofs.lemmas.Bool.{cases_order}
use Rattle.std.proofs.lemmas.Option.{slice_get_past, slice_get-get_or}
use Rattle.std.proofs.lemmas.List.{append-nil, same_lists, get_or_default, length-set, get_or-set_same, get_or-set_other}
use Rattle.std.proofs.lemmas.List.FromFn.{length-map-range_with_len, get_or-map-range_with_len, map-range_with_len_more}
use Rattle.std.proofs.lemmas.List.Elements.{filter-append, All-weaker, filter_passes}
use Rattle.std.proofs.lemmas.List.Sorted.{IsPermutation-append, IsPermutation-trans, IsPermutation-refl}
use Rattle.std.proofs.lemmas.Grind.{common_steps}
use Rattle.mt_words.specs.declared.update.Update.{Update}
use Rattle.mt_words.specs.Words.{AreRising}
use Rattle.mt_words.specs.Walks.{joined}
use Rattle.mt_words.specs.OneLog.{as_list}
use Rattle.mt_replay.specs.declared.window.Window.{Window}
use Rattle.mt_replay.specs.Survivors.{in_window}
use Rattle.mt_replay.specs.Cuts.{AreCuts, is_below, in_piece, updates_in}
use Rattle.mt_replay.specs.Ranges.{dealt_by}
use Rattle.mt_replay.specs.Steps.Dealing.{extended}
use Rattle.mt_words.proofs.KeyOrder.{below_trans}
use Rattle.mt_replay.proofs.KeyOrder.{above_by}
use Rattle.mt_replay.proofs.Rising.{below_later}
use Rattle.mt_replay.proofs.PieceLemmas.{by_pieces}
use Rattle.itertools.proofs.KMergeLemmas.{joined-more}
use Rattle.mt_replay.specs.Divided.{AreRangesOf}
use Rattle.mt_replay.proofs.BatchLemmas.{joined_step}
use Rattle.mt_replay.proofs.FilterLemmas.{filter_every, filter_none}

-- ---- a key and a cut

-- a key that is not below a cut is not below those before it
pub none_above : (cuts : List (List ℕ)) (key : List ℕ) (m : ℕ) → AreRising cuts → m < length cuts → ((d : List ℕ) → is_below key (slice_index_or cuts m d) ≡ false)
    → (k : ℕ) (d : List ℕ) → k < m + 1 → is_below key (slice_index_or cuts k d) ≡ false
none_above cuts key m rise within here k d before =
    let far = below_later cuts rise k m d in
    let up = above_by (slice_index_or cuts k d) (slice_index_or cuts m d) key in
    let last = here d in
    grind arith

-- a key that is below a cut is below those after it
pub all_above : (cuts : List (List ℕ)) (key : List ℕ) (m : ℕ) → AreRising cuts → ((d : List ℕ) → is_below key (slice_index_or cuts m d) ≡ true)
    → (k : ℕ) (d : List ℕ) → m ≤ k → k < length cuts → is_below key (slice_index_or cuts k d) ≡ true
all_above cuts key m rise here k d behind within =
    let far = below_later cuts rise m k d in
    let up = below_trans key (slice_index_or cuts m d) (slice_index_or cuts k d) in
    let first = here d in
    grind arith

-- ---- the piece of a key

-- a key is in the piece whose number is that of the cuts that are not above it
pub piece_at : (cuts : List (List ℕ)) (p : ℕ) (key : List ℕ) → p ≤ length cuts → ((k : ℕ) (d : List ℕ) → k < p → is_below key (slice_index_or cuts k d) ≡ false)
    → ((k : ℕ) (d : List ℕ) → p ≤ k → k < length cuts → is_below key (slice_index_or cuts k d) ≡ true) → in_piece cuts p key ≡ true
piece_at cuts zero key within before after =
    let next = after zero [] in
    let cut = slice_get-get_or cuts zero [] in
    let past = slice_get_past cuts zero in
    grind (arith, common_steps)
piece_at cuts (suc p) key within before after =
    let last = before p [] in
    let next = after (suc p) [] in
    let low = slice_get-get_or cuts p [] in
    let high = slice_get-get_or cuts (suc p) [] in
    let past = slice_get_past cuts (suc p) in
    grind (arith, common_steps)

-- a key of a piece is not in a later one
not_later : (cuts : List (List ℕ)) (p q : ℕ) (key : List ℕ) → AreRising cuts → p < q → q ≤ length cuts → in_piece cuts p key ≡ true → in_piece cuts q key ≡ true → ⊥
not_later cuts p zero key rise lt within first second = absurd (omega arith)
not_later cuts p (suc q) key rise lt within first second =
    let low = slice_get-get_or cuts p [] (omega arith) in
    let high = slice_get-get_or cuts q [] (omega arith) in
    let up = above_by (slice_index_or cuts p []) (slice_index_or cuts q []) key in
    let far = below_later cuts rise p q [] in
    grind arith

-- a key is in one piece alone
pub one_piece : (cuts : List (List ℕ)) (p q : ℕ) (key : List ℕ) → AreRising cuts → p ≤ length cuts → q ≤ length cuts → in_piece cuts p key ≡ true → q ≢ p → in_piece cuts q key ≡ false
one_piece cuts p q key rise within too here apart = let later = not_later cuts p q key rise in let before = not_later cuts q p key rise in grind arith

-- ---- updates that are dealt

-- there is a list for each piece
pub dealt_length : (cuts : List (List ℕ)) (updates : List Update) → length (dealt_by cuts updates) ≡ length cuts + 1
dealt_length cuts updates = length-map-range_with_len (λ i. updates_in cuts i updates) 0 (length cuts + 1)

-- it has the updates of the piece
pub dealt_at : (cuts : List (List ℕ)) (updates : List Update) (i : ℕ) (d : List Update) → i < length cuts + 1 → slice_index_or (dealt_by cuts updates) i d ≡ updates_in cuts i updates
dealt_at cuts updates i d below = get_or-map-range_with_len (λ n. updates_in cuts n updates) 0 (length cuts + 1) i i d below (omega arith)

-- one more list, if all are empty
pub empty_more : (lists more : List (List Update)) (list : List Update) (n : ℕ) → lists ≡ map (λ (i : ℕ). []) (range_with_len 0 n) → list ≡ [] → more ≡ lists ++ list ∷ [] → more ≡ map (λ (i : ℕ). []) (range_with_len 0 (n + 1))
empty_more lists more list n empty none is =
    is ∙ (λ j. empty j ++ none j ∷ []) ∙ sym (map-range_with_len_more (λ (i : ℕ). []) 0 n n (omega arith))

-- one update more belongs to the list of its piece
own_more : (cuts : List (List ℕ)) (i : ℕ) (before : List Update) (u : Update) → in_piece cuts i u.key ≡ true → updates_in cuts i (before ++ u ∷ []) ≡ updates_in cuts i before ++ u ∷ []
own_more cuts i before u here = grind (arith, common_steps)

other_same : (cuts : List (List ℕ)) (i : ℕ) (before : List Update) (u : Update) → in_piece cuts i u.key ≡ false → updates_in cuts i (before ++ u ∷ []) ≡ updates_in cuts i before
other_same cuts i before u apart = grind (arith, common_steps)

pub dealt_more : (cuts : List (List ℕ)) (before : List Update) (u : Update) (p : ℕ) (old more : List Update) → AreRising cuts → p ≤ length cuts → in_piece cuts p u.key ≡ true
    → old ≡ slice_index_or (dealt_by cuts before) p old → more ≡ old ++ u ∷ [] → slice_set (dealt_by cuts before) p more ≡ dealt_by cuts (before ++ u ∷ [])
dealt_more cuts before u p old more rise within here is longer =
    let lists : List (List Update) = dealt_by cuts before in
    let count = dealt_length cuts before in
    let long : length (slice_set lists p more) ≡ length cuts + 1 = length-set lists p more ∙ count in
    same_lists (slice_set lists p more) (dealt_by cuts (before ++ u ∷ [])) (long ∙ sym (dealt_length cuts (before ++ u ∷ []))) (λ k d lt.
    let below : k < length cuts + 1 = omega (arith, lt, long) in
    let right = dealt_at cuts (before ++ u ∷ []) k d below in
    elim (cases_order k p) as (λ _. slice_index_or (slice_set lists p more) k d ≡ slice_index_or (dealt_by cuts (before ++ u ∷ [])) k d) [
      | inl same ↦
          let own = dealt_at cuts before p old (omega (arith, within)) in
          let more_is = own_more cuts p before u here in
          let put = get_or-set_same lists p more d (omega (arith, within, count)) in
          grind arith
      | inr either ↦
          let apart : k ≢ p = grind arith in
          let own = dealt_at cuts before k d below in
          let stays = other_same cuts k before u (one_piece cuts p k u.key rise within (omega (arith, below)) here apart) in
          let kept = get_or-set_other lists p k more d apart in
          cc
    ])

-- one update more, if it survives
pub survivor_dealt : (cuts : List (List ℕ)) (window : Window) (dealt : List Update) (update : Option Update) (u : Update) (p : ℕ) (lists : List (List Update)) (old more : List Update) → AreRising cuts → p ≤ length cuts → in_piece cuts p u.key ≡ true
    → update ≡ Some u → in_window window u ≡ true → lists ≡ dealt_by cuts dealt → old ≡ slice_index_or lists p old → more ≡ old ++ u ∷ []
    → slice_set lists p more ≡ dealt_by cuts (dealt ++ filter (in_window window) (as_list update))
survivor_dealt cuts window dealt update u p lists old more rise within here some survives are is longer =
    let one : filter (in_window window) (as_list update) ≡ u ∷ [] = ap (λ (o : Option Update). filter (in_window window) (as_list o)) some ∙ ap (λ b. cond b (u ∷ []) []) survives in
    ap (λ (ls : List (List Update)). slice_set ls p more) are
    ∙ dealt_more cuts dealt u p old more rise within here (is ∙ ap (λ (ls : List (List Update)). slice_index_or ls p old) are) longer
    ∙ ap (λ (us : List Update). dealt_by cuts (dealt ++ us)) (sym one)

-- ---- dealt lists, one after another

extended_maps : (f g : ℕ → List Update) (ns : List ℕ) → extended (map f ns) (map g ns) ≡ map (λ n. f n ++ g n) ns
extended_maps f g [] = refl
extended_maps f g (n ∷ ns) = ap (λ (lists : List (List Update)). (f n ++ g n) ∷ lists) (extended_maps f g ns)

-- updates and then others are dealt as both together
pub dealt_both : (cuts : List (List ℕ)) (updates others : List Update) → extended (dealt_by cuts updates) (dealt_by cuts others) ≡ dealt_by cuts (updates ++ others)
dealt_both cuts updates others =
    extended_maps (λ i. updates_in cuts i updates) (λ i. updates_in cuts i others) (range_with_len 0 (length cuts + 1))
    ∙ (λ j. map (λ i. sym (filter-append (λ (u : Update). in_piece cuts i u.key) updates others) j) (range_with_len 0 (length cuts + 1)))

pub extended_length : (lists others : List (List Update)) → length (extended lists others) ≡ length lists
extended_length lists [] = refl
extended_length [] (o ∷ others) = refl
extended_length (list ∷ lists) (o ∷ others) = ap suc (extended_length lists others)

-- one more list is appended to the list at its place
pub extended_more : (lists others : List (List Update)) (other old : List Update) → length others < length lists → old ≡ slice_index_or (extended lists others) (length others) old
    → slice_set (extended lists others) (length others) (old ++ other) ≡ extended lists (others ++ other ∷ [])
extended_more [] others other old within is = absurd (omega (arith, within))
extended_more (list ∷ lists) [] other old within is = ap (λ (l : List Update). (l ++ other) ∷ lists) is
extended_more (list ∷ lists) (o ∷ others) other old within is = ap (λ (ls : List (List Update)). (list ++ o) ∷ ls) (extended_more lists others other old (omega (arith, within)) is)

pub range_more : (lists ranges others : List (List Update)) (other old more : List Update) (p : ℕ) → ranges ≡ extended lists others → p ≡ length others → p < length ranges → old ≡ slice_index_or ranges p old → more ≡ old ++ other
    → slice_set ranges p more ≡ extended lists (others ++ other ∷ [])
range_more lists ranges others other old more p so_far place below is longer = let long = extended_length lists others in let next = extended_more lists others other old in grind (arith, common_steps)

-- what several lists of dealt updates have for each piece is what all their updates have
pub dealt_in_turn : (cuts : List (List ℕ)) (before : List Update) (shares : List (List Update)) → fold extended (dealt_by cuts before) (map (dealt_by cuts) shares) ≡ dealt_by cuts (before ++ joined shares)
dealt_in_turn cuts before [] = ap (dealt_by cuts) (sym (append-nil before))
dealt_in_turn cuts before (share ∷ shares) =
    ap (λ (lists : List (List Update)). fold extended lists (map (dealt_by cuts) shares)) (dealt_both cuts before share)
    ∙ dealt_in_turn cuts (before ++ share) shares
    ∙ ap (dealt_by cuts) (append_assoc before share (joined shares))

-- where there is no list left, nothing more is appended
pub extended_past : (lists others more : List (List Update)) → length lists ≤ length others → extended lists (others ++ more) ≡ extended lists others
extended_past [] [] [] past = refl
extended_past [] [] (m ∷ more) past = refl
extended_past [] (o ∷ others) more past = refl
extended_past (list ∷ lists) [] more past = absurd (omega (arith, past))
extended_past (list ∷ lists) (o ∷ others) more past = ap (λ (ls : List (List Update)). (list ++ o) ∷ ls) (extended_past lists others more (omega (arith, past)))

-- ---- all pieces together

-- the pieces together have each update once
pub dealt_all : (cuts : List (List ℕ)) (updates : List Update) → AreCuts cuts → IsPermutation updates (joined (dealt_by cuts updates))
dealt_all cuts updates are =
    let count = dealt_length cuts updates in
    by_pieces IsPermutation (record { moved = IsPermutation-trans; both = λ us ws items more below own too. IsPermutation-append us items ws more own too }) updates cuts (dealt_by cuts updates) are count
    (λ i d lt. subst (IsPermutation (updates_in cuts i updates)) (sym (dealt_at cuts updates i d (omega (arith, lt, count)))) (IsPermutation-refl (updates_in cuts i updates)))

-- ---- what a piece has

-- there is a range for each piece
pub ranges_count : (cuts : List (List ℕ)) (ranges : List (List Update)) → AreRangesOf cuts ranges → length ranges ≡ length cuts + 1
ranges_count cuts ranges are = ap (λ (ls : List (List Update)). length ls) are.dealt ∙ dealt_length cuts are.updates

module _ (cuts : List (List ℕ)) (updates : List Update) (i : ℕ) (rise : AreRising cuts) (within : i ≤ length cuts) where
  -- the ranges before a place
  abbrev before : ℕ → List (List Update)
  before n = map (λ (k : ℕ). updates_in cuts k updates) (range_with_len 0 n)

  own : updates_in cuts i (updates_in cuts i updates) ≡ updates_in cuts i updates
  own = let every = filter_passes (λ (u : Update). in_piece cuts i u.key) updates in filter_every (λ (u : Update). in_piece cuts i u.key) (updates_in cuts i updates) every

  other : (k : ℕ) → k ≤ length cuts → i ≢ k → updates_in cuts i (updates_in cuts k updates) ≡ []
  other k too apart = filter_none (λ (u : Update). in_piece cuts i u.key) (updates_in cuts k updates)
      (All-weaker (λ (u : Update). in_piece cuts k u.key ≡ true) (λ (u : Update). in_piece cuts i u.key ≡ false) (λ u here. one_piece cuts k i u.key rise too within here apart) (updates_in cuts k updates) (filter_passes (λ (u : Update). in_piece cuts k u.key) updates))

  one_more : (n : ℕ) → updates_in cuts i (joined (before (n + 1))) ≡ updates_in cuts i (joined (before n)) ++ updates_in cuts i (updates_in cuts n updates)
  one_more n =
      ap (λ (ls : List (List Update)). updates_in cuts i (joined ls)) (map-range_with_len_more (λ (k : ℕ). updates_in cuts k updates) 0 n n (omega arith))
      ∙ ap (updates_in cuts i) (joined-more (before n) (updates_in cuts n updates))
      ∙ filter-append (λ (u : Update). in_piece cuts i u.key) (joined (before n)) (updates_in cuts n updates)

  -- the ranges before the piece have none of its updates
  none_yet : (n : ℕ) → n ≤ i → updates_in cuts i (joined (before n)) ≡ []
  none_yet zero below = refl
  none_yet (suc n) below =
      let one : suc n ≡ n + 1 = omega arith in
      ap (λ (m : ℕ). updates_in cuts i (joined (before m))) one ∙ one_more n ∙ (λ j. none_yet n (omega (arith, below)) j ++ other n (omega (arith, below, within)) (λ e. absurd (omega (arith, below, e))) j)

  -- the ranges up to a later place have all of them
  all_then : (n : ℕ) → i < n → n ≤ length cuts + 1 → updates_in cuts i (joined (before n)) ≡ updates_in cuts i updates
  all_then zero behind all = absurd (omega (arith, behind))
  all_then (suc n) behind all =
      let one : suc n ≡ n + 1 = omega arith in
      let more = one_more n in
      let so_far = all_then n in
      let others = other n (omega (arith, all)) in
      let none = none_yet n in
      let ours = own in
      grind (arith, common_steps)

-- one list more
pub longer : (lists : List (List Update)) (i : ℕ) (next : List Update) → i < length lists → next ≡ get_or lists i next → length (joined (take (i + 1) lists)) ≡ length (joined (take i lists)) + length next
longer lists i next below is = ap (λ (us : List Update). length us) (joined_step lists i next below is) ∙ length-append (joined (take i lists)) next

-- the range of a piece has the piece's updates of all ranges
pub own_range : (cuts : List (List ℕ)) (ranges : List (List Update)) (i : ℕ) (range : List Update) → AreCuts cuts × AreRangesOf cuts ranges → i ≤ length cuts → range ≡ get_or ranges i range → range ≡ updates_in cuts i (joined ranges)
own_range cuts ranges i range are within is =
    let us : List Update = are.1.updates in
    is
    ∙ ap (λ (ls : List (List Update)). get_or ls i range) are.1.dealt
    ∙ dealt_at cuts us i range (omega (arith, within))
    ∙ sym (ap (λ (ls : List (List Update)). updates_in cuts i (joined ls)) are.1.dealt ∙ all_then cuts us i are.0.0 within (length cuts + 1) (omega (arith, within)) (omega arith))

-- the ranges are those that all their updates make
pub dealt_anew : (cuts : List (List ℕ)) (ranges : List (List Update)) → AreCuts cuts × AreRangesOf cuts ranges → ranges ≡ dealt_by cuts (joined ranges)
dealt_anew cuts ranges are =
    let count : length ranges ≡ length cuts + 1 = ranges_count cuts ranges are.1 in
    same_lists ranges (dealt_by cuts (joined ranges)) (count ∙ sym (dealt_length cuts (joined ranges))) (λ k d lt.
    let within : k < length cuts + 1 = omega (arith, lt, count) in
    own_range cuts ranges k (get_or ranges k d) are (omega (arith, within)) (get_or_default ranges k d (get_or ranges k d) lt) ∙ sym (dealt_at cuts (joined ranges) k d within))

-- the texts of a range, and then the entries of its piece, are the updates of the piece
pub of_texts : (cuts : List (List ℕ)) (logged held range texts : List Update) (i : ℕ) → range ≡ updates_in cuts i logged → texts ≡ range ++ updates_in cuts i held → texts ≡ updates_in cuts i (logged ++ held)
of_texts cuts logged held range texts i is all = grind (arith, common_steps)
