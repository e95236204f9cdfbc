-- The clashes of updates that come in the order of their keys.
use Rattle.std.proofs.Common.{◌≡◌, ◌↔◌, inl, inr, ℕ, List, [], ◌++◌, IsPermutation, Contains, sym, subst}
use Rattle.std.specs.Prelude.{slice_index_or}
use Rattle.std.proofs.lemmas.Option.{slice_get-get_or}
use Rattle.std.proofs.lemmas.List.Elements.{Contains-append_cases, Contains-append_left, Contains-append_right}
use Rattle.std.proofs.lemmas.List.Sorted.{IsPermutation-sym, Contains-permutation}
use Rattle.mt_words.specs.declared.update.Update.{Update}
use Rattle.mt_words.specs.Words.{IsBelow}
use Rattle.mt_words.proofs.Elements.{no_element}
use Rattle.mt_replay.specs.declared.clash.Place.{Place}
use Rattle.mt_replay.specs.declared.auditor.Seen.{Seen}
use Rattle.mt_words.specs.Walks.{joined}
use Rattle.mt_replay.specs.Cuts.{AreCuts}
use Rattle.mt_replay.specs.Clashes.{Clash, HasUpdateAt, AreClashes, AreClashesOfPieces}
use Rattle.mt_replay.specs.Steps.Walker.{IsLastKey}
use Rattle.mt_replay.specs.Steps.Auditor.{IsSeen, seen_in, AddClashes}
use Rattle.mt_replay.proofs.ClashLemmas.{stands, has_in, no_clashes, same_clashes, clashes_append, clashes_of_updates, updates_of_clashes, same_updates, Either}
use Rattle.mt_replay.proofs.PieceLemmas.{by_pieces}
use Rattle.mt_replay.proofs.SeenLemmas.{seen_stands}

-- no update, no clash
pub no_clash : AreClashes [] []
no_clash = updates_of_clashes [] [] (no_clashes (HasUpdateAt []) (λ clash is. let has = (stands (HasUpdateAt []) clash is).1 in no_element has.update has.stands))

-- the clashes of lower updates come before those of higher ones
clashes_both : (updates others : List Update) (clashes more : List Clash) → ((u w : Update) → Contains updates u → Contains others w → IsBelow u.key w.key) → AreClashes updates clashes → AreClashes others more
    → AreClashes (updates ++ others) (clashes ++ more)
clashes_both updates others clashes more below are too =
    let both = clashes_append (HasUpdateAt updates) (HasUpdateAt others) clashes more (λ k l v w p q s t.
    inl (subst (λ (a : List ℕ). IsBelow a l) s.of_key (subst (IsBelow s.update.key) t.of_key (below s.update t.update s.stands t.stands)))) (clashes_of_updates updates clashes are) (clashes_of_updates others more too) in
    updates_of_clashes (updates ++ others) (clashes ++ more) (same_clashes (Either (HasUpdateAt updates) (HasUpdateAt others)) (HasUpdateAt (updates ++ others)) (clashes ++ more) (λ k v p. (
      λ either. elim either as (λ _. HasUpdateAt (updates ++ others) k v p) [
        | inl s ↦ has_in updates (updates ++ others) k v p s (Contains-append_left updates others s.update s.stands)
        | inr t ↦ has_in others (updates ++ others) k v p t (Contains-append_right updates others t.update t.stands)
      ],
      λ has. elim (Contains-append_cases updates others has.update has.stands) as (λ _. Either (HasUpdateAt updates) (HasUpdateAt others) k v p) [
        | inl at ↦ inl (has_in (updates ++ others) updates k v p has at)
        | inr at ↦ inr (has_in (updates ++ others) others k v p has at)
      ],
    )) both)

-- the clashes of the last key come after those of all others
pub close_some : (before last : List Update) (key : List ℕ) (seen : List Seen) (old new : List Clash) → AreClashes before old → IsLastKey before last key → seen ≡ seen_in last → AddClashes key seen old new → AreClashes (before ++ last) new
close_some before last key seen old new done are shown adds =
    let added = same_clashes (IsSeen key seen) (HasUpdateAt last) adds.added (subst (λ (ss : List Seen). (k : List ℕ) (v : ℕ) (p : Place) → IsSeen key ss k v p ↔ HasUpdateAt last k v p) (sym shown) (seen_stands last key are.same_keys)) adds.are in
    subst (AreClashes (before ++ last)) (sym adds.appended)
    (clashes_both before last old adds.added (λ u w at there. subst (IsBelow u.key) (sym (are.same_keys w there)) (are.below u at)) done (updates_of_clashes last adds.added added))

-- other lists of the same updates have the same clashes
pub moved_clashes : (updates others : List Update) (clashes : List Clash) → IsPermutation updates others → AreClashes others clashes → AreClashes updates clashes
moved_clashes updates others clashes moved are = same_updates others updates clashes (λ u. (λ at. Contains-permutation others updates u (IsPermutation-sym updates others moved) at, λ at. Contains-permutation updates others u moved at)) are

-- the clashes of all pieces, in order, are all clashes
pub pieces_are_audit : (updates : List Update) (cuts : List (List ℕ)) (pieces : List (List Clash)) → AreCuts cuts → AreClashesOfPieces updates cuts pieces → AreClashes updates (joined pieces)
pieces_are_audit updates cuts pieces are pieces_are = by_pieces AreClashes (record { moved = moved_clashes; both = clashes_both }) updates cuts pieces are pieces_are.count
    (λ i d lt. pieces_are.each i (slice_index_or pieces i d) (slice_get-get_or pieces i d lt))
