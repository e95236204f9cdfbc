-- Pieces that were each replayed from a range.
use Rattle.std.proofs.Common.{◌≡◌, ◌∙◌, ℕ, zero, suc, ◌+◌, ◌<◌, List, [], ◌∷◌, ◌++◌, length, map, sym, ap, subst, arith}
use Rattle.std.specs.Prelude.{slice_get, slice_index_or, Some}
use Rattle.std.specs.List.{AllZip, enumerate_from}
use Rattle.std.proofs.lemmas.List.{length-map, get_or-map}
use Rattle.std.proofs.lemmas.List.FromFn.{length-enumerate_from, get_or-enumerate_from}
use Rattle.std.proofs.lemmas.Option.{slice_get_within, get_or_from_slice_get}
use Rattle.std.proofs.lemmas.Slice.Zip.{AllZip-long}
use Rattle.mt_words.specs.declared.update.Update.{Update}
use Rattle.mt_words.specs.Walks.{joined}
use Rattle.mt_replay.specs.Cells.{AreApart}
use Rattle.mt_replay.specs.Cuts.{updates_in}
use Rattle.mt_replay.specs.Pieces.{IsPiece, ArePieces}
use Rattle.mt_replay.specs.Ranges.{dealt_by}
use Rattle.mt_replay.proofs.DealLemmas.{dealt_at, dealt_length}
use Rattle.mt_tree.specs.Borders.{DraftView, empty_draft, layer_walk}
use Rattle.mt_recover.specs.Steps.Replaying.{IsRangeIn, IsReplayOf}

-- what holds for two lists place by place holds at each place
zip_at : {A B : Type 0} (R : A → B → Type 0) (xs : List A) (ys : List B) → AllZip R xs ys → (k : ℕ) (d : A) (e : B) → k < length xs → R (slice_index_or xs k d) (slice_index_or ys k e)
zip_at R [] ys zip k d e lt = absurd (omega (arith, lt))
zip_at R (x ∷ xs) [] zip k d e lt = absurd zip
zip_at R (x ∷ xs) (y ∷ ys) zip zero d e lt = zip.0
zip_at R (x ∷ xs) (y ∷ ys) zip (suc k) d e lt = zip_at R xs ys zip.1 k d e (omega (arith, lt))

module _ (cuts : List (List ℕ)) (ranges : List (List Update)) (dealt : ranges ≡ dealt_by cuts (joined ranges)) where
  -- there is a range for each piece
  pub range_count : length ranges ≡ length cuts + 1
  range_count = ap length dealt ∙ dealt_length cuts (joined ranges)

  -- with the updates that lie in it
  range_at : (k : ℕ) (d : List Update) → k < length ranges → slice_index_or ranges k d ≡ updates_in cuts k (joined ranges)
  range_at k d lt = ap (λ (ls : List (List Update)). slice_index_or ls k d) dealt ∙ dealt_at cuts (joined ranges) k d (omega (arith, lt, range_count))

  job_at : (k : ℕ) (d : ℕ × List Update) → k < length ranges → slice_index_or (enumerate_from 0 ranges) k d ≡ (k, slice_index_or ranges k d.1)
  job_at k d lt = get_or-enumerate_from 0 ranges k d lt ∙ ap (λ (n : ℕ). (n, slice_index_or ranges k d.1)) (omega arith)

  -- the range of a piece has the updates that lie in it
  pub piece_is : (piece : ℕ) (range : List Update) → slice_get ranges piece ≡ Some range → (piece < length cuts + 1) × IsRangeIn cuts piece range
  piece_is piece range here =
      let within : piece < length ranges = slice_get_within ranges piece range here in
      (omega (arith, within, range_count), (joined ranges, sym (get_or_from_slice_get ranges piece range range here) ∙ range_at piece range within))

  -- the drafts of all ranges, in order, are the pieces
  pub all_replayed : (entries : List Update) (drafts : List DraftView) → AllZip (λ job draft. IsReplayOf cuts entries job.0 job.1 (layer_walk draft)) (enumerate_from 0 ranges) drafts
      → AreApart (joined ranges ++ entries) → ArePieces (joined ranges ++ entries) cuts (map layer_walk drafts)
  all_replayed entries drafts all apart = record {
    count = omega (arith, length-map drafts layer_walk, long, range_count);
    each = λ k piece here.
        let within : k < length drafts = omega (arith, slice_get_within (map layer_walk drafts) k piece here, length-map drafts layer_walk) in
        let in_ranges : k < length ranges = omega (arith, within, long) in
        let own = zip_at (λ job draft. IsReplayOf cuts entries job.0 job.1 (layer_walk draft)) (enumerate_from 0 ranges) drafts all k (0, []) empty_draft (omega (arith, in_ranges, length-enumerate_from 0 ranges)) in
        let one = subst (λ (job : ℕ × List Update). IsReplayOf cuts entries job.0 job.1 (layer_walk (slice_index_or drafts k empty_draft))) (job_at k (0, []) in_ranges) own (joined ranges) (range_at k [] in_ranges) apart in
        subst (IsPiece (joined ranges ++ entries) cuts k) (sym (get_or-map layer_walk drafts k empty_draft piece within) ∙ get_or_from_slice_get (map layer_walk drafts) k piece piece here) one;
  }
    where
      long : length drafts ≡ length ranges
      long = AllZip-long (λ job draft. IsReplayOf cuts entries job.0 job.1 (layer_walk draft)) (enumerate_from 0 ranges) drafts all ∙ length-enumerate_from 0 ranges
