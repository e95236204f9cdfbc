use Rattle.std.proofs.Common.{◌-◌, length, take, drop, true, inr, sym, refl}
use Rattle.std.proofs.lemmas.List.{append-nil}
use Rattle.std.proofs.lemmas.Result.{err_from_is_err_and}
use Rattle.mt_record.specs.Feeding.{IsFedBy}
use Rattle.mt_record.specs.Unsealing.{place_of}
use Rattle.mt_record.proofs.Unsealing.{passes, seam_kept, first_passed, is_seam_slice, broken_some}
use Rattle.mt_record.proofs.feed.blocks.Blocks.begin_search.Goals as goal

pub returns-in_err-extend : goal.returns-in_err-extend
returns-in_err-extend g c =
    let inner = c.args.self.now.inner in
    let p = err_from_is_err_and c.from_residual.result c.from_residual.ensures.1 in
    rw p.1 (
      λ taken front h. seam_kept (IsFedBy (g.I.Items.holds taken.0) g.I.Items.is_left g.I.Items.shows inner.items inner.held.items inner.fault) taken.1 taken.2 (place_of c.args.self.now) _ front c.in_err-extend.ensures.err h,
      inr (inr (c.in_err-extend.field-0.0, p.2)),
    )

pub returns : goal.returns
returns g c =
    let inner = c.args.self.now.inner in
    let place = place_of c.args.self.now in
    let bytes = c.args.bytes.now in
    let behind = c.args.behind.now in
    let start = c.saturating_sub-start.result in (
      record {
        front = bytes;
        joins = sym (append-nil bytes);
        read = λ taken before h.
            passes (IsFedBy (g.I.Items.holds taken.0) g.I.Items.is_left g.I.Items.shows inner.items inner.held.items inner.fault) taken.1 taken.2 place (record place { searching = true; seam = c.extend.new.seam.items }) before bytes refl h (λ skipped passed.
            first_passed place skipped bytes behind (take (length behind - start) (drop start behind)) c.extend.new.seam.items
            c.requires.first c.requires.broken c.if-has_some_head.ensures (is_seam_slice behind start c.saturating_sub-start.ensures) c.in_ok-extend.ensures.ok passed);
      },
      broken_some place.mark bytes behind c.requires.broken,
    )
