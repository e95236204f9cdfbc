use Rattle.std.proofs.Common.{◌≡◌, ◌++◌, List, ℕ, take, inl, inr, sym, ap, ◌∙◌, subst, refl}
use Rattle.std.proofs.Math.Seq.{take-append_seam}
use Rattle.std.proofs.lemmas.List.{append-nil}
use Rattle.mt_block.specs.Blocks.{HasNoHead, HasSomeHead}
use Rattle.std.proofs.lemmas.Result.{err_from_is_err_and}
use Rattle.mt_record.specs.Feeding.{IsFedBy}
use Rattle.mt_record.specs.Unsealing.{place_of, IsSeam}
use Rattle.mt_record.proofs.Unsealing.{passes, seam_kept, more_passed, searched, not_empty}
use Rattle.mt_record.proofs.feed.blocks.Blocks.search.Goals as goal

pub returns-in_err-extend : goal.returns-in_err-extend
returns-in_err-extend g c =
    let inner = c.args.self.now.inner in
    let p = err_from_is_err_and c.from_residual.result c.from_residual.ensures.1 in
    rw p.1 (
      λ taken front h. seam_kept (IsFedBy (g.I.Items.holds taken.0) g.I.Items.is_left g.I.Items.shows inner.items inner.held.items inner.fault) taken.1 taken.2 (place_of c.args.self.now) _ front c.in_err-extend.ensures.err h,
      inr (inr (c.in_err-extend.field-0.0, p.2)),
    )

pub returns-then-has_some_head : goal.returns-then-has_some_head
returns-then-has_some_head g c =
    let inner = c.args.self.now.inner in
    let place = place_of c.args.self.now in
    let bytes = c.args.bytes.now in
    let kept : c.truncate.new.self.items ≡ place.seam =
    c.truncate.ensures.items ∙ ap (take c.len-kept.result) c.in_ok-extend.ensures.ok ∙ ap (λ n. take n (place.seam ++ bytes)) (c.len-kept.ensures ∙ c.args.self.now.seam.ok.0) ∙ take-append_seam place.seam bytes in
    let some = subst (HasSomeHead place.mark) (c.deref.ensures.value ∙ c.in_ok-extend.ensures.ok ∙ ap (λ (l : List ℕ). l ++ bytes) (sym kept)) c.if-has_some_head.ensures in (
      λ taken front h. seam_kept (IsFedBy (g.I.Items.holds taken.0) g.I.Items.is_left g.I.Items.shows inner.items inner.held.items inner.fault) taken.1 taken.2 place c.truncate.new.self.items front kept h,
      inr (inl (c.requires.sound, c.damaged.ensures, searched place.searching _ _ c.requires.searching some)),
    )

pub returns : goal.returns
returns g c =
    let inner = c.args.self.now.inner in
    let place = place_of c.args.self.now in
    let bytes = c.args.bytes.now in
    let all = c.in_ok-extend.ensures.ok in (
      record {
        front = bytes;
        joins = sym (append-nil bytes);
        read = λ taken before h.
            passes (IsFedBy (g.I.Items.holds taken.0) g.I.Items.is_left g.I.Items.shows inner.items inner.held.items inner.fault) taken.1 taken.2 place (record place { seam = c.shorten.new.seam.items }) before bytes refl h (λ skipped passed.
            more_passed place skipped bytes c.shorten.new.seam.items
            c.requires.searching (subst (HasNoHead place.mark) (c.deref.ensures.value ∙ all) c.if-has_some_head.ensures) (subst (λ (l : List ℕ). IsSeam l c.shorten.new.seam.items) all c.shorten.ensures) passed);
      },
      not_empty bytes c.is_empty.result c.is_empty.ensures c.if-is_empty.false,
    )
