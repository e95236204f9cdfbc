use Rattle.std.proofs.Common.{List, ℕ, inl, inr, ◌++◌, ap, ◌∙◌, arith}
use Rattle.byteorder.specs.Endian.{big_bytes}
use Rattle.mt_record.proofs.PartItems.{broken}
use Rattle.mt_record.proofs.feed.part_items.PartItems.read_footer.Goals as goal

pub returns-then-count : goal.returns-then-count
returns-then-count g c =
    let end = c.in-Some.ensures.found in
    let count = c.in-Some-u32_at.ensures.found in
    let spelled = ap (λ (x : List ℕ). big_bytes 4 0 ++ x) (end.1 ∙ ap (λ (x : List ℕ). big_bytes 8 c.in-Some.end ++ x) count.1) in (
      λ _ _ h. h,
      broken g.E.Entries.listed c.args.self.now c.args.head c.broken.result (big_bytes 4 0 ++ c.args.bytes.now) c.requires.head c.broken.ensures
          (rw c.requires.open (inr (inr (inl (record {
            end = c.in-Some.end;
            number = c.in-Some-u32_at.count;
            more = c.in-Some-u32_at.after.now;
            fits = count.0;
            differs = λ e. c.if-count.true (omega (arith, e, c.count.ensures));
            spelled = spelled;
          }))))),
    )
