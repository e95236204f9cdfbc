use Rattle.std.proofs.Common.{◌≡◌, ◌∙◌, ℕ, ◌+◌, ◌-◌, ◌++◌, take, drop, refl, sym, ap, arith, drop-drop}
use Rattle.mt_words.specs.Walks.{Pair}
use Rattle.mt_c.specs.Flat.{pair_bytes}
use Rattle.mt_c.proofs.Dumps.{is_unfull, pair_taken}
use Rattle.mt_c.proofs.filling.FillerVisitorFilling.visit.Goals as goal

pub returns : goal.returns
returns c =
    let old = c.args.filling.now in
    let pair : Pair = (c.args.key.now, c.args.columns.now) in
    let end = old.at + c.pair_length-length.result in
    let bytes : c.fill_pair.new.out ≡ pair_bytes pair = c.fill_pair.ensures in
    let back : drop (end - old.at) (drop old.at old.out.now) ≡ drop end old.out.now =
    drop-drop (end - old.at) old.at old.out.now ∙ ap (λ (n : ℕ). drop n old.out.now) (omega arith) in
    let unfull = is_unfull old.stop c.if-is_some.ensures in
    record {
      same_out = refl;
      same_end = refl;
      filled = λ before earlier is. pair_taken before old _ earlier pair unfull unfull refl (sym c.if-not-is_until.ensures) (ap (λ (n : ℕ). old.at + n) c.pair_length-length.ensures.value) (omega arith) (omega arith) (λ few. omega arith)
          (λ i. take old.at old.out.now ++ (bytes i ++ back i)) is;
    }
