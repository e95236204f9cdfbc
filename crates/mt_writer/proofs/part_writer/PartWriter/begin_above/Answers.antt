use Rattle.std.proofs.Common.{◌≡◌, ◌++◌, Some, None, [], List, ℕ, sym, ap, ◌∙◌, subst}
use Rattle.mt_writer.specs.PartFiles.{Part, IsPartOf}
use Rattle.mt_writer.proofs.PartLemmas.{begun_above}
use Rattle.mt_writer.proofs.part_writer.PartWriter.begin_above.Goals as goal

pub returns-clause-begins : goal.returns-clause-begins
returns-clause-begins c =
    let w = c.writer.inside in
    let above = c.args.above.now in
    let begun = subst (λ (p : Part). IsPartOf p None [] []) (sym c.writer.view_is) c.in_ok-writer.ensures.begins in
    let key : c.extend_from_slice.new.self.items ≡ above = c.in_ok-extend_from_slice.ensures.items ∙ ap (λ (l : List ℕ). l ++ above) c.clear.ensures.items in
    subst (λ (k : List ℕ). IsPartOf (record { header = w.header; last = Some k; count = w.count; end = w.end; held = w.held.items; ready = w.ready.items }) (Some above) [] []) (sym key) (begun_above _ above begun)
