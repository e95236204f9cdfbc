use Rattle.std.proofs.Common.{◌≡◌, ◌∙◌, [], ◌++◌, take, drop, refl, sym, ap, take-append-drop}
use Rattle.mt_scan.proofs.Stretched.{reads_both, cut_off, none_cut}
use Rattle.mt_scan.proofs.stretches.Reader.next.Goals as goal

pub returns-clause-reads : goal.returns-clause-reads
returns-clause-reads g c =
    let size = c.in_ok-size.size in
    let all = c.complete.new.self.rest.items in
    let taken : c.replace.result.items ≡ take size all = ap (λ v. v.items) c.replace.ensures.value ∙ c.in_ok-after.ensures.items in
    let dropped : c.replace.new.dest.items ≡ drop size all = ap (λ v. v.items) c.replace.ensures.after ∙ c.in_ok-after.ensures.tail in
    let joins : all ≡ c.replace.result.items ++ c.replace.new.dest.items = sym (take-append-drop size all) ∙ (λ i. sym taken i ++ sym dropped i) in
    reads_both g.S.Source.seen c.args.self.now c.complete.new.self _ [] c.replace.result.items c.in_ok-size.ensures.reads (cut_off g.S.Source.seen c.complete.new.self _ c.replace.result.items refl refl refl joins)

pub returns-clause-none : goal.returns-clause-none
returns-clause-none g c =
    let size = c.in_ok-size.size in
    let all = c.complete.new.self.rest.items in
    let taken : c.replace.result.items ≡ take size all = ap (λ v. v.items) c.replace.ensures.value ∙ c.in_ok-after.ensures.items in
    let dropped : c.replace.new.dest.items ≡ drop size all = ap (λ v. v.items) c.replace.ensures.after ∙ c.in_ok-after.ensures.tail in
    none_cut c.complete.new.self (record c.complete.new.self { rest = c.replace.new.dest }) c.replace.result.items size refl refl taken dropped c.in_ok-size.ensures.within c.in_ok-size.ensures.none
