use Rattle.std.proofs.Common.{◌≡◌, ◌<◌, ◌≤◌, List, ℕ, length, ◌-◌, take, drop, get_or, sym, ap, subst, ◌∙◌, arith}
use Rattle.mt_record.specs.Steps.ByteStrings.{texts_from}
use Rattle.mt_record.proofs.TextLemmas.{texts_count, text_part}
use Rattle.mt_record.proofs.kept.block.Block.get.Goals as goal

-- the number of a text is below the number of ends
below_ends : (bytes ends : List ℕ) (texts : List (List ℕ)) (at : ℕ) → texts_from 0 bytes ends ≡ texts → at < length texts → at < length ends
below_ends bytes ends texts at same below =
    let count = texts_count 0 bytes ends in
    let lengths : length (texts_from 0 bytes ends) ≡ length texts = ap length same in
    omega (arith, count, lengths, below)

pub start_of-start-requires : goal.start_of-start-requires
start_of-start-requires c =
    let below = below_ends c.self.inside.bytes.items c.self.inside.ends c.args.self.now c.args.at c.self.view_is c.requires in
    omega (arith, below)

pub get-end-requires : goal.get-end-requires
get-end-requires c = below_ends c.self.inside.bytes.items c.self.inside.ends c.args.self.now c.args.at c.self.view_is c.requires

pub slice_bounds-result-count : goal.slice_bounds-result-count
slice_bounds-result-count c =
    (text_part c.self.inside.bytes.items c.self.inside.ends c.args.self.now c.args.at c.start_of-start.result c.get-end.result
    c.self.view_is c.self.invariant c.requires c.start_of-start.ensures (c.get-end.ensures c.get-end.result)).0

pub slice_bounds-result-start : goal.slice_bounds-result-start
slice_bounds-result-start c =
    (text_part c.self.inside.bytes.items c.self.inside.ends c.args.self.now c.args.at c.start_of-start.result c.get-end.result
    c.self.view_is c.self.invariant c.requires c.start_of-start.ensures (c.get-end.ensures c.get-end.result)).0

pub slice_bounds-result-end : goal.slice_bounds-result-end
slice_bounds-result-end c =
    let part = text_part c.self.inside.bytes.items c.self.inside.ends c.args.self.now c.args.at c.start_of-start.result c.get-end.result
    c.self.view_is c.self.invariant c.requires c.start_of-start.ensures (c.get-end.ensures c.get-end.result) in
    subst (λ (bs : List ℕ). c.get-end.result ≤ length bs) (sym c.deref.ensures.value) part.1

pub returns : goal.returns
returns c = λ d.
    let part = text_part c.self.inside.bytes.items c.self.inside.ends c.args.self.now c.args.at c.start_of-start.result c.get-end.result
    c.self.view_is c.self.invariant c.requires c.start_of-start.ensures (c.get-end.ensures c.get-end.result) in
    subst (λ (bs : List ℕ). take (c.get-end.result - c.start_of-start.result) (drop c.start_of-start.result bs) ≡ get_or c.args.self.now c.args.at d)
    (sym c.deref.ensures.value) (part.2 d)
