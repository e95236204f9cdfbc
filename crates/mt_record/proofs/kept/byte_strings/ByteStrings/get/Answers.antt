use Rattle.std.proofs.Common.{◌/◌, ◌%◌, arith}
use Rattle.std.proofs.lemmas.Nat.{div-add-mod', mod_below}
use Rattle.mt_record.proofs.Blocks.{in_full, in_last, past_full}
use Rattle.mt_record.proofs.kept.byte_strings.ByteStrings.get.Goals as goal

pub get-requires-else-block-len : goal.get-requires-else-block-len
get-requires-else-block-len c =
    (past_full c.self.inside.full.items c.self.inside.last c.args.self.now c.args.at c.self.view_is c.self.invariant c.requires (omega (arith, c.if-block-len.false, c.len.ensures, c.self.inside.full.ok.0))).1

pub returns-then-block-len : goal.returns-then-block-len
returns-then-block-len c = λ d.
    rw (← c.self.view_is) (in_full c.self.inside.full.items c.self.inside.last c.index.result.now (c.args.at / 512) (c.args.at % 512) c.args.at c.get.result.now d c.self.invariant.filled
    (omega (arith, c.if-block-len.true, c.len.ensures, c.self.inside.full.ok.0)) (mod_below c.args.at 512 (omega arith)) (div-add-mod' c.args.at 512) c.index.ensures c.get.ensures)

pub returns-else-block-len : goal.returns-else-block-len
returns-else-block-len c = λ d.
    let past = past_full c.self.inside.full.items c.self.inside.last c.args.self.now c.args.at c.self.view_is c.self.invariant c.requires (omega (arith, c.if-block-len.false, c.len.ensures, c.self.inside.full.ok.0)) in
    rw (← c.self.view_is) (in_last c.self.inside.full.items c.self.inside.last (c.args.at % 512) c.args.at c.get-else-block-len.result.now d c.self.invariant.filled past.0 c.get-else-block-len.ensures)
