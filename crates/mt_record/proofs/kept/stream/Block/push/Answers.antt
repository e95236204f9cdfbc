use Rattle.std.proofs.Common.{◌+◌, refl, arith}
use Rattle.mt_record.proofs.StreamLemmas.{text_pushed, updates_count}
use Rattle.mt_record.proofs.kept.stream.Block.push.Goals as goal

pub returns-clause-ok : goal.returns-clause-ok
returns-clause-ok c =
    let I = c.self.inside in
    let head = rw c.in_ok-reserve.ensures.items at c.put_bytes.ensures.items in
    let front = rw head at c.put_bytes-2.ensures.items in
    let all = rw front at c.put_bytes-3.ensures.items in
    rw (← c.self.view_is) (text_pushed I.texts (I.texts + 1) _ I.bytes.items _ c.args.origin.now c.args.body.now _ refl c.self.invariant c.requires.text refl c.requires.short c.to_be_bytes.ensures all).0

pub invariant_of-self-2 : goal.invariant_of-self-2
invariant_of-self-2 c =
    let I = c.self.inside in
    let head = rw c.in_ok-reserve.ensures.items at c.put_bytes.ensures.items in
    let front = rw head at c.put_bytes-2.ensures.items in
    let all = rw front at c.put_bytes-3.ensures.items in
    (text_pushed I.texts (I.texts + 1) _ I.bytes.items _ c.args.origin.now c.args.body.now _ refl c.self.invariant c.requires.text refl c.requires.short c.to_be_bytes.ensures all).1

pub overflow_add-self : goal.overflow_add-self
overflow_add-self c =
    let count = updates_count c.self.inside.texts c.self.inside.bytes.items c.self.invariant (omega (arith, c.self.inside.bytes.ok.0, c.self.inside.bytes.ok.1)) in
    omega (arith, count.1)
