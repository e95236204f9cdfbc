use Rattle.std.proofs.Common.{rules, arith, false, ◌≡◌, ℕ, suc, List, [], ◌∷◌, ◌++◌, length, set, Some, refl, sym, ap, ◌∙◌, subst, append_assoc, length-append}
use Rattle.std.specs.Vec.Iter.{into_iter_items}
use Rattle.std.proofs.lemmas.List.{length_push}
use Rattle.mt_shared.specs.Words.{HandView}
use Rattle.mt_keeper.specs.declared.keeper.Stage.TheVariants.{Writing}
use Rattle.mt_keeper.specs.declared.keeper.Log.{Log}
use Rattle.mt_keeper.specs.Keeping.{Keeping}
use Rattle.mt_keeper.specs.Crews.{LentView, written_from}
use Rattle.mt_keeper.specs.Lending.{IsFresh}
use Rattle.mt_keeper.proofs.OneChanged.{reads}
use Rattle.mt_keeper.proofs.Lending.{AreTaken, next_hand, next_number, fresh_many, untaken, number_in, is_written, one_taken}
use Rattle.mt_keeper.proofs.crew.part.Goals as goal

pub index-number-requires : goal.index-number-requires
index-number-requires c =
    let I = c.loop-hand.invariant in
    let split = ap (λ (l : List HandView). c.loop-hand.yielded ++ l) (sym c.in-Some.ensures.steps.0) ∙ I.rest in
    let h = next_hand c.args.dealt.words.table (length c.args.dealt.numbers.items) c.loop-hand.yielded (into_iter_items c.next.new.self) c.in-Some.hand split in
    omega (arith, c.number.ensures, h.0, ap (λ (x : HandView). x.number) h.1, c.args.dealt.numbers.ok.0)

pub index_mut-requires : goal.index_mut-requires
index_mut-requires c =
    let I = c.loop-hand.invariant in
    let before = c.of-before.result.value in
    let table = c.args.dealt.words.table in
    let numbers = c.args.dealt.numbers.items in
    let split = ap (λ (l : List HandView). c.loop-hand.yielded ++ l) (sym c.in-Some.ensures.steps.0) ∙ I.rest in
    let number = next_number table numbers c.loop-hand.yielded (into_iter_items c.next.new.self) c.in-Some.hand c.number.result c.index-number.result.now split c.number.ensures c.index-number.ensures in
    let named : numbers ≡ written_from 0 before.logs = c.requires.made.named ∙ ap (λ (k : Keeping). written_from 0 k.logs) (sym c.of-before.ensures) in
    let near = number_in before table numbers named (length c.loop-hand.yielded) c.loop-hand.lent.items c.loop-hand.keeper-inside.logs.items I.taken c.index-number.result.now number.1 in
    omega (arith, near, I.taken.same, c.loop-hand.keeper-inside.logs.ok.0)

pub unreachable-requires : goal.unreachable-requires
unreachable-requires c =
    let I = c.loop-hand.invariant in
    let before = c.of-before.result.value in
    let table = c.args.dealt.words.table in
    let numbers = c.args.dealt.numbers.items in
    let logs = c.loop-hand.keeper-inside.logs.items in
    let n = c.index-number.result.now in
    let split = ap (λ (l : List HandView). c.loop-hand.yielded ++ l) (sym c.in-Some.ensures.steps.0) ∙ I.rest in
    let number = next_number table numbers c.loop-hand.yielded (into_iter_items c.next.new.self) c.in-Some.hand c.number.result n split c.number.ensures c.index-number.ensures in
    let named : numbers ≡ written_from 0 before.logs = c.requires.made.named ∙ ap (λ (k : Keeping). written_from 0 k.logs) (sym c.of-before.ensures) in
    let near = number_in before table numbers named (length c.loop-hand.yielded) c.loop-hand.lent.items logs I.taken n number.1 in
    let at = reads logs n c.index_mut.result.now (omega (arith, near, I.taken.same)) c.index_mut.ensures.value in
    let is = is_written before table numbers named (length c.loop-hand.yielded) c.loop-hand.lent.items logs I.taken n number.1 c.index_mut.result.now at in
    c.in_default.not-Writing is.0 (ap (λ (l : Log). l.stage) c.replace-log.ensures.value ∙ is.1)

pub push_reserved-requires : goal.push_reserved-requires
push_reserved-requires c =
    let I = c.loop-hand.invariant in
    let split = ap (λ (l : List HandView). c.loop-hand.yielded ++ l) (sym c.in-Some.ensures.steps.0) ∙ I.rest in
    let h = next_hand c.args.dealt.words.table (length c.args.dealt.numbers.items) c.loop-hand.yielded (into_iter_items c.next.new.self) c.in-Some.hand split in
    omega (arith, I.len, I.room, h.0)

pub loop-hand-preserved : goal.loop-hand-preserved
loop-hand-preserved c =
    let I = c.loop-hand.invariant in
    let before = c.of-before.result.value in
    let table = c.args.dealt.words.table in
    let numbers = c.args.dealt.numbers.items in
    let logs = c.loop-hand.keeper-inside.logs.items in
    let n = c.index-number.result.now in
    let so_far = length c.loop-hand.yielded in
    let hand = c.in-Some.hand in
    let log = c.replace-log.result in
    let split = ap (λ (l : List HandView). c.loop-hand.yielded ++ l) (sym c.in-Some.ensures.steps.0) ∙ I.rest in
    let h = next_hand table (length numbers) c.loop-hand.yielded (into_iter_items c.next.new.self) hand split in
    let number = next_number table numbers c.loop-hand.yielded (into_iter_items c.next.new.self) hand c.number.result n split c.number.ensures c.index-number.ensures in
    let named : numbers ≡ written_from 0 before.logs = c.requires.made.named ∙ ap (λ (k : Keeping). written_from 0 k.logs) (sym c.of-before.ensures) in
    let near = number_in before table numbers named so_far c.loop-hand.lent.items logs I.taken n number.1 in
    let at = reads logs n c.index_mut.result.now (omega (arith, near, I.taken.same)) c.index_mut.ensures.value in
    let is : log ≡ record { segment = log.segment; from = log.from; stage = Writing c.in-Writing.writer }
    = λ i. record { segment = log.segment; from = log.from; stage = c.in-Writing.is i } in
    let lent : LentView = record { table = hand.table; place = hand.number; number = n; segment = log.segment; from = log.from; writer = c.in-Writing.writer; acts = hand.acts; left = 17592186044416; failed = false } in
    let new : IsFresh before table numbers so_far lent = record {
      table_is = ap (λ (x : HandView). x.table) h.1;
      place = ap (λ (x : HandView). x.number) h.1;
      number = number.1;
      was = sym (untaken before table numbers named so_far c.loop-hand.lent.items logs I.taken n number.1) ∙ at ∙ ap (λ (x : Log). Some x) (sym c.replace-log.ensures.value ∙ is);
      acts = ap (λ (x : HandView). x.acts) h.1;
      left = refl;
    } in
    let taken = one_taken before table numbers named so_far c.loop-hand.lent.items logs I.taken n number.1 lent c.replace-log.new.dest new in record {
      rest = append_assoc c.loop-hand.yielded (hand ∷ []) (into_iter_items c.next.new.self) ∙ split;
      len = omega (arith, c.push_reserved.ensures.len, I.len, length_push c.loop-hand.yielded hand);
      room = search rules;
      taken = subst (λ (z : ℕ × List LentView). AreTaken before table numbers z.0 z.1 (set logs n c.replace-log.new.dest)) (λ i. ((let e : suc so_far ≡ length (c.loop-hand.yielded ++ hand ∷ []) = omega (arith, length_push c.loop-hand.yielded hand) in e) i, sym c.push_reserved.ensures.items i)) taken;
      kept = ap (λ (k : Keeping). record k { logs = set logs n c.replace-log.new.dest }) I.kept;
    }

pub returns-clause-many : goal.returns-clause-many
returns-clause-many c =
    let I = c.loop-hand.invariant in
    omega (arith, I.taken.many, ap length I.rest, length-append c.loop-hand.yielded (into_iter_items c.loop-hand.hand-iterator), c.in-None.ensures.steps.0, c.loop-hand.hand-iterator.rest.ok.0, fresh_many c.args.dealt.words.table (length c.args.dealt.numbers.items))

pub returns-clause-fresh : goal.returns-clause-fresh
returns-clause-fresh c = λ i lent at. subst (λ (k : Keeping). IsFresh k c.args.dealt.words.table c.args.dealt.numbers.items i lent) c.of-before.ensures (c.loop-hand.invariant.taken.fresh i lent at)
