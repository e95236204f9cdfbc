use Rattle.std.proofs.Common.{◌≡◌, [], ◌∷◌, ◌++◌, List, ℕ, length, map, ap, subst, arith}
use Rattle.std.proofs.lemmas.List.{append-nil, length-append, length-map}
use Rattle.mt_words.specs.Walks.{joined}
use Rattle.mt_record.proofs.Feeds.{nil_if_empty, some_if_not}
use Rattle.mt_scan.specs.Steps.Stretches.{ReadsOn}
use Rattle.mt_scan.proofs.Stretched.{reads_none, reads_both, joined_push, some_pushed}
use Rattle.mt_scan.proofs.stretches.Reader.read.Goals as goal

pub stretches-init : goal.stretches-init
stretches-init g c = record { reads = rw c.new-stretches.ensures.items (reads_none g.S.Source.seen c.args.self); some = rw c.new-stretches.ensures.items (omega arith) }

pub stretches-preserved : goal.stretches-preserved
stretches-preserved g c =
    let I = c.stretches.invariant in
    let xs = c.stretches.stretches.items in
    let x = c.in_ok-stretch.stretch in
    let some = some_if_not x.items _ c.is_empty.result x.ok.0 c.is_empty.ensures c.if-is_empty.false in
    record {
      reads = rw (c.in_ok-push.ensures.items, joined_push (λ stretch. stretch.items) xs x)
          (reads_both g.S.Source.seen c.args.self c.stretches.reader c.next.new.self (joined (map (λ stretch. stretch.items) xs)) x.items I.reads c.in_ok-stretch.ensures.reads);
      some = rw c.in_ok-push.ensures.items (some_pushed (λ stretch. stretch.items) xs x I.some some);
    }

pub returns-then-is_empty : goal.returns-then-is_empty
returns-then-is_empty g c =
    let I = c.stretches.invariant in
    let xs = c.stretches.stretches.items in
    let x = c.in_ok-stretch.stretch in
    let none = nil_if_empty x.items _ c.is_empty.result x.ok.0 c.is_empty.ensures c.if-is_empty.true in
    let front = joined (map (λ stretch. stretch.items) xs) in
    let nothing = subst (λ (l : List ℕ). ReadsOn g.S.Source.seen c.stretches.reader c.next.new.self l) none c.in_ok-stretch.ensures.reads in
    record {
      reads = subst (λ (l : List ℕ). ReadsOn g.S.Source.seen c.args.self c.next.new.self l) (append-nil front) (reads_both g.S.Source.seen c.args.self c.stretches.reader c.next.new.self front [] I.reads nothing);
      some = rw length-map I.some;
      none = λ _. c.in_ok-stretch.ensures.none none;
    }

pub returns : goal.returns
returns g c =
    let I = c.stretches.invariant in
    let xs = c.stretches.stretches.items in
    record {
      reads = I.reads;
      some = rw length-map I.some;
      none = λ empty. absurd (omega (arith, ap length empty, length-map xs (λ stretch. stretch.items), c.stretches-test.false, c.len.ensures, c.stretches.stretches.ok.0, c.requires));
    }
