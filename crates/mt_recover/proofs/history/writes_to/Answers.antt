use Rattle.std.proofs.Common.{ℕ, List, Contains, refl, sym, subst}
use Rattle.std.proofs.lemmas.Bool.{false≢true}
use Rattle.std.specs.Option.{option_map}
use Rattle.std.specs.Borrow.{Bor}
use Rattle.mt_words.specs.Changes.{Write}
use Rattle.mt_words.proofs.Elements.{no_element, tail_in}
use Rattle.mt_recover.proofs.HistoryLemmas.{is_written, still_to_come}
use Rattle.mt_recover.proofs.history.writes_to.Goals as goal

pub returns-then-other-number : goal.returns-then-other-number
returns-then-other-number c =
    let bytes = option_map (λ (bytes : Bor (List ℕ)). bytes.now) c.in-Some.field-0-1 in
    (λ _. is_written c.args.update.now.kind c.args.number (c.in-Some.other, bytes) c.loop-other.writes c.next.new.self c.in-Some.ensures.some c.if-other-number.true c.loop-other.invariant.among, λ _. refl)

pub loop-other-preserved : goal.loop-other-preserved
loop-other-preserved c =
    let bytes = option_map (λ (bytes : Bor (List ℕ)). bytes.now) c.in-Some.field-0-1 in
    let write : Write = (c.in-Some.other, bytes) in
    record {
      among = λ w at. c.loop-other.invariant.among w (subst (λ (ws : List Write). Contains ws w) (sym c.in-Some.ensures.some) (tail_in write w c.next.new.self at));
      all = λ b at. still_to_come c.args.number write c.loop-other.writes c.next.new.self b c.in-Some.ensures.some c.if-other-number.false (c.loop-other.invariant.all b at);
    }

pub returns : goal.returns
returns c = (λ no. absurd (false≢true no), λ found. absurd (no_element (c.args.number, found.0) (subst (λ (ws : List Write). Contains ws (c.args.number, found.0)) c.in_default.ensures.none.0 (c.loop-other.invariant.all found.0 found.1))))
