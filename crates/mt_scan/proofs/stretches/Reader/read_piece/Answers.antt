use Rattle.std.proofs.Common.{inl, inr, refl, subst, arith}
use Rattle.std.specs.Result.{IsOk}
use Rattle.std.proofs.lemmas.Bool.{false≢true}
use Rattle.std.proofs.lemmas.Bool.Decides.{nat_tests}
use Rattle.mt_scan.proofs.Stretched.{reads_none, reads_piece, fails_now, piece_more}
use Rattle.mt_scan.proofs.stretches.Reader.read_piece.Goals as goal

pub returns-then-self-clause-reads : goal.returns-then-self-clause-reads
returns-then-self-clause-reads g c = reads_none g.S.Source.seen c.args.self.now

pub returns-then-self-clause-more : goal.returns-then-self-clause-more
returns-then-self-clause-more g c none = (none, inl c.if-self.true)

pub returns-then-self-2-clause-reads : goal.returns-then-self-2-clause-reads
returns-then-self-2-clause-reads g c = reads_none g.S.Source.seen c.args.self.now

pub returns-then-self-2-clause-more : goal.returns-then-self-2-clause-more
returns-then-self-2-clause-more g c none = (none, inr c.if-self-2.true)

pub returns-in_ok-extend_from_slice-in-Ok-clause-reads : goal.returns-in_ok-extend_from_slice-in-Ok-clause-reads
returns-in_ok-extend_from_slice-in-Ok-clause-reads g c =
    reads_piece g.S.Source.seen c.args.self.now _ c.in-Ok.count c.piece.result.now c.in-Ok.ensures.hands_out c.piece.ensures c.in_ok-extend_from_slice-in-Ok.ensures.items refl c.if-self-2.false (λ is. grind (arith, nat_tests, is)) c.advance.ensures.bounded
    (λ is. (c.advance.ensures.steady is).1)

pub returns-in_ok-extend_from_slice-in-Ok-clause-more : goal.returns-in_ok-extend_from_slice-in-Ok-clause-more
returns-in_ok-extend_from_slice-in-Ok-clause-more g c = piece_more c.in-Ok.count _ _ _ c.in-Ok.ensures.hands_out.falls (λ zero none. (none, inl (grind (arith, nat_tests, zero))))

pub returns-in-Err-clause-reads : goal.returns-in-Err-clause-reads
returns-in-Err-clause-reads g c = fails_now g.S.Source.seen c.args.self.now _ refl refl refl c.if-self-2.false (λ is. false≢true (subst IsOk c.in-Err.is (c.advance.ensures.steady is).0))

pub returns-in-Err-clause-more : goal.returns-in-Err-clause-more
returns-in-Err-clause-more g c none = (none, inr refl)
