use Rattle.std.proofs.Common.{◌∙◌, ◌++◌, [], List, ℕ, refl, sym, ap, append_assoc}
use Rattle.std.proofs.KnownBytes.{Appends-nil, Appends-trans}
use Rattle.mt_text.proofs.PairLemmas.{encode_is, encode_append, in_two}
use Rattle.mt_text.proofs.digits.write_hex.Goals as goal

pub loop-rest-init : goal.loop-rest-init
loop-rest-init g c = record { done = []; parts = refl; printed = rw (encode_is []) (Appends-nil (g.W.Write.contents c.args.out.now)) }

pub loop-rest-preserved : goal.loop-rest-preserved
loop-rest-preserved g c =
    let so_far = c.loop-rest.invariant in
    let chunk = c.split_at.result.0.now in
    let after = c.split_at.result.1.now in
    let parts = in_two c.min.result c.loop-rest.rest.now chunk after c.split_at.ensures.front c.split_at.ensures.back in
    record {
      done = so_far.done ++ chunk;
      parts = so_far.parts ∙ ap (λ (x : List ℕ). so_far.done ++ x) parts ∙ sym (append_assoc so_far.done chunk after);
      printed = rw (encode_append so_far.done chunk) (Appends-trans _ _ _ _ _ so_far.printed c.in_ok-write_chunk.ensures);
    }
