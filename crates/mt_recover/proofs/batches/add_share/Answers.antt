use Rattle.std.proofs.Common.{◌≡◌, ◌+◌, ◌++◌, ◌∙◌, [], List, length, append_assoc, append-nil, sym, ap, subst, arith}
use Rattle.std.proofs.lemmas.List.{flat_map_more}
use Rattle.mt_words.specs.declared.update.Update.{Update}
use Rattle.mt_replay.specs.Batches.{BatchView, batched}
use Rattle.mt_recover.specs.Steps.Batches.{AreFilled}
use Rattle.mt_record.specs.Shares.{updates_of_share}
use Rattle.mt_recover.proofs.Filling.{filled_more, no_updates}
use Rattle.mt_recover.proofs.batches.add_share.Goals as goal

pub returns-then-len-eq0-clause-updates : goal.returns-then-len-eq0-clause-updates
returns-then-len-eq0-clause-updates c =
    let old = batched c.args.batches.now.items in
    sym (ap (λ (us : List Update). old ++ us) (no_updates c.args.share (omega (arith, c.len.ensures, c.if-len-eq0.true))) ∙ append-nil old)

pub returns-then-len-eq0-clause-few : goal.returns-then-len-eq0-clause-few
returns-then-len-eq0-clause-few c = λ records filled.
    let same : records ≡ records + length c.args.share.records = omega (arith, c.len.ensures, c.if-len-eq0.true) in
    subst (λ n. AreFilled c.args.size n c.args.batches.now.items) same filled

pub returns-clause-few : goal.returns-clause-few
returns-clause-few c = λ records filled.
    filled_more c.args.size records c.take_open.new.batches.items c.push-2.new.self.items _ c.in_ok-batch.batch.records (length c.args.share.records) c.in_ok-push-2.ensures.items c.in_ok-push.ensures.records (omega (arith, c.len.ensures, c.if-len-eq0.false)) (c.in_ok-batch.ensures.few records filled)

pub returns-clause-updates : goal.returns-clause-updates
returns-clause-updates c =
    let others = c.take_open.new.batches.items in
    let added = updates_of_share c.args.share in
    ap batched c.in_ok-push-2.ensures.items
    ∙ sym (flat_map_more (λ (batch : BatchView). batch.updates) [] others _)
    ∙ ap (λ (us : List Update). batched others ++ us) c.in_ok-push.ensures.updates
    ∙ sym (append_assoc (batched others) c.in_ok-batch.batch.updates added)
    ∙ ap (λ (us : List Update). us ++ added) (sym c.in_ok-batch.ensures.updates)
