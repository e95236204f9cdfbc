use Rattle.std.proofs.Common.{inl, inr, ◌++◌, List, flat_map, refl, sym, ap, ◌∙◌, subst, arith}
use Rattle.mt_record.specs.Spelling.{spelling}
use Rattle.mt_record.specs.Runs.{IsSmall}
use Rattle.mt_writer.specs.Framing.{framed}
use Rattle.std.proofs.lemmas.Bool.{false≢true}
use Rattle.mt_writer.specs.Journals.{Journal, Writer, IsFileOf, taking}
use Rattle.mt_laws.specs.Writing.{hand_out}
use Rattle.mt_keeper.specs.declared.keeper.Stage.TheVariants.{Writing}
use Rattle.mt_keeper.specs.declared.keeper.Log.{Log}
use Rattle.mt_keeper.specs.contracts.keeper.Keeper.{the_view}
use Rattle.mt_keeper.specs.Keeping.{Keeping, Holds}
use Rattle.mt_keeper.proofs.OneChanged.{reads, put_back}
use Rattle.mt_keeper.proofs.Writes.{writes, kept_at, same_journal, same_records, records_taken}
use Rattle.mt_keeper.proofs.Refused.{not_written}
use Rattle.mt_keeper.proofs.Files.{set_there, same_writer}
use Rattle.mt_keeper.proofs.keeper.Keeper.take.Goals as goal

pub returns-in_default-stage : goal.returns-in_default-stage
returns-in_default-stage c =
    let k = the_view c.self.inside in
    let x = c.in-Some.log.now in record {
      step = λ s holds. tt;
      bytes = λ s j w holds at there. tt;
      file = λ s j file holds at has. tt;
      small = λ s j holds at. tt;
      err = ap (λ (logs : List Log). record k { logs = logs }) (put_back k.logs c.args.log x c.in-Some.ensures.value) ∙ c.self.view_is;
      failed = λ is. absurd (false≢true (sym c.if-self.false ∙ ap (λ (y : Keeping). y.failed) c.self.view_is ∙ is));
      fault = λ s holds. inr (inl (not_written k c.args.self.now c.args.log x c.self.view_is (reads k.logs c.args.log x c.in-Some.ensures.item.3.0 c.in-Some.ensures.value) c.in_default-stage.not-Writing));
    }

pub returns-in_default-take-clause-fault : goal.returns-in_default-take-clause-fault
returns-in_default-take-clause-fault c = λ s holds.
    let k = the_view c.self.inside in
    let x = c.in-Some.log.now in
    let kept = kept_at k s c.args.log x c.in-Writing.writer (subst (λ (y : Keeping). Holds y s) (sym c.self.view_is) holds)
    (reads k.logs c.args.log x c.in-Some.ensures.item.3.0 c.in-Some.ensures.value) c.in-Writing.is in
    inr (inr (refl, kept.journal, kept.at, λ none. false≢true ((c.in_default-take.ensures.accepted kept.journal kept.keeps).1 (kept.failed, none))))

pub returns-clause-step : goal.returns-clause-step
returns-clause-step c = λ s holds.
    let k = the_view c.self.inside in
    let here = subst (λ (y : Keeping). Holds y s) (sym c.self.view_is) holds in
    let x = c.in-Some.log.now in
    let w = c.in-Writing.writer in
    let later = c.take.new.self in
    writes k s c.args.log x w later k.clock s.clock taking here (reads k.logs c.args.log x c.in-Some.ensures.item.3.0 c.in-Some.ensures.value) c.in-Writing.is (omega arith) here.clock
    (λ j keeps failed last. same_records k.clock w later j (taking j) keeps failed last c.take.ensures.same refl (records_taken j) (c.in-Some-take.ensures.writer j keeps))
    (λ front back j keeps kept. hand_out s front back later j kept)

pub returns-clause-bytes : goal.returns-clause-bytes
returns-clause-bytes c = λ s j v holds at there.
    let k = the_view c.self.inside in
    let x = c.in-Some.log.now in
    let w = c.in-Writing.writer in
    let stands = reads k.logs c.args.log x c.in-Some.ensures.item.3.0 c.in-Some.ensures.value in
    let kept = kept_at k s c.args.log x w (subst (λ (y : Keeping). Holds y s) (sym c.self.view_is) holds) stands c.in-Writing.is in
    let same = same_journal kept.journal j (sym kept.at ∙ at) in
    let writer = same_writer k c.args.self.now c.args.log x w v c.self.view_is stands c.in-Writing.is there in
    c.in-Some-take.ensures.bytes kept.journal kept.keeps ∙ (λ i. framed (writer i).mark (flat_map spelling (same i).held))

pub returns-clause-file : goal.returns-clause-file
returns-clause-file c = λ s j file holds at has.
    let k = the_view c.self.inside in
    let x = c.in-Some.log.now in
    let w = c.in-Writing.writer in
    let stands = reads k.logs c.args.log x c.in-Some.ensures.item.3.0 c.in-Some.ensures.value in
    let kept = kept_at k s c.args.log x w (subst (λ (y : Keeping). Holds y s) (sym c.self.view_is) holds) stands c.in-Writing.is in
    let same = same_journal kept.journal j (sym kept.at ∙ at) in
    let writer = same_writer k c.args.self.now c.args.log x w has.writer c.self.view_is stands c.in-Writing.is has.stands in
    let is_file = subst (λ (y : Writer × Journal). IsFileOf y.0 y.1 file) (λ i. (sym writer i, sym same i)) has.is_file in
    let after = subst (λ (i : Journal). IsFileOf c.take.new.self (taking i) (file ++ c.in-Some-take.bytes.items)) same (c.in-Some-take.ensures.file kept.journal file kept.keeps is_file) in
    record { writer = c.take.new.self; stands = record { log = record x { stage = Writing c.take.new.self }; stands = set_there k.logs c.args.log x _ stands; is = refl }; is_file = after }

pub returns-clause-small : goal.returns-clause-small
returns-clause-small c = λ s j holds at.
    let k = the_view c.self.inside in
    let x = c.in-Some.log.now in
    let stands = reads k.logs c.args.log x c.in-Some.ensures.item.3.0 c.in-Some.ensures.value in
    let kept = kept_at k s c.args.log x c.in-Writing.writer (subst (λ (y : Keeping). Holds y s) (sym c.self.view_is) holds) stands c.in-Writing.is in
    subst (λ (i : Journal). IsSmall (flat_map spelling i.held)) (same_journal kept.journal j (sym kept.at ∙ at)) (c.in-Some-take.ensures.small kept.journal kept.keeps)
