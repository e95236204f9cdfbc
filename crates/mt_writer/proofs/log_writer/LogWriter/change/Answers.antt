use Rattle.std.proofs.Common.{length, refl, ap, sym, ◌∙◌, subst, arith}
use Rattle.std.proofs.lemmas.List.{length-append}
use Rattle.mt_words.specs.Changes.{changed}
use Rattle.mt_record.specs.Given.{change_of}
use Rattle.mt_record.specs.Spelling.{spelling}
use Rattle.mt_writer.specs.Framing.{Buffer, frame_bytes}
use Rattle.mt_writer.specs.contracts.log_writer.LogWriter.{the_view}
use Rattle.mt_writer.specs.Journals.{Writer, Keeps}
use Rattle.mt_writer.specs.Refusing.{HasRoom}
use Rattle.mt_writer.proofs.JournalLemmas.{held_more}
use Rattle.mt_writer.proofs.FileLemmas.{few_or_none, still_small, still_fits}
use Rattle.mt_writer.proofs.log_writer.LogWriter.change.Goals as goal

pub overflow_add-self : goal.overflow_add-self
overflow_add-self c =
    let r = changed c.in_ok-time.time (change_of c.args.given) in
    let stays = c.if-not-stays_small.ensures in
    let spelled = ap (λ (b : Buffer). b.records) (stays.0 ∙ c.in_ok-append_change.ensures.ok) in
    let fits = still_fits (the_view c.self.inside) r c.stays_small.new.self.records (subst HasRoom (sym c.self.view_is) c.in_ok-time.ensures.room) (omega (arith, c.in_ok-time.ensures.ok.1), (c.in_ok-allow.ensures.ok, c.requires))
    spelled (few_or_none c.len-before.result c.stays_small.new.self c.append_change.new.self stays.0 c.self.inside.held c.len-before.ensures stays.1) in
    omega (arith, fits.0, c.len.ensures, c.len-before.ensures)

pub invariant_of-self-2 : goal.invariant_of-self-2
invariant_of-self-2 c =
    let r = changed c.in_ok-time.time (change_of c.args.given) in
    let bytes = c.stays_small.new.self.records in
    let stays = c.if-not-stays_small.ensures in
    let all = stays.0 ∙ c.in_ok-append_change.ensures.ok in
    let spelled = ap (λ (b : Buffer). b.records) all in
    let few = few_or_none c.len-before.result c.stays_small.new.self c.append_change.new.self stays.0 c.self.inside.held c.len-before.ensures stays.1 in
    let fits = still_fits (the_view c.self.inside) r bytes (subst HasRoom (sym c.self.view_is) c.in_ok-time.ensures.room) (omega (arith, c.in_ok-time.ensures.ok.1), (c.in_ok-allow.ensures.ok, c.requires))
    spelled few in
    let same = ap (λ (b : Buffer). frame_bytes b.mark bytes) all in
    (omega (arith, fits.0, same, c.len.ensures, c.len-before.ensures), (fits.1, still_small r c.self.inside.held.records bytes c.self.invariant.1.1 spelled few))

pub returns-clause-ok : goal.returns-clause-ok
returns-clause-ok c = λ j keeps.
    let r = changed c.in_ok-time.time (change_of c.args.given) in
    let bytes = c.stays_small.new.self.records in
    let here = subst (λ (w : Writer). Keeps w j) (sym c.self.view_is) keeps in
    let spelled = ap (λ (b : Buffer). b.records) (c.if-not-stays_small.ensures.0 ∙ c.in_ok-append_change.ensures.ok) in
    held_more _ _ j r c.stays_small.new.self.mark bytes _ here (omega (arith, c.in_ok-time.ensures.ok.1), (c.in_ok-allow.ensures.ok, c.requires)) (omega (arith, c.in_ok-time.ensures.ok.0, ap (λ (w : Writer). w.last) c.self.view_is))
    spelled (omega (arith, ap length spelled, length-append c.self.inside.held.records (spelling r), c.len.ensures, c.len-before.ensures)) refl
