use Rattle.std.proofs.Common.{◌++◌, length, refl, ap, sym, ◌∙◌, subst, arith}
use Rattle.std.proofs.lemmas.List.{length-append}
use Rattle.mt_words.specs.Built.{mark_of}
use Rattle.mt_words.specs.Changes.{Logged}
use Rattle.mt_record.specs.Spelling.{spelling}
use Rattle.mt_writer.specs.Framing.{Buffer, frame_bytes}
use Rattle.mt_writer.specs.contracts.log_writer.LogWriter.{the_view}
use Rattle.mt_writer.specs.Journals.{Writer, Keeps}
use Rattle.mt_writer.specs.Refusing.{HasRoom}
use Rattle.mt_writer.proofs.JournalLemmas.{held_more}
use Rattle.mt_writer.proofs.FileLemmas.{few_or_none, still_small, still_fits}
use Rattle.mt_writer.proofs.log_writer.LogWriter.append_mark.Goals as goal

pub invariant_of-self-2 : goal.invariant_of-self-2
invariant_of-self-2 c =
    let r = mark_of c.args.time in
    let bytes = c.stays_small.new.self.records in
    let stays = c.if-not-stays_small.ensures in
    let all = stays.0 ∙ c.in_ok-append.ensures.ok in
    let spelled = ap (λ (b : Buffer). b.records) all ∙ ap (λ (x : Logged). c.self.inside.held.records ++ spelling x) c.mark.ensures in
    let few = few_or_none c.len-before.result c.stays_small.new.self c.append-2.new.self stays.0 c.self.inside.held c.len-before.ensures stays.1 in
    let fits = still_fits (the_view c.self.inside) r bytes (subst HasRoom (sym c.self.view_is) c.in_ok-admit.ensures.room) (omega arith, tt) spelled few in
    let same = ap (λ (b : Buffer). frame_bytes b.mark bytes) all in
    (omega (arith, fits.0, same, c.len.ensures, c.len-before.ensures), (fits.1, still_small r c.self.inside.held.records bytes c.self.invariant.1.1 spelled few))

pub returns-clause-ok : goal.returns-clause-ok
returns-clause-ok c = λ j keeps.
    let r = mark_of c.args.time in
    let bytes = c.stays_small.new.self.records in
    let here = subst (λ (w : Writer). Keeps w j) (sym c.self.view_is) keeps in
    let spelled = ap (λ (b : Buffer). b.records) (c.if-not-stays_small.ensures.0 ∙ c.in_ok-append.ensures.ok) ∙ ap (λ (x : Logged). c.self.inside.held.records ++ spelling x) c.mark.ensures in
    held_more _ _ j r c.stays_small.new.self.mark bytes _ here (omega arith, tt) (omega (arith, c.requires, ap (λ (w : Writer). w.last) c.self.view_is))
    spelled (omega (arith, ap length spelled, length-append c.self.inside.held.records (spelling r), c.len.ensures, c.len-before.ensures)) refl
