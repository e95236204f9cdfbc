use Rattle.std.proofs.Common.{◌≡◌, ℕ, List, Option, ◌+◌, ◌-◌, IfSome, length, ap, refl, sym, ◌∙◌, subst, arith}
use Rattle.mt_block.specs.Blocks.{IsBody}
use Rattle.mt_writer.specs.Framing.{Buffer, framed, frame_bytes}
use Rattle.mt_writer.specs.Journals.{Writer}
use Rattle.mt_writer.proofs.JournalLemmas.{none_taken}
use Rattle.mt_writer.proofs.FileLemmas.{framed_length, taken_is_file}
use Rattle.mt_writer.proofs.log_writer.LogWriter.take.Goals as goal

pub returns-clause-accepted : goal.returns-clause-accepted
returns-clause-accepted c = λ j keeps.
    let same = ap (λ (w : Writer). w.taken_size) (sym c.self.view_is) ∙ c.if-self-2.false ∙ ap (λ (w : Writer). w.synced_size) c.self.view_is in
    (λ _. (ap (λ (w : Writer). w.failed) (sym c.self.view_is) ∙ c.if-self.false, (none_taken c.args.self.now j keeps).0 same), λ _. refl)

pub returns-clause-body : goal.returns-clause-body
returns-clause-body c = λ j keeps.
    let held = ap (λ (x : Writer). x.buffer) c.self.view_is ∙ keeps.buffer in
    subst (λ (x : Option ℕ × List ℕ). IfSome x.0 (λ m. IsBody x.1)) (λ i. ((c.self.view_is i).mark, held i)) c.take-bytes.ensures.body

pub returns-clause-file : goal.returns-clause-file
returns-clause-file c = λ j file keeps is.
    let w = c.args.self.now in
    let are = c.take-bytes.ensures.bytes ∙ ap (λ (x : Writer). framed x.mark x.buffer) c.self.view_is in
    let frames : c.self.inside.frames + (c.len.result - c.len-records.result) ≡ w.frames + frame_bytes w.mark w.buffer =
    omega (arith, ap (λ (x : Writer). x.frames) c.self.view_is, c.len.ensures, c.len-records.ensures, c.take-bytes.result.ok.0, ap length are, framed_length w.mark w.buffer, ap (λ (x : Writer). length x.buffer) c.self.view_is) in
    taken_is_file w _ j file c.take-bytes.result.items keeps is (subst (λ (x : Writer). IfSome x.mark (λ m. IsBody x.buffer)) c.self.view_is c.take-bytes.ensures.body) are
    (ap (λ (b : Buffer). b.mark) c.take-bytes.ensures.rest ∙ ap (λ (x : Writer). x.mark) c.self.view_is) (ap (λ (x : Writer). x.size) c.self.view_is) frames
