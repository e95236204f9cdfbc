use Rattle.std.proofs.Common.{Some, ap, ◌∙◌}
use Rattle.mt_block.specs.Blocks.{mark_of as mark_in}
use Rattle.mt_writer.specs.Framing.{Buffer}
use Rattle.mt_writer.specs.Journals.{NewFile}
use Rattle.mt_writer.proofs.FileLemmas.{begun_is_file}
use Rattle.mt_writer.proofs.new_log.NewLog.created.Goals as goal

pub returns-clause-file : goal.returns-clause-file
returns-clause-file c = λ head begins. begun_is_file c.args.self _ head begins (ap (λ (b : Buffer). b.mark) c.new.ensures ∙ ap Some c.mark.ensures ∙ ap (λ (n : NewFile). Some (mark_in n.header)) c.self.view_is) (λ i. 37) (λ i. 40)
