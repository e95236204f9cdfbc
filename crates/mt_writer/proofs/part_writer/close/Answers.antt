use Rattle.std.proofs.Common.{◌∙◌}
use Rattle.mt_record.specs.Parts.{footer_bytes}
use Rattle.mt_writer.proofs.PartLemmas.{ended_by}
use Rattle.mt_writer.proofs.part_writer.close.Goals as goal

pub returns-clause-ok : goal.returns-clause-ok
returns-clause-ok c = (
  c.clear.ensures.items,
  ended_by c.args.mark c.len-before.result c.args.held.now.items (footer_bytes c.args.end c.args.count) c.deref.result.now c.args.ready.now.items c.append_last.new.ready.items (c.len-before.ensures ∙ c.args.held.now.ok.0) (c.deref.ensures.value ∙ c.in_ok-encode_part_footer.ensures.ok) c.in-Ok.ensures.ok,
)
