use Rattle.std.proofs.Common.{◌∙◌, sym, ap, drop}
use Rattle.mt_record.specs.Given.{change_of}
use Rattle.mt_record.specs.Parts.{entry_spelling}
use Rattle.mt_writer.proofs.PartLemmas.{only_entry}
use Rattle.mt_writer.proofs.part_writer.hold.Goals as goal

pub returns-clause-ok : goal.returns-clause-ok
returns-clause-ok c =
    let all = c.deref.ensures.value in
    only_entry c.args.mark c.len-before.result (entry_spelling (change_of c.args.given)) c.args.held.now.items c.args.ready.now.items c.deref.result.now c.drop_first.new.bytes.items c.append_block.new.out.items
    (c.len-before.ensures ∙ c.args.held.now.ok.0) (all ∙ c.in_ok-encode_given_entry.ensures.ok) (c.drop_first.ensures ∙ ap (drop c.len-before.result) (sym all)) c.in-Ok.ensures.ok c.in-Ok.ensures.body
