use Rattle.std.proofs.Common.{◌∙◌}
use Rattle.std.proofs.lemmas.Result.{on_ok_weaker}
use Rattle.mt_writer.proofs.Framed.{one_more}
use Rattle.mt_writer.proofs.held.Held.append.Goals as goal

pub returns-clause-ok : goal.returns-clause-ok
returns-clause-ok c = on_ok_weaker c.keep_room.result
    (λ same. one_more c.self.inside.mark c.self.inside.bytes c.make_room.new.bytes c.keep_room.new.bytes.items _ c.args.self.now c.self.view_is c.in_ok-make_room.ensures.front
    c.make_room.ensures.same (same ∙ c.in_ok-encode_record.ensures.ok))
    c.keep_room.ensures.ok
