use Rattle.std.proofs.Common.{◌∙◌, ap}
use Rattle.hex.specs.Hex.{decode_sized}
use Rattle.mt_text.specs.Escapes.{first_if_ok}
use Rattle.mt_text.proofs.Reading.{decoded, refused}
use Rattle.mt_text.proofs.escapes.byte_of.Goals as goal

pub returns-in-Ok : goal.returns-in-Ok
returns-in-Ok c = decoded (decode_sized c.as_slice.result.now 1) _ c.decode_to_slice.new.out c.in-Ok.ensures.value ∙ ap (λ text. first_if_ok (decode_sized text 1)) c.as_slice.ensures

pub returns-in-Err : goal.returns-in-Err
returns-in-Err c = refused (decode_sized c.as_slice.result.now 1) _ c.decode_to_slice.new.out c.in-Err.ensures.value ∙ ap (λ text. first_if_ok (decode_sized text 1)) c.as_slice.ensures
