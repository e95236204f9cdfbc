use Rattle.std.proofs.Common.{subst, List, ℕ}
use Rattle.std.specs.Io.KnownBytes.{Appends}
use Rattle.std.proofs.KnownBytes.{Appends-trans}
use Rattle.std.proofs.lemmas.Result.{on_ok_weaker}
use Rattle.mt_text.specs.RecordJson.{hex_json}
use Rattle.mt_text.proofs.json.write_change.Goals as goal

pub returns : goal.returns
returns g c =
    let contents = g.W.Write.contents in
    let kind = contents c.write_kind.new.out in
    let before_key = contents c.write_name.new.out in
    let key = contents c.write_string.new.out in
    let before_version = contents c.write_name-2.new.out in
    let version = contents c.write_decimal.new.out in
    let time = contents c.write_time.new.out in
    let all = contents c.write_columns.new.out in
    let string = subst (λ (bytes : List ℕ). Appends before_key key (hex_json bytes)) c.as_bytes.ensures.value c.in_ok-write_string.ensures in
    on_ok_weaker c.write_columns.result (λ columns.
    Appends-trans (contents c.args.out.now) kind all _ _ c.in_ok-write_kind.ensures
    (Appends-trans kind before_key all _ _ c.in_ok-write_name.ensures
    (Appends-trans before_key key all _ _ string
    (Appends-trans key before_version all _ _ c.in_ok-write_name-2.ensures
    (Appends-trans before_version version all _ _ c.in_ok-write_decimal.ensures
    (Appends-trans version time all _ _ c.in_ok-write_time.ensures columns)))))) c.write_columns.ensures
