use Rattle.std.proofs.Common.{◌≤◌, length, rules}
use Rattle.std.proofs.lemmas.List.{nil_from_length}
use Rattle.mt_tree.proofs.Puts.{put_none, put_one}
use Rattle.mt_tree.proofs.layer.push_border.Goals as goal

pub returns-then-is_empty : goal.returns-then-is_empty
returns-then-is_empty c = put_none _ _ (nil_from_length c.args.places.items (search rules))

pub returns : goal.returns
returns c =
    let some : 1 ≤ length c.args.places.items = search rules in
    put_one _ _ c.args.places c.in_ok-push.ensures.items c.requires.lawful some c.requires.few
