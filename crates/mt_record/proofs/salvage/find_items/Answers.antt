use Rattle.std.proofs.Common.{◌++◌, [], List, sym, subst}
use Rattle.std.proofs.lemmas.List.{append-nil}
use Rattle.mt_words.specs.Limits.{limits_of}
use Rattle.mt_record.specs.declared.salvage.Found.{Found}
use Rattle.mt_record.specs.Salvage.{AreFound}
use Rattle.mt_record.proofs.Salvages.{fewer_left, found_on}
use Rattle.mt_record.proofs.salvage.find_items.Goals as goal

pub items-smaller : goal.items-smaller
items-smaller c = fewer_left c.args.items c.args.format c.items.rest.now c.in-Some.found c.in-Some.after.now c.in-Some.ensures.some

pub items-preserved : goal.items-preserved
items-preserved c others are =
    subst (λ (xs : List Found). AreFound c.args.items (limits_of c.args.format) c.args.bytes.now (xs ++ others)) (sym c.in_ok-push.ensures.items)
    (found_on c.args.items (limits_of c.args.format) c.args.bytes.now c.items.rest.now c.in-Some.after.now c.items.all.items c.in-Some.found c.in-Some.ensures.some c.items.invariant others are)

pub returns : goal.returns
returns c = subst (AreFound c.args.items (limits_of c.args.format) c.args.bytes.now) (append-nil c.items.all.items) (c.items.invariant [] c.in_default.ensures.none)
