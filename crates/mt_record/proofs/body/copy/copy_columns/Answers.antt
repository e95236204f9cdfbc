use Rattle.std.proofs.Common.{◌++◌, ◌∷◌, [], List, ℕ, sym, ap, ◌∙◌, subst}
use Rattle.mt_words.specs.Limits.{widest}
use Rattle.mt_words.specs.Columns.{CanFollow}
use Rattle.mt_record.specs.Decoding.{columns_counted}
use Rattle.mt_record.proofs.Copying.{take_next, all_taken}
use Rattle.mt_record.proofs.body.copy.copy_columns.Goals as goal

pub append-requires : goal.append-requires
append-requires c =
    let column : ℕ × List ℕ = (c.in-Some.number, c.in-Some.value.now) in
    let found = c.in-Some.ensures.found in
    let next = take_next (columns_counted c.args.carried.now) c.loop-number.columns c.loop-number.rest.now c.in-Some.after.now column c.requires.lawful c.loop-number.invariant found.0 found.1 in
    subst (CanFollow widest c.loop-number.columns) (sym c.in_ok-copy_of.ensures) next.0

pub loop-number-preserved : goal.loop-number-preserved
loop-number-preserved c =
    let column : ℕ × List ℕ = (c.in-Some.number, c.in-Some.value.now) in
    let found = c.in-Some.ensures.found in
    let next = take_next (columns_counted c.args.carried.now) c.loop-number.columns c.loop-number.rest.now c.in-Some.after.now column c.requires.lawful c.loop-number.invariant found.0 found.1 in
    next.1 c.append.new.self (c.append.ensures ∙ ap (λ (added : ℕ × List ℕ). c.loop-number.columns ++ added ∷ []) c.in_ok-copy_of.ensures)

pub returns : goal.returns
returns c = all_taken (columns_counted c.args.carried.now) c.loop-number.columns c.loop-number.rest.now c.requires.lawful c.loop-number.invariant c.in_default.ensures.none
