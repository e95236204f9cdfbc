use Rattle.mt_block.proofs.block.block_wanted.Goals as goal

pub returns-in-Some-clause-none : goal.returns-in-Some-clause-none
returns-in-Some-clause-none c = λ none.
    absurd (none (record { number = c.in-Some.number; after = c.in-Some.field-0-1.now; fits = c.in-Some.ensures.found.0; spelled = c.in-Some.ensures.found.1 }))
