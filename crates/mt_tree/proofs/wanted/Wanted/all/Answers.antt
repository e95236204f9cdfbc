use Rattle.std.proofs.Common.{true, false, replicate, arith}
use Rattle.std.proofs.lemmas.List.{get_or-replicate}
use Rattle.mt_words.specs.declared.limits.TheConstants.{MOST_COLUMNS}
use Rattle.mt_tree.proofs.WantedLemmas.{all_wanted}
use Rattle.mt_tree.proofs.wanted.Wanted.all.Goals as goal

pub returns-clause-whole : goal.returns-clause-whole
returns-clause-whole c = λ columns are. all_wanted (replicate MOST_COLUMNS true) columns (λ number least. get_or-replicate MOST_COLUMNS number true false (omega (arith, least))) are

pub returns-clause-value : goal.returns-clause-value
returns-clause-value c = λ number least. get_or-replicate MOST_COLUMNS number true false (omega (arith, least))
