use Rattle.mt_writer.specs.Journals.{file_of}
use Rattle.mt_laws.specs.Writing.{started_afresh}
use Rattle.mt_laws.proofs.FreshVersions.{survivors_are_below, report_is_below, is_within}
use Rattle.mt_laws.proofs.fresh.a_fresh_start_goes_on.Goals as goal

pub returns-clause-versions : goal.returns-clause-versions
returns-clause-versions c = λ s names left parts now now_parts facts called crash stops u at. survivors_are_below s names left parts now now_parts facts called crash stops u at

pub returns-clause-reported : goal.returns-clause-reported
returns-clause-reported c = λ s names left parts now now_parts outcome called crash stops is. report_is_below s names left parts now now_parts outcome called crash stops is

pub returns-clause-within : goal.returns-clause-within
returns-clause-within c = λ left parts facts file new start low. is_within left parts facts file new start low

pub returns-clause-called : goal.returns-clause-called
returns-clause-called c = λ s names left parts now now_parts facts j new clock places was crash stops start low next.
    started_afresh s names left parts now now_parts facts j new clock places was crash stops start (is_within now now_parts facts (file_of j) new start low) next
