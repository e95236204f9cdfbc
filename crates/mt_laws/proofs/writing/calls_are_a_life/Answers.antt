use Rattle.mt_laws.proofs.ServerCrashes.{life_of, stands_of, crash_of}
use Rattle.mt_laws.proofs.ServerRestarts.{goes_on}
use Rattle.mt_laws.proofs.SomeCalls.{some_calls}
use Rattle.mt_laws.proofs.writing.calls_are_a_life.Goals as goal

pub returns-clause-life : goal.returns-clause-life
returns-clause-life c = life_of

pub returns-clause-stands : goal.returns-clause-stands
returns-clause-stands c = stands_of

pub returns-clause-crashes : goal.returns-clause-crashes
returns-clause-crashes c = crash_of

pub returns-clause-goes_on : goal.returns-clause-goes_on
returns-clause-goes_on c = goes_on

pub returns-clause-some : goal.returns-clause-some
returns-clause-some c = some_calls
