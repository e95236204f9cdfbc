use Rattle.mt_laws.proofs.SomeReading.{reading_or_fault}
use Rattle.mt_laws.proofs.readings.some_reading.Goals as goal

pub returns : goal.returns
returns c = reading_or_fault
