use Rattle.runs.proofs.Calls.{defined_ticks}
use Rattle.runs.proofs.bounds.ticks_are_produced.Goals as goal

pub returns : goal.returns
returns c = defined_ticks
