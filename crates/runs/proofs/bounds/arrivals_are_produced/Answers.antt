use Rattle.runs.proofs.Calls.{defined_arrivals}
use Rattle.runs.proofs.bounds.arrivals_are_produced.Goals as goal

pub returns : goal.returns
returns c = defined_arrivals
