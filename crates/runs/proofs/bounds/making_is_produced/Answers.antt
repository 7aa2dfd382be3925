use Rattle.runs.proofs.Calls.{defined_making}
use Rattle.runs.proofs.bounds.making_is_produced.Goals as goal

pub returns : goal.returns
returns c = defined_making
