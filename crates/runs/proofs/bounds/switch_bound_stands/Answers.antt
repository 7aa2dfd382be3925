use Rattle.runs.proofs.Lockstep.{switch_bound}
use Rattle.runs.proofs.bounds.switch_bound_stands.Goals as goal

pub returns : goal.returns
returns c = switch_bound
