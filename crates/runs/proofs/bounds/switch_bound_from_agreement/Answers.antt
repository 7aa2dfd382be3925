use Rattle.runs.proofs.Lockstep.{lockstep}
use Rattle.runs.proofs.bounds.switch_bound_from_agreement.Goals as goal

pub returns : goal.returns
returns c = lockstep
