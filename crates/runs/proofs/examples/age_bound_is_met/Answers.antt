use Rattle.runs.proofs.Computed.{age_met}
use Rattle.runs.proofs.examples.age_bound_is_met.Goals as goal

pub returns : goal.returns
returns c = age_met
