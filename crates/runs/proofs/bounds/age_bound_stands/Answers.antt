use Rattle.runs.proofs.Ages.{age_bound}
use Rattle.runs.proofs.bounds.age_bound_stands.Goals as goal

pub returns : goal.returns
returns c = age_bound
