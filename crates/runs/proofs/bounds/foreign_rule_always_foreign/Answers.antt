use Rattle.runs.proofs.Foreign.{only_19}
use Rattle.runs.proofs.bounds.foreign_rule_always_foreign.Goals as goal

pub returns : goal.returns
returns c = only_19
