use Rattle.runs.proofs.Foreign.{no_19}
use Rattle.runs.proofs.bounds.own_rule_never_foreign.Goals as goal

pub returns : goal.returns
returns c = no_19
