use Rattle.runs.proofs.Calls.{shared_stands}
use Rattle.runs.proofs.bounds.shared_rule_is_a_rule.Goals as goal

pub returns : goal.returns
returns c = shared_stands
