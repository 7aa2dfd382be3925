use Rattle.runs.proofs.Computed.{shared_outlasts}
use Rattle.runs.proofs.examples.shared_rule_outlasts_fixed_budgets.Goals as goal

pub returns : goal.returns
returns c = shared_outlasts
