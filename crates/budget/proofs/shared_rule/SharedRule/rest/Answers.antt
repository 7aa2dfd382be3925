use Rattle.budget.proofs.Tallies.{shared_kept}
use Rattle.budget.proofs.shared_rule.SharedRule.rest.Goals as goal

pub returns-clause-policy : goal.returns-clause-policy
returns-clause-policy c = shared_kept c.args.self.now.tally c.rest.new.self c.rest.ensures.weights
