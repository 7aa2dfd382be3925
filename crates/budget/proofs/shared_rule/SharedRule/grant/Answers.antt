use Rattle.budget.proofs.Tallies.{shared_kept}
use Rattle.budget.proofs.shared_rule.SharedRule.grant.Goals as goal

pub returns-then-may-clause-policy : goal.returns-then-may-clause-policy
returns-then-may-clause-policy c = shared_kept c.args.self.now.tally c.raise.new.self c.raise.ensures.weights
