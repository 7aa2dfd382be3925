use Rattle.std.proofs.Common.{◌≡◌, true, rules}
use Rattle.budget.specs.Budgets.{fixed_fits}
use Rattle.budget.specs.OfRules.{weights_of, total_of, longest_of}
use Rattle.budget.specs.Rules.{fixed_says}
use Rattle.budget.specs.Slots.{ticks_in}
use Rattle.budget.proofs.fixed_rule.FixedRule.grant.Goals as goal

pub raise-requires-clause-fits : goal.raise-requires-clause-fits
raise-requires-clause-fits c =
    let x = c.args.self.now in
    let w = weights_of x.tally in
    let said : fixed_says w (ticks_in x.budgets) c.args.task c.args.run.0 ≡ true = search rules in
    fixed_fits w (total_of x.tally) (longest_of x.tally) (ticks_in x.budgets) x.kept x.within c.args.task c.args.run.0 said
