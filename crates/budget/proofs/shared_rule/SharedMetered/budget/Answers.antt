use Rattle.std.proofs.Common.{◌≡◌, ◌/◌, ltb, sym, ap, ◌∙◌, rules}
use Rattle.budget.specs.OfRules.{weights_of, total_of, longest_of, budget_of_shared}
use Rattle.budget.specs.Budgets.{budgeted}
use Rattle.budget.proofs.Tallies.{zeroth, above}
use Rattle.budget.proofs.shared_rule.SharedMetered.budget.Goals as goal

pub returns-clause-tied : goal.returns-clause-tied
returns-clause-tied c run =
    let t = c.args.self.now.tally in
    let i = c.args.task in
    let is : c.left_by_others.result.0 / c.of-weight.result.0 ≡ budget_of_shared c.args.self.now i = search rules in
    budgeted (weights_of t) (total_of t) (longest_of t) i run (zeroth t i) (above t i) t.within ∙ ap (ltb run) (sym is)
