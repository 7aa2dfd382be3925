use Rattle.std.proofs.Common.{sym, ap, ◌∙◌}
use Rattle.budget.specs.OfRules.{meaning_of_fixed, policy_of_shared, policy_of_fixed}
use Rattle.any_rule.specs.Any.{meaning_of_base, policy_of_base}
use Rattle.any_rule.proofs.Capped.{ceiling_same, policy_same}
use Rattle.any_rule.proofs.BaseRule.under.Goals as goal

pub returns-in_ok-new-in-First-clause-policy : goal.returns-in_ok-new-in-First-clause-policy
returns-in_ok-new-in-First-clause-policy c =
    let e = c.in_ok-new-in-First.ensures in
    policy_same _ _ _ _ (ap policy_of_shared e.1 ∙ ap policy_of_base (sym c.in-First.is)) e.2

pub returns-in_ok-new-in-Second-clause-meaning : goal.returns-in_ok-new-in-Second-clause-meaning
returns-in_ok-new-in-Second-clause-meaning c =
    let e = c.in_ok-new-in-Second.ensures in
    ceiling_same _ _ _ _ (ap meaning_of_fixed e.1 ∙ ap meaning_of_base (sym c.in-Second.is)) e.2

pub returns-in_ok-new-in-Second-clause-policy : goal.returns-in_ok-new-in-Second-clause-policy
returns-in_ok-new-in-Second-clause-policy c =
    let e = c.in_ok-new-in-Second.ensures in
    policy_same _ _ _ _ (ap policy_of_fixed e.1 ∙ ap policy_of_base (sym c.in-Second.is)) e.2
