-- The policy of a new rule is that of its table and its list.
use Rattle.std.proofs.Common.{◌≡◌, ℕ, Bool, List, ap, ◌∙◌}
use mathlib.Core.Path.{fun_ext}
use Rattle.tasks.specs.declared.units.Ticks.{Ticks}
use Rattle.table.specs.Verdict.{Draft}
use Rattle.budget.specs.declared.shared.Shared.{Shared}
use Rattle.budget.specs.declared.fixed.Fixed.{Fixed}
use Rattle.budget.specs.OfRules.{meaning_of_shared, policy_of_shared, policy_of_fixed, NewOf, FixedOf}
use Rattle.budget.specs.Rules.{shared_says, fixed_says, policy_under}
use Rattle.budget.specs.Slots.{ticks_in}
use Rattle.budget.specs.Weights.{rule_weight}

pub new_shared : (d : Draft) (s : Shared) → NewOf d (meaning_of_shared s) → policy_of_shared s ≡ shared_says (rule_weight d) d.total.0
new_shared d s new = ap (λ w. shared_says w (meaning_of_shared s).total) (fun_ext new.weights) ∙ ap (shared_says (rule_weight d)) new.total

pub new_fixed : (d : Draft) (cs : List Ticks) (f : Fixed) → FixedOf d cs f → (longest : ℕ → ℕ) → policy_of_fixed f longest ≡ fixed_says (rule_weight d) (ticks_in cs)
new_fixed d cs f made longest = fun_ext (λ i. fun_ext (made.says i))

pub new_ceiling : (policy : (ℕ → ℕ) → ℕ → ℕ → Bool) (xs cs : List Ticks) → ((i : ℕ) → ticks_in xs i ≡ ticks_in cs i) → policy_under policy (ticks_in xs) ≡ policy_under policy (ticks_in cs)
new_ceiling policy xs cs e = ap (policy_under policy) (fun_ext e)
