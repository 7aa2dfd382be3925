-- The meaning of a rule that is chosen as the program runs: that of the rule it holds.
use Rattle.std.specs.Prelude.{ℕ, min, Bool}
use Rattle.budget.specs.declared.ceiling.Ceiling.{Ceiling}
use Rattle.budget.specs.declared.fixed.Fixed.{Fixed}
use Rattle.budget.specs.declared.shared.Shared.{Shared}
use Rattle.budget.specs.Meaning.{Meaning}
use Rattle.budget.specs.OfRules.{meaning_of_shared, meaning_of_fixed, policy_of_shared, policy_of_fixed, budget_of_shared, budget_of_fixed}
use Rattle.budget.specs.Rules.{under_ceiling, policy_under}
use Rattle.budget.specs.Slots.{ticks_in}
use Rattle.any_rule.specs.declared.OneOf.{OneOf}
use Rattle.any_rule.specs.Either.{of_either}

-- the shared or the fixed rule
abbrev pub Base : Type 0
Base = OneOf Shared Fixed

-- one of them under a ceiling
abbrev pub Capped : Type 0
Capped = OneOf (Ceiling Shared) (Ceiling Fixed)

-- either of these, with or without a ceiling
abbrev pub Any : Type 0
Any = OneOf Base Capped

abbrev pub meaning_of_base : Base → Meaning
meaning_of_base = of_either meaning_of_shared meaning_of_fixed

abbrev pub policy_of_base : Base → (ℕ → ℕ) → ℕ → ℕ → Bool
policy_of_base = of_either policy_of_shared policy_of_fixed

abbrev pub budget_of_base : Base → ℕ → ℕ
budget_of_base = of_either budget_of_shared budget_of_fixed

abbrev pub meaning_of_any : Any → Meaning
meaning_of_any = of_either meaning_of_base (of_either
    (λ c. under_ceiling (meaning_of_shared c.rule) (ticks_in c.ceilings))
    (λ c. under_ceiling (meaning_of_fixed c.rule) (ticks_in c.ceilings)))

abbrev pub policy_of_any : Any → (ℕ → ℕ) → ℕ → ℕ → Bool
policy_of_any = of_either policy_of_base (of_either
    (λ c. policy_under (policy_of_shared c.rule) (ticks_in c.ceilings))
    (λ c. policy_under (policy_of_fixed c.rule) (ticks_in c.ceilings)))

abbrev pub budget_of_any : Any → ℕ → ℕ
budget_of_any = of_either budget_of_base (of_either
    (λ c i. min (budget_of_shared c.rule i) (ticks_in c.ceilings i))
    (λ c i. min (budget_of_fixed c.rule i) (ticks_in c.ceilings i)))
