-- The meanings of the crate's rules.
use Rattle.std.specs.Prelude.{◌≡◌, ℕ, Bool, List}
use Rattle.tasks.specs.declared.units.Ticks.{Ticks}
use Rattle.table.specs.Verdict.{Draft}
use Rattle.budget.specs.declared.tally.Tally.{Tally}
use Rattle.budget.specs.declared.shared.Shared.{Shared}
use Rattle.budget.specs.declared.fixed.Fixed.{Fixed}
use Rattle.budget.specs.Meaning.{Meaning}
use Rattle.budget.specs.Rules.{shared_says, shared_meaning, shared_budget, fixed_says, fixed_meaning, fixed_budget}
use Rattle.budget.specs.Slots.{weight_in, ticks_in}
use Rattle.budget.specs.Weights.{rule_weight}

abbrev pub weights_of : Tally → ℕ → ℕ
weights_of t = weight_in t.weights.by_slot

abbrev pub total_of : Tally → ℕ
total_of t = t.weights.total.0

abbrev pub longest_of : Tally → ℕ → ℕ
longest_of t = ticks_in t.longest

abbrev pub meaning_of_shared : Shared → Meaning
meaning_of_shared s = shared_meaning (weights_of s.tally) (total_of s.tally) (longest_of s.tally)

-- the yes set at given longest runs: at the rule's own it is that of its meaning
abbrev pub policy_of_shared : Shared → (ℕ → ℕ) → ℕ → ℕ → Bool
policy_of_shared s longest = shared_says (weights_of s.tally) (total_of s.tally) longest

abbrev pub budget_of_shared : Shared → ℕ → ℕ
budget_of_shared s = shared_budget (weights_of s.tally) (total_of s.tally) (longest_of s.tally)

abbrev pub meaning_of_fixed : Fixed → Meaning
meaning_of_fixed f = fixed_meaning (weights_of f.tally) (total_of f.tally) (longest_of f.tally) (ticks_in f.budgets)

-- a fixed rule's yes set does not depend on the longest runs
abbrev pub policy_of_fixed : Fixed → (ℕ → ℕ) → ℕ → ℕ → Bool
policy_of_fixed f longest = fixed_says (weights_of f.tally) (ticks_in f.budgets)

abbrev pub budget_of_fixed : Fixed → ℕ → ℕ
budget_of_fixed f = fixed_budget (weights_of f.tally) (ticks_in f.budgets)

-- a rule at rest with a table's weights and total
pub record NewOf (d : Draft) (m : Meaning) : Type 0 where
  pub weights : (i : ℕ) → m.weight i ≡ rule_weight d i
  pub total : m.total ≡ d.total.0
  pub longest : (i : ℕ) → m.longest i ≡ 0

-- a new fixed rule says yes exactly by its list
pub record FixedOf (d : Draft) (cs : List Ticks) (f : Fixed) : Type 0 where
  pub fresh : NewOf d (meaning_of_fixed f)
  pub says : (i run : ℕ) → (meaning_of_fixed f).yes i run ≡ fixed_says (rule_weight d) (ticks_in cs) i run
