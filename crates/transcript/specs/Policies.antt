-- The rules of a scenario. Each is told by its policy: the yes set that it has at given longest runs.
use Rattle.std.specs.Prelude.{ℕ, Bool, cond, List}
use Rattle.tasks.specs.declared.units.Ticks.{Ticks}
use Rattle.table.specs.Verdict.{Draft}
use Rattle.budget.specs.Meaning.{Meaning, raised}
use Rattle.budget.specs.Rules.{shared_says, fixed_says}
use Rattle.budget.specs.Slots.{ticks_in}
use Rattle.budget.specs.Weights.{rule_weight}
use Rattle.runs.specs.Programs.{Program}

abbrev pub Policy : Type 0
Policy = (ℕ → ℕ) → ℕ → ℕ → Bool

-- the shared rule of a table
abbrev pub shared_policy : Draft → Policy
shared_policy d longest = shared_says (rule_weight d) d.total.0 longest

-- the fixed rule of a table with these budgets
abbrev pub fixed_policy : Draft → List Ticks → Policy
fixed_policy d budgets longest = fixed_says (rule_weight d) (ticks_in budgets)

-- a meaning at other longest runs
abbrev pub at_longest : Policy → Meaning → (ℕ → ℕ) → Meaning
at_longest policy m longest = record { weight = m.weight; total = m.total; longest = longest; yes = policy longest }

-- what a grant and a rest do
abbrev pub by_policy : Policy → Program
by_policy policy = record {
  grant = λ k m i run. cond (m.yes i run) (at_longest policy m (raised m.longest i run)) m;
  rest = λ k m. at_longest policy m (λ i. 0);
}

-- a table's rule at rest
abbrev pub at_rest : Draft → Policy → Meaning
at_rest d policy = record { weight = rule_weight d; total = d.total.0; longest = λ i. 0; yes = policy (λ i. 0) }
