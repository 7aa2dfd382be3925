-- What each rule says: may a job of task i that has run so far have one more tick?
use Rattle.std.specs.Prelude.{ℕ, suc, ◌-◌, ◌*◌, ◌/◌, Bool, false, cond, ◌&&◌, ◌==◌, nat_le, nat_lt}
use Rattle.table.specs.Sums.{sum}
use Rattle.budget.specs.Meaning.{Meaning, load, raised}

-- shared: the task has a weight, and the raised load is at most the total
abbrev pub shared_says : (ℕ → ℕ) → ℕ → (ℕ → ℕ) → ℕ → ℕ → Bool
shared_says weight total longest i run = cond (weight i == 0) false (nat_le (load weight (raised longest i run)) total)

abbrev pub shared_meaning : (ℕ → ℕ) → ℕ → (ℕ → ℕ) → Meaning
shared_meaning weight total longest = record { weight = weight; total = total; longest = longest; yes = shared_says weight total longest }

-- the load of every task but i
abbrev pub others : (ℕ → ℕ) → (ℕ → ℕ) → ℕ → ℕ
others weight longest i = sum 32 (λ k. cond (suc k == i) 0 (weight (suc k) * longest (suc k)))

-- the shared budget of a task: what the others leave of the total, over the task's weight
abbrev pub shared_budget : (ℕ → ℕ) → ℕ → (ℕ → ℕ) → ℕ → ℕ
shared_budget weight total longest i = cond (weight i == 0) 0 ((total - others weight longest i) / weight i)

-- fixed: the task has a weight, and has run less than its budget
abbrev pub fixed_says : (ℕ → ℕ) → (ℕ → ℕ) → ℕ → ℕ → Bool
fixed_says weight budget i run = cond (weight i == 0) false (nat_lt run (budget i))

abbrev pub fixed_meaning : (ℕ → ℕ) → ℕ → (ℕ → ℕ) → (ℕ → ℕ) → Meaning
fixed_meaning weight total longest budget = record { weight = weight; total = total; longest = longest; yes = fixed_says weight budget }

abbrev pub fixed_budget : (ℕ → ℕ) → (ℕ → ℕ) → ℕ → ℕ
fixed_budget weight budget i = cond (weight i == 0) 0 (budget i)

-- a ceiling: the rule below says yes, and the run is under the task's ceiling
abbrev pub under_ceiling : Meaning → (ℕ → ℕ) → Meaning
under_ceiling m ceiling = record { weight = m.weight; total = m.total; longest = m.longest; yes = λ i run. m.yes i run && nat_lt run (ceiling i) }

-- the yes set of a ceiling at given longest runs
abbrev pub policy_under : ((ℕ → ℕ) → ℕ → ℕ → Bool) → (ℕ → ℕ) → (ℕ → ℕ) → ℕ → ℕ → Bool
policy_under policy ceiling longest i run = policy longest i run && nat_lt run (ceiling i)
