-- A dispatcher's state, and a table's numbers, by task number. Task number i stands at slot i - 1.
use Rattle.std.specs.Prelude.{◌≡◌, ℕ, suc, ◌-◌, ◌≤◌, Bool, true, false, cond, not, ◌&&◌, Some, None, Option, ◌==◌, nat_lt}
use Rattle.tasks.specs.declared.units.Ticks.{Ticks}
use Rattle.tasks.specs.declared.task.Task.{Task}
use Rattle.tasks.specs.declared.task.Criticality.{Criticality}
use Rattle.tasks.specs.declared.task.Criticality.TheVariants.{High, Low}
use Rattle.table.specs.Firsts.{first_below, unless}
use Rattle.table.specs.Tasks.{ticks}
use Rattle.table.specs.Verdict.{Draft, in_range}
use Rattle.budget.specs.Meaning.{Meaning}
pub use Rattle.budget.specs.Weights.{weight_by, rule_weight}
use Rattle.runs.specs.declared.answer.Mode.{Mode}
use Rattle.runs.specs.declared.answer.Mode.TheVariants.{Low as LowMode}
use Rattle.runs.specs.declared.answer.Job.{Job}

pub record State : Type 0 where
  -- the rule's weights or total were not the table's at the making
  pub foreign : Bool
  pub clock : ℕ
  pub mode : Mode
  -- the pending job of a task
  pub job : ℕ → Option Job
  -- the last accepted arrival of a task
  pub last : ℕ → Option Ticks

abbrev pub job_of : ℕ → ℕ → Job
job_of arrival run = record { arrival = ticks arrival; run = ticks run }

-- f with v at i
abbrev pub put : {A : Type 0} → (ℕ → A) → ℕ → A → ℕ → A
put f i v k = cond (k == i) v (f k)

-- a new dispatcher's state
abbrev pub new_state : Bool → State
new_state foreign = record { foreign = foreign; clock = 0; mode = LowMode; job = λ i. None; last = λ i. None }

-- the numbers of a table's tasks

abbrev pub known : Draft → ℕ → Bool
known d i = in_range 1 d.count i

abbrev pub the_task : Draft → ℕ → Task
the_task d i = d.task (i - 1)

abbrev pub period : Draft → ℕ → ℕ
period d i = (the_task d i).period.0

abbrev pub rank : Draft → ℕ → Criticality
rank d i = (the_task d i).criticality

abbrev pub is_high : Criticality → Bool
is_high High = true
is_high (Low g) = false

-- a high job, or a low one that has had less than its assured part
abbrev pub within : Criticality → ℕ → Bool
within High run = true
within (Low g) run = nat_lt run g.0

-- a rule's meaning is the table's
pub record OfTable (d : Draft) (m : Meaning) : Type 0 where
  pub weights : (i : ℕ) → 1 ≤ i → i ≤ 32 → m.weight i ≡ rule_weight d i
  pub total : m.total ≡ d.total.0

-- 19 applies exactly where it is not
abbrev pub Judged : Bool → Draft → Meaning → Type 0
Judged true d m = OfTable d m → ⊥
Judged false d m = OfTable d m

-- the test of it: the first number from 1 to 32 whose weight is another, or the total
abbrev pub foreign_weight : Draft → Meaning → ℕ → Option ℕ
foreign_weight d m k = unless (m.weight (suc k) == rule_weight d (suc k)) (suc k)

abbrev pub is_none : {A : Type 0} → Option A → Bool
is_none None = true
is_none (Some a) = false

abbrev pub foreign_rule : Draft → Meaning → Bool
foreign_rule d m = not (is_none (first_below 32 (foreign_weight d m)) && m.total == d.total.0)
