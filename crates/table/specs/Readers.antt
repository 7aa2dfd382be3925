-- What a draft has under a task number.
use Rattle.std.specs.Prelude.{ℕ, ◌-◌, cond, Some, None, Option}
use Rattle.tasks.specs.declared.units.Ticks.{Ticks}
use Rattle.tasks.specs.declared.units.Shares.{Shares}
use Rattle.tasks.specs.declared.task.Task.{Task}
use Rattle.tasks.specs.declared.task.Level.{Level}
pub use Rattle.tasks.specs.Levels.{level_of}
use Rattle.table.specs.Tasks.{ticks, shares, weight, virtual_deadline}
use Rattle.table.specs.Verdict.{Draft, in_range}

-- the task of a number from 1 to the count
abbrev pub task_at : Draft → ℕ → Option Task
task_at d i = cond (in_range 1 d.count i) (Some (d.task (i - 1))) None

abbrev pub of_task : {A : Type 0} → (Task → A) → Option Task → Option A
of_task f None = None
of_task f (Some t) = Some (f t)

abbrev pub weight_at : Draft → ℕ → Option Shares
weight_at d i = of_task (λ t. shares (weight d.scale t)) (task_at d i)

abbrev pub deadline_at : Draft → ℕ → Option Ticks
deadline_at d i = of_task (λ t. ticks (virtual_deadline d.factor t)) (task_at d i)

abbrev pub level_at : Draft → ℕ → Option Level
level_at d i = of_task (λ t. level_of t.criticality) (task_at d i)
