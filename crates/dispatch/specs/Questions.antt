-- What a dispatcher's questions tell.
use Rattle.std.specs.Prelude.{ℕ, ◌+◌, ◌-◌, Bool, not, is_some, Some, None, Ok, Err, Option, Result}
use Rattle.tasks.specs.declared.units.Ticks.{Ticks}
use Rattle.table.specs.Firsts.{first_below, unless}
use Rattle.table.specs.Tasks.{ticks}
use Rattle.runs.specs.declared.answer.Job.{Job}
use Rattle.runs.specs.declared.answer.Answer.{Answer}
use Rattle.runs.specs.declared.refusal.TickRefusal.{TickRefusal}

-- the task that a tick runs: none where it is idle or refused
abbrev pub task_run : Result Answer TickRefusal → Option ℕ
task_run (Ok a) = a.task
task_run (Err e) = None

-- the ticks since a job's arrival
abbrev pub age_at : ℕ → Option Job → Option Ticks
age_at clock None = None
age_at clock (Some j) = Some (ticks (clock - j.arrival.0))

abbrev pub plain : Option Ticks → Option ℕ
plain None = None
plain (Some t) = Some t.0

abbrev pub is_pending : (ℕ → Option Job) → ℕ → Bool
is_pending jobs i = is_some (jobs i)

-- the task of the lowest slot of 32 that passes a test; slot k is task k + 1
abbrev pub lowest_task : (ℕ → Bool) → Option ℕ
lowest_task test = first_below 32 (λ k. unless (not (test k)) (k + 1))
