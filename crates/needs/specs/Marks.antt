-- Needs turned into marks.
use Rattle.std.specs.Prelude.{ℕ, ◌+◌, Bool, cond, Some, None, Option, ◌==◌}
use Rattle.table.specs.Verdict.{Draft}
use Rattle.order.specs.Orders.{Ahead}
use Rattle.runs.specs.declared.answer.Job.{Job}
use Rattle.runs.specs.declared.call.Mark.{Mark}
use Rattle.runs.specs.declared.call.Mark.TheVariants.{Done, NotDone}
use Rattle.runs.specs.States.{State}
use Rattle.runs.specs.Ticking.{tick}
use Rattle.dispatch.specs.Questions.{task_run}

-- of a tick that runs this job: done if it has then had as many ticks as its need
abbrev pub mark_at : ℕ → Option Job → Mark
mark_at need None = NotDone
mark_at need (Some j) = cond (j.run.0 + 1 == need) Done NotDone

-- of a tick that runs this task
abbrev pub mark_by : (ℕ → ℕ) → (ℕ → Option Job) → Option ℕ → Mark
mark_by need jobs None = NotDone
mark_by need jobs (Some i) = mark_at (need i) (jobs i)

-- of the coming tick, under a rule with this yes set; the task that it runs does not depend on its mark
abbrev pub mark_of : Draft → Ahead → (ℕ → ℕ → Bool) → State → (ℕ → ℕ) → Mark
mark_of d ahead says s need = mark_by need s.job (task_run (tick d ahead says s NotDone))
