-- The steps of a tick, as states.
use Rattle.std.specs.Prelude.{◌≡◌, ℕ, ◌+◌, Bool, cond, is_some, Some, None, Option, ◌==◌, slice_set}
use Rattle.tasks.specs.declared.units.Ticks.{Ticks}
use Rattle.table.specs.Verdict.{Draft}
use Rattle.order.specs.Bits.{bit}
use Rattle.runs.specs.declared.answer.Ending.{Ending}
use Rattle.runs.specs.declared.answer.Job.{Job}
use Rattle.runs.specs.declared.call.Mark.{Mark}
use Rattle.runs.specs.States.{State}
use Rattle.runs.specs.Choices.{Turn}
use Rattle.runs.specs.Ticking.{running_mode, running_jobs, jobs_after, settled_mode, none_pending}
use Rattle.dispatch.specs.declared.state.Core.{Core}

-- step 3: where the tick switches, the mode is high and the dropped jobs are gone
abbrev pub running : Draft → Bool → State → State
running d switched s = record { foreign = s.foreign; clock = s.clock; mode = running_mode switched s.mode; job = running_jobs switched d s.job; last = s.last }

-- step 5: the job has had its tick
abbrev pub served_state : Draft → Mark → State → Turn → State
served_state d mark s t = record { foreign = s.foreign; clock = s.clock + 1; mode = s.mode; job = jobs_after d s.mode mark s.job t; last = s.last }

-- step 6
abbrev pub settled : State → State
settled s = record { foreign = s.foreign; clock = s.clock; mode = settled_mode (none_pending s.job) s.mode; job = s.job; last = s.last }

-- the job after a tick: gone if it ended
abbrev pub rest_of : Option Ending → Ticks → Ticks → Option Job
rest_of (Some e) arrival run = None
rest_of None arrival run = Some (record { arrival = arrival; run = run })

-- one slot is written
pub record Writes (c c' : Core) (k : ℕ) (job : Option Job) : Type 0 where
  pub foreign' : c'.foreign ≡ c.foreign
  pub clock' : c'.clock ≡ c.clock
  pub mode' : c'.mode ≡ c.mode
  pub bits' : (i : ℕ) → bit c'.pending i ≡ cond (i == k) (is_some job) (bit c.pending i)
  pub jobs' : c'.jobs ≡ slice_set c.jobs k job
  pub last' : c'.last ≡ c.last
