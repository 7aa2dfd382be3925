-- The state that a dispatcher's parts stand for, and what holds of them between calls.
use Rattle.std.specs.Prelude.{◌≡◌, ℕ, zero, suc, ◌^◌, ◌<◌, ◌≤◌, Bool, true, cond, List, length, is_some, Some, None, Option, slice_index_or}
use Rattle.tasks.specs.declared.units.Ticks.{Ticks}
use Rattle.table.specs.Verdict.{Draft}
use Rattle.order.specs.Bits.{bit}
use Rattle.runs.specs.declared.answer.Job.{Job}
use Rattle.runs.specs.States.{State}
use Rattle.runs.specs.Slots.{seat}
use Rattle.runs.specs.Ticking.{drops_by}
use Rattle.dispatch.specs.declared.state.Core.{Core}

abbrev pub state_of : Core → State
state_of c = record { foreign = c.foreign; clock = c.clock.0; mode = c.mode; job = seat c.jobs; last = seat c.last }

-- the mask has exactly the slots with a job
abbrev pub Agrees : ℕ → List (Option Job) → Type 0
Agrees mask jobs = (k : ℕ) → bit mask k ≡ is_some (slice_index_or jobs k None)

-- each slot of the mask has a job
abbrev pub Offered : ℕ → List (Option Job) → Type 0
Offered mask jobs = (k : ℕ) → bit mask k ≡ true → is_some (slice_index_or jobs k None) ≡ true

-- every job is a task's
abbrev pub Owned : ℕ → List (Option Job) → Type 0
Owned count jobs = (k : ℕ) (j : Job) → slice_index_or jobs k None ≡ Some j → k < count

-- every job arrived by the clock
abbrev pub ArrivedBy : ℕ → List (Option Job) → Type 0
ArrivedBy clock jobs = (k : ℕ) (j : Job) → slice_index_or jobs k None ≡ Some j → j.arrival.0 ≤ clock

-- no job has had more ticks than there were
abbrev pub RunBy : ℕ → List (Option Job) → Type 0
RunBy clock jobs = (k : ℕ) (j : Job) → slice_index_or jobs k None ≡ Some j → j.run.0 ≤ clock

abbrev pub LastBy : ℕ → List (Option Ticks) → Type 0
LastBy clock last = (k : ℕ) (r : Ticks) → slice_index_or last k None ≡ Some r → r.0 ≤ clock

pub record Fine (d : Draft) (c : Core) : Type 0 where
  pub agrees : Agrees c.pending c.jobs
  pub owned : Owned d.count c.jobs
  pub arrived : ArrivedBy c.clock.0 c.jobs
  pub run : RunBy c.clock.0 c.jobs
  pub lasts : LastBy c.clock.0 c.last
  pub clocked : c.clock.0 ≤ 2 ^ 40
  pub slots : length c.jobs ≡ 32
  pub seats : length c.last ≡ 32

-- the jobs at the slots of a mask, by task number
abbrev pub masked : ℕ → List (Option Job) → ℕ → Option Job
masked mask jobs zero = None
masked mask jobs (suc k) = cond (bit mask k) (slice_index_or jobs k None) None

-- whether a switch drops the job of slot k
abbrev pub drops_at : Draft → List (Option Job) → ℕ → Bool
drops_at d jobs k = drops_by (d.task k).criticality (slice_index_or jobs k None)
