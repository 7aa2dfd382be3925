-- Which job a tick would serve: the first candidate under the tie order.
use Rattle.std.specs.Prelude.{ℕ, zero, suc, ◌+◌, cond, Some, None, Option}
use Rattle.table.specs.Readers.{level_of}
use Rattle.table.specs.Tasks.{virtual_deadline}
use Rattle.table.specs.Verdict.{Draft}
use Rattle.order.specs.declared.candidate.Candidate.{Candidate}
use Rattle.order.specs.Orders.{Ahead, candidate}
use Rattle.runs.specs.declared.answer.Mode.{Mode}
use Rattle.runs.specs.declared.answer.Mode.TheVariants.{High, Low}
use Rattle.runs.specs.declared.answer.Job.{Job}
use Rattle.runs.specs.States.{the_task, period, rank, within}

-- The current deadline of a task's job. In low mode arrival + D of a high job and of a low one with run < g, else arrival + T; in high mode arrival + T.
abbrev pub deadline : Mode → Draft → ℕ → Job → ℕ
deadline Low d i j = cond (within (rank d i) j.run.0) (j.arrival.0 + virtual_deadline d.factor (the_task d i)) (j.arrival.0 + period d i)
deadline High d i j = j.arrival.0 + period d i

abbrev pub contender : Mode → Draft → ℕ → Job → Candidate
contender mode d i j = candidate (deadline mode d i j) (level_of (rank d i)) i

-- the candidate of a task, if it has a job pending
abbrev pub contending_by : Mode → Draft → ℕ → Option Job → Option Candidate
contending_by mode d i None = None
contending_by mode d i (Some j) = Some (contender mode d i j)

abbrev pub contending : Mode → Draft → (ℕ → Option Job) → ℕ → Option Candidate
contending mode d jobs i = contending_by mode d i (jobs i)

abbrev pub better : Ahead → Option Candidate → Option Candidate → Option Candidate
better ahead None b = b
better ahead (Some a) None = Some a
better ahead (Some a) (Some b) = Some (cond (ahead a b) a b)

-- the first of the candidates with the numbers 1 to n
unfoldable pub first_choice : Ahead → ℕ → (ℕ → Option Candidate) → Option Candidate
first_choice ahead zero who = None
first_choice ahead (suc k) who = better ahead (first_choice ahead k who) (who (suc k))

abbrev pub chosen : Ahead → Mode → Draft → (ℕ → Option Job) → Option Candidate
chosen ahead mode d jobs = first_choice ahead 32 (contending mode d jobs)

-- a task with its pending job
pub record Turn : Type 0 where
  pub number : ℕ
  pub job : Job

abbrev pub turn_by : ℕ → Option Job → Option Turn
turn_by i None = None
turn_by i (Some j) = Some (record { number = i; job = j })

abbrev pub turn_of : (ℕ → Option Job) → Option Candidate → Option Turn
turn_of jobs None = None
turn_of jobs (Some c) = turn_by c.number (jobs c.number)

-- the task that is first, with its job; none where nothing is pending
abbrev pub turn : Ahead → Mode → Draft → (ℕ → Option Job) → Option Turn
turn ahead mode d jobs = turn_of jobs (chosen ahead mode d jobs)
