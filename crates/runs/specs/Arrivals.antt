-- One arrival: its refusals in their order, its result, and the state after it.
use Rattle.std.specs.Prelude.{ℕ, ◌+◌, Bool, not, [], ◌∷◌, Some, None, Ok, Err, Option, Result, nat_le}
use Rattle.tasks.specs.declared.units.Ticks.{Ticks}
use Rattle.table.specs.Firsts.{first_of, unless}
use Rattle.table.specs.Tasks.{ticks}
use Rattle.table.specs.Verdict.{Draft}
use Rattle.runs.specs.declared.answer.Mode.{Mode}
use Rattle.runs.specs.declared.answer.Mode.TheVariants.{High, Low}
use Rattle.runs.specs.declared.answer.Job.{Job}
use Rattle.runs.specs.declared.refusal.ArrivalRefusal.{ArrivalRefusal}
use Rattle.runs.specs.declared.refusal.ArrivalRefusal.TheVariants.{ForeignRule, NoSuchTask, TooEarly, StillPending, NoAssuredPart}
use Rattle.runs.specs.States.{State, job_of, put, known, period, rank, within}

-- the first clock at which a task may arrive again
abbrev pub next_arrival : ℕ → Option Ticks → ℕ
next_arrival T None = 0
next_arrival T (Some r) = r.0 + T

-- 19
abbrev pub foreign_fault : State → Option ArrivalRefusal
foreign_fault s = unless (not s.foreign) ForeignRule

-- 10
abbrev pub unknown_fault : Draft → ℕ → Option ArrivalRefusal
unknown_fault d i = unless (known d i) (NoSuchTask i)

-- 11
abbrev pub early_fault : Draft → State → ℕ → Option ArrivalRefusal
early_fault d s i = unless (nat_le (next_arrival (period d i) (s.last i)) s.clock) (TooEarly i (ticks (next_arrival (period d i) (s.last i))))

-- 12
abbrev pub pending_by : ℕ → Option Job → Option ArrivalRefusal
pending_by i None = None
pending_by i (Some j) = Some (StillPending i j)

abbrev pub pending_fault : State → ℕ → Option ArrivalRefusal
pending_fault s i = pending_by i (s.job i)

-- 13
abbrev pub unassured_by : Mode → ℕ → Bool → Option ArrivalRefusal
unassured_by Low i some = None
unassured_by High i some = unless some (NoAssuredPart i)

abbrev pub unassured_fault : Draft → State → ℕ → Option ArrivalRefusal
unassured_fault d s i = unassured_by s.mode i (within (rank d i) 0)

-- the first refusal that applies; none where the arrival is accepted
abbrev pub arrival_fault : Draft → State → ℕ → Option ArrivalRefusal
arrival_fault d s i = first_of (foreign_fault s ∷ unknown_fault d i ∷ early_fault d s i ∷ pending_fault s i ∷ unassured_fault d s i ∷ [])

abbrev pub arrival_result : Option ArrivalRefusal → Result (Unit {0}) ArrivalRefusal
arrival_result None = Ok tt
arrival_result (Some e) = Err e

-- a pending job with the clock as arrival and run 0, which is also the last arrival
abbrev pub arrived : State → ℕ → State
arrived s i = record { foreign = s.foreign; clock = s.clock; mode = s.mode; job = put s.job i (Some (job_of s.clock 0)); last = put s.last i (Some (ticks s.clock)) }

abbrev pub arrival_state : Option ArrivalRefusal → State → ℕ → State
arrival_state None s i = arrived s i
arrival_state (Some e) s i = s

-- what an arrival of task i answers
abbrev pub arrival : Draft → State → ℕ → Result (Unit {0}) ArrivalRefusal
arrival d s i = arrival_result (arrival_fault d s i)

-- the state after it: as it was where it is refused
abbrev pub after_arrival : Draft → State → ℕ → State
after_arrival d s i = arrival_state (arrival_fault d s i) s i
