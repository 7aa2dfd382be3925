-- What an arrival and a tick may do, as laws between the states before and after: one for each step.
use Rattle.std.specs.Prelude.{◌≡◌, ℕ, ◌+◌, ◌^◌, ◌<◌, ◌≤◌, Bool, true, false, not, ◌≢◌, Some, None, Ok, Err, Option, Result}
use Rattle.tasks.specs.declared.units.Ticks.{Ticks}
use Rattle.tasks.specs.declared.task.Criticality.{Criticality}
use Rattle.tasks.specs.declared.task.Criticality.TheVariants.{High as HighTask, Low as LowTask}
use Rattle.table.specs.Tasks.{ticks}
use Rattle.table.specs.Verdict.{Draft}
use Rattle.order.specs.Orders.{Ahead}
use Rattle.budget.specs.Meaning.{Meaning, Granted, Rested}
use Rattle.runs.specs.declared.answer.Mode.{Mode}
use Rattle.runs.specs.declared.answer.Mode.TheVariants.{High, Low}
use Rattle.runs.specs.declared.answer.Ending.{Ending}
use Rattle.runs.specs.declared.answer.Job.{Job}
use Rattle.runs.specs.declared.answer.Answer.{Answer}
use Rattle.runs.specs.declared.call.Mark.{Mark}
use Rattle.runs.specs.declared.refusal.ArrivalRefusal.{ArrivalRefusal}
use Rattle.runs.specs.declared.refusal.ArrivalRefusal.TheVariants.{ForeignRule, NoSuchTask, TooEarly, StillPending, NoAssuredPart}
use Rattle.runs.specs.declared.refusal.TickRefusal.{TickRefusal}
use Rattle.runs.specs.declared.refusal.TickRefusal.TheVariants.{ForeignRule as TickForeign, ClockEnd}
use Rattle.runs.specs.States.{State, job_of, the_task, period, rank, is_high, within}
use Rattle.runs.specs.Masks.{in_mask}
use Rattle.runs.specs.Choices.{contender}
use Rattle.runs.specs.Ticking.{ending, served}

-- arrivals

pub record Known (d : Draft) (i : ℕ) : Type 0 where
  pub low : 1 ≤ i
  pub high : i ≤ d.count

-- a period has passed since the task's last arrival
abbrev pub Apart : Draft → State → ℕ → Type 0
Apart d s i = (r : Ticks) → s.last i ≡ Some r → r.0 + period d i ≤ s.clock

-- not a low task with no assured part in high mode
abbrev pub Admitted : Draft → State → ℕ → Type 0
Admitted d s i = s.mode ≡ High → within (rank d i) 0 ≡ true

-- an accepted arrival of task i
pub record Arrives (d : Draft) (s s' : State) (i : ℕ) : Type 0 where
  pub own_rule : s.foreign ≡ false
  pub known : Known d i
  pub apart : Apart d s i
  pub free : s.job i ≡ None
  pub admitted : Admitted d s i
  pub foreign' : s'.foreign ≡ s.foreign
  pub clock' : s'.clock ≡ s.clock
  pub mode' : s'.mode ≡ s.mode
  pub job_own : s'.job i ≡ Some (job_of s.clock 0)
  pub job_other : (k : ℕ) → k ≢ i → s'.job k ≡ s.job k
  pub last_own : s'.last i ≡ Some (ticks s.clock)
  pub last_other : (k : ℕ) → k ≢ i → s'.last k ≡ s.last k

-- the last arrival is less than a period ago
pub record Early (d : Draft) (s : State) (i next : ℕ) : Type 0 where
  pub last : Ticks
  pub was : s.last i ≡ Some last
  pub next_is : next ≡ last.0 + period d i
  pub early : s.clock < next

-- why an arrival of task i is refused: the first reason, in this order
abbrev pub Refused : Draft → State → ℕ → ArrivalRefusal → Type 0
Refused d s i ForeignRule = s.foreign ≡ true
Refused d s i (NoSuchTask k) = (s.foreign ≡ false) × (k ≡ i) × (Known d i → ⊥)
Refused d s i (TooEarly k next) = (s.foreign ≡ false) × (k ≡ i) × Known d i × Early d s i next.0
Refused d s i (StillPending k j) = (s.foreign ≡ false) × (k ≡ i) × Known d i × Apart d s i × (s.job i ≡ Some j)
Refused d s i (NoAssuredPart k) = (s.foreign ≡ false) × (k ≡ i) × Known d i × Apart d s i × (s.job i ≡ None) × (s.mode ≡ High) × (within (rank d i) 0 ≡ false)

-- a refused arrival alters nothing
abbrev pub Arrived : Draft → State → ℕ → Result (Unit {0}) ArrivalRefusal → State → Type 0
Arrived d s i (Ok v) s' = Arrives d s s' i
Arrived d s i (Err e) s' = Refused d s i e × (s' ≡ s)

-- ticks

-- 1. with no job pending the tick is idle: only the clock rises
pub record Idles (s s' : State) : Type 0 where
  pub empty : (i : ℕ) → s.job i ≡ None
  pub foreign' : s'.foreign ≡ s.foreign
  pub clock' : s'.clock ≡ s.clock + 1
  pub mode' : s'.mode ≡ s.mode
  pub job' : (i : ℕ) → s'.job i ≡ s.job i
  pub last' : (i : ℕ) → s'.last i ≡ s.last i

-- 2 and 4. the job of task i is ahead of every other pending one, under the current deadlines of a mode
pub record First (d : Draft) (ahead : Ahead) (mode : Mode) (s : State) (i : ℕ) (j : Job) : Type 0 where
  pub pending : s.job i ≡ Some j
  pub first : (k : ℕ) (b : Job) → k ≢ i → s.job k ≡ Some b → ahead (contender mode d i j) (contender mode d k b) ≡ true

-- 2. a high job runs in low mode only with a grant; for a low one the rule is not asked
abbrev pub Consents : Criticality → ℕ → ℕ → Meaning → Meaning → Type 0
Consents HighTask i run m n = Granted m n i run true
Consents (LowTask g) i run m n = n ≡ m

-- 3. on a denial the mode becomes high, and exactly the pending low jobs with run ≥ g are dropped
pub record Switches (d : Draft) (s s' : State) (dropped : ℕ) : Type 0 where
  pub foreign' : s'.foreign ≡ s.foreign
  pub clock' : s'.clock ≡ s.clock
  pub mode' : s'.mode ≡ High
  pub stays : (i : ℕ) (j : Job) → s.job i ≡ Some j → within (rank d i) j.run.0 ≡ true → s'.job i ≡ Some j
  pub goes : (i : ℕ) (j : Job) → s.job i ≡ Some j → within (rank d i) j.run.0 ≡ false → s'.job i ≡ None
  pub none : (i : ℕ) → s.job i ≡ None → s'.job i ≡ None
  pub last' : (i : ℕ) → s'.last i ≡ s.last i
  pub fits : dropped < 2 ^ 32
  pub named : (i : ℕ) (j : Job) → s.job i ≡ Some j → in_mask dropped i ≡ not (within (rank d i) j.run.0)
  pub unnamed : (i : ℕ) → 1 ≤ i → s.job i ≡ None → in_mask dropped i ≡ false

-- 5. the job's run and the clock rise by 1, and the job ends or goes on
pub record Serves (d : Draft) (mode : Mode) (mark : Mark) (s s' : State) (i : ℕ) (j : Job) (e : Option Ending) : Type 0 where
  pub ends : e ≡ ending (the_task d i) mode mark (j.run.0 + 1)
  pub foreign' : s'.foreign ≡ s.foreign
  pub clock' : s'.clock ≡ s.clock + 1
  pub mode' : s'.mode ≡ s.mode
  pub job_own : s'.job i ≡ served e j
  pub job_other : (k : ℕ) → k ≢ i → s'.job k ≡ s.job k
  pub last' : (k : ℕ) → s'.last k ≡ s.last k

-- 6. with no job pending the mode is low and the rule is set to rest; else both are let be
pub record Rests (s s' : State) : Type 0 where
  pub empty : (i : ℕ) → s.job i ≡ None
  pub foreign' : s'.foreign ≡ s.foreign
  pub clock' : s'.clock ≡ s.clock
  pub mode' : s'.mode ≡ Low
  pub job' : (i : ℕ) → s'.job i ≡ s.job i
  pub last' : (i : ℕ) → s'.last i ≡ s.last i

pub data Settles : State → State → Meaning → Meaning → Type 0 where
  busy : {s : State} {m : Meaning} (i : ℕ) (j : Job) → s.job i ≡ Some j → Settles s s m m
  rests : {s s' : State} {m n : Meaning} → Rests s s' → Rested m n → Settles s s' m n

abbrev pub answer_of : State → Option ℕ → Mode → Bool → ℕ → Option Ending → Answer
answer_of s task mode switched dropped e = record { clock = ticks s.clock; task = task; mode = mode; switched = switched; dropped = dropped; ending = e }

-- a tick in low mode that does not switch
pub record Calm (d : Draft) (ahead : Ahead) (m : Meaning) (s : State) (mark : Mark) (a : Answer) (n : Meaning) (s' : State) : Type 0 where
  pub number : ℕ
  pub job : Job
  pub end : Option Ending
  pub mid : Meaning
  pub state : State
  pub lowly : s.mode ≡ Low
  pub first : First d ahead Low s number job
  pub consents : Consents (rank d number) number job.run.0 m mid
  pub serves : Serves d Low mark s state number job end
  pub settles : Settles state s' mid n
  pub says : a ≡ answer_of s (Some number) Low false 0 end

-- a tick that switches: the first job is high and was denied, and then the choice is made afresh
pub record Switching (d : Draft) (ahead : Ahead) (m : Meaning) (s : State) (mark : Mark) (a : Answer) (n : Meaning) (s' : State) : Type 0 where
  pub asked : ℕ
  pub asked_job : Job
  pub dropped : ℕ
  pub number : ℕ
  pub job : Job
  pub end : Option Ending
  pub mid : Meaning
  pub after : State
  pub state : State
  pub lowly : s.mode ≡ Low
  pub asked_first : First d ahead Low s asked asked_job
  pub asked_high : is_high (rank d asked) ≡ true
  pub denied : Granted m mid asked asked_job.run.0 false
  pub switches : Switches d s after dropped
  pub first : First d ahead High after number job
  pub serves : Serves d High mark after state number job end
  pub settles : Settles state s' mid n
  pub says : a ≡ answer_of s (Some number) High true dropped end

-- a tick in high mode: the rule is not asked
pub record Steady (d : Draft) (ahead : Ahead) (m : Meaning) (s : State) (mark : Mark) (a : Answer) (n : Meaning) (s' : State) : Type 0 where
  pub number : ℕ
  pub job : Job
  pub end : Option Ending
  pub state : State
  pub highly : s.mode ≡ High
  pub first : First d ahead High s number job
  pub serves : Serves d High mark s state number job end
  pub settles : Settles state s' m n
  pub says : a ≡ answer_of s (Some number) High false 0 end

pub data Passes (d : Draft) (ahead : Ahead) (m : Meaning) (s : State) (mark : Mark) (a : Answer) (n : Meaning) (s' : State) : Type 0 where
  idle : Idles s s' → n ≡ m → a ≡ answer_of s None s.mode false 0 None → Passes d ahead m s mark a n s'
  calm : Calm d ahead m s mark a n s' → Passes d ahead m s mark a n s'
  switching : Switching d ahead m s mark a n s' → Passes d ahead m s mark a n s'
  steady : Steady d ahead m s mark a n s' → Passes d ahead m s mark a n s'

-- a refused tick alters nothing
abbrev pub Ticked : Draft → Ahead → Meaning → State → Mark → Result Answer TickRefusal → Meaning → State → Type 0
Ticked d ahead m s mark (Err TickForeign) n s' = (s.foreign ≡ true) × (n ≡ m) × (s' ≡ s)
Ticked d ahead m s mark (Err (ClockEnd t)) n s' = (s.foreign ≡ false) × (2 ^ 40 ≤ s.clock) × (t ≡ ticks s.clock) × (n ≡ m) × (s' ≡ s)
Ticked d ahead m s mark (Ok a) n s' = (s.foreign ≡ false) × (s.clock < 2 ^ 40) × Passes d ahead m s mark a n s'
