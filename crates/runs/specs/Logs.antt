-- Logs: calls with their answers, the latest first. What is said here is read off the answers alone.
use Rattle.std.specs.Prelude.{ℕ, ◌+◌, Bool, true, false, cond, ◌&&◌, ◌||◌, List, [], ◌∷◌, is_some, Some, None, Ok, Err, Option, ◌==◌}
use Rattle.runs.specs.declared.answer.Job.{Job}
use Rattle.runs.specs.declared.answer.Ending.{Ending}
use Rattle.runs.specs.declared.entry.Entry.{Entry}
use Rattle.runs.specs.declared.entry.Entry.TheVariants.{Arrive, Tick}
use Rattle.runs.specs.States.{job_of}
use Rattle.runs.specs.Masks.{in_mask}

-- how many ticks an entry stands for
abbrev pub spans : Entry → ℕ
spans (Arrive i a) = 0
spans (Tick mark None) = 0
spans (Tick mark (Some (Err e))) = 0
spans (Tick mark (Some (Ok a))) = 1

-- the accepted ticks of a log
unfoldable pub clock : List Entry → ℕ
clock [] = 0
clock (e ∷ log) = clock log + spans e

-- an accepted arrival of task i
abbrev pub begins : ℕ → Entry → Bool
begins i (Arrive k None) = false
begins i (Arrive k (Some (Err e))) = false
begins i (Arrive k (Some (Ok v))) = k == i
begins i (Tick mark a) = false

-- whether an answer names task i as the one that ran
abbrev pub names : ℕ → Option ℕ → Bool
names i None = false
names i (Some k) = k == i

abbrev pub ended : Option Ending → Bool
ended None = false
ended (Some e) = true

-- a tick whose answer ends or drops task i
abbrev pub leaves : ℕ → Entry → Bool
leaves i (Arrive k a) = false
leaves i (Tick mark None) = false
leaves i (Tick mark (Some (Err e))) = false
leaves i (Tick mark (Some (Ok a))) = in_mask a.dropped i || (names i a.task && ended a.ending)

-- how many ticks of an entry task i was served
abbrev pub serves : ℕ → Entry → ℕ
serves i (Arrive k a) = 0
serves i (Tick mark None) = 0
serves i (Tick mark (Some (Err e))) = 0
serves i (Tick mark (Some (Ok a))) = cond (names i a.task) 1 0

abbrev pub raised_by : ℕ → Option ℕ → Option ℕ
raised_by n None = None
raised_by n (Some k) = Some (k + n)

-- A number that task i has while it is pending: it starts at the latest accepted arrival, grows with each entry after it, and is gone once a tick's answer ends or drops the task.
unfoldable pub since : ℕ → (List Entry → ℕ) → (Entry → ℕ) → List Entry → Option ℕ
since i start more [] = None
since i start more (e ∷ log) = cond (begins i e) (Some (start log)) (cond (leaves i e) None (raised_by (more e) (since i start more log)))

-- the age of task i's pending job: the accepted ticks after its arrival
abbrev pub age : ℕ → List Entry → Option ℕ
age i log = since i (λ before. 0) spans log

abbrev pub pending : ℕ → List Entry → Bool
pending i log = is_some (age i log)

-- the clock at its arrival
abbrev pub arrival : ℕ → List Entry → Option ℕ
arrival i log = since i clock (λ e. 0) log

-- the ticks that it was served
abbrev pub run : ℕ → List Entry → Option ℕ
run i log = since i (λ before. 0) (serves i) log

-- task i's pending job, as the log shows it
abbrev pub shown_by : Option ℕ → Option ℕ → Option Job
shown_by None u = None
shown_by (Some r) None = None
shown_by (Some r) (Some u) = Some (job_of r u)

abbrev pub shown : ℕ → List Entry → Option Job
shown i log = shown_by (arrival i log) (run i log)

-- the first switch

abbrev pub switches : Entry → Bool
switches (Arrive i a) = false
switches (Tick mark None) = false
switches (Tick mark (Some (Err e))) = false
switches (Tick mark (Some (Ok a))) = a.switched

unfoldable pub switched_in : List Entry → Bool
switched_in [] = false
switched_in (e ∷ log) = cond (switched_in log) true (switches e)

-- the ticks of an entry that come before a switch in it
abbrev pub calm : Entry → ℕ
calm (Arrive i a) = 0
calm (Tick mark None) = 0
calm (Tick mark (Some (Err e))) = 0
calm (Tick mark (Some (Ok a))) = cond a.switched 0 1

-- the accepted ticks before the first whose answer says that it switched, or all of them if none does
unfoldable pub before_switch : List Entry → ℕ
before_switch [] = 0
before_switch (e ∷ log) = cond (switched_in log) (before_switch log) (before_switch log + calm e)

-- the clock in the first answer that says that it switched
abbrev pub clock_said : Entry → ℕ
clock_said (Arrive i a) = 0
clock_said (Tick mark None) = 0
clock_said (Tick mark (Some (Err e))) = 0
clock_said (Tick mark (Some (Ok a))) = a.clock.0

unfoldable pub switch_clock : List Entry → Option ℕ
switch_clock [] = None
switch_clock (e ∷ log) = cond (switched_in log) (switch_clock log) (cond (switches e) (Some (clock_said e)) None)
