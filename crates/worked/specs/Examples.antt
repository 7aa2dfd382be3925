-- Worked examples: what each says, one list of them, and the test that the checker computes at each.
use Rattle.std.specs.Prelude.{◌≡◌, ℕ, zero, suc, ◌+◌, Bool, true, false, ◌&&◌, List, [], ◌∷◌, map, reverse, Some, None, Ok, Err, Option, ◌==◌}
use Rattle.tasks.specs.declared.task.Criticality.TheVariants.{High, Low}
use Rattle.tasks.specs.declared.task.Factor.{Factor}
use Rattle.tasks.specs.declared.task.Comparison.{Comparison}
use Rattle.tasks.specs.declared.task.Task.{Task}
use Rattle.tasks.specs.declared.refusal.TableRefusal.{TableRefusal}
use Rattle.tasks.specs.Refusals.{number_of, task_of}
use Rattle.table.specs.Tasks.{ticks, shares}
use Rattle.table.specs.Verdict.{Draft, drafted, tests_of, verdict}
use Rattle.budget.specs.declared.refusal.FixedRefusal.{FixedRefusal}
use Rattle.budget.specs.Making.{fixed_fault}
use Rattle.budget.specs.Meaning.{raised}
use Rattle.budget.specs.Refusals.{fixed_number}
use Rattle.budget.specs.Rules.{shared_budget, fixed_meaning}
use Rattle.budget.specs.Slots.{ticks_in}
use Rattle.budget.specs.Weights.{rule_weight}
use Rattle.order.specs.Ties.{by_number}
use Rattle.runs.specs.declared.answer.Answer.{Answer}
use Rattle.runs.specs.declared.answer.Ending.{Ending}
use Rattle.runs.specs.declared.answer.Ending.TheVariants.{Done, Limit, Short}
use Rattle.runs.specs.declared.answer.Mode.{Mode}
use Rattle.runs.specs.declared.answer.Mode.TheVariants.{High as HighMode, Low as LowMode}
use Rattle.runs.specs.declared.call.Call.{Call}
use Rattle.runs.specs.declared.call.Call.TheVariants.{Arrive as ArriveCall, Tick as TickCall}
use Rattle.runs.specs.declared.call.Mark.TheVariants.{Done as MarkDone, NotDone}
use Rattle.runs.specs.declared.entry.Entry.{Entry}
use Rattle.runs.specs.declared.entry.Entry.TheVariants.{Arrive, Tick}
use Rattle.runs.specs.Examples.{fixed_program}
use Rattle.runs.specs.Numbers.{arrival_number, tick_number}
use Rattle.runs.specs.Programs.{play, shared_program, shared_rule}

-- What an entry tells, in numbers: nothing for an accepted arrival, and for a refused one its number.
-- For a tick the clock, the task or 0, the mode (0 low, 1 high), the mask of dropped tasks if it switched, and the ending (0 none, 1 done, 2 limit, 3 short).
pub data Told : Type 0 where
  arrived : Told
  turned_down : ℕ → Told
  ticked : ℕ → ℕ → ℕ → ℕ → Told
  switched : ℕ → ℕ → ℕ → ℕ → Told

-- A kind of example for each kind of question.
pub data Example : Type 0 where
  -- the table is accepted, and its low and high tests compare these numbers
  passes : Draft → Comparison → Comparison → Example
  -- the table is refused by this number, naming this task or none
  refused : Draft → ℕ → Option ℕ → Example
  -- after these grants since a rest, each a task and its job's run, the shared budget of a task is this
  shared_budget_is : Draft → List (ℕ × ℕ) → ℕ → ℕ → Example
  -- these budgets are a fixed rule of the table
  fixed_rule : Draft → List ℕ → Example
  -- these budgets are refused by this number
  fixed_refused : Draft → List ℕ → ℕ → Example
  -- under the shared rule these calls are answered so, the first first
  plays_shared : Draft → List Call → List Told → Example
  -- so under fixed budgets
  plays_fixed : Draft → List ℕ → List Call → List Told → Example

-- The tables.

abbrev pub factor_of : ℕ → ℕ → Factor
factor_of p q = record { p = p; q = q }

abbrev pub high_task : ℕ → ℕ → Task
high_task period worst = record { period = ticks period; worst = ticks worst; criticality = High }

abbrev pub low_task : ℕ → ℕ → ℕ → Task
low_task period worst assured = record { period = ticks period; worst = ticks worst; criticality = Low (ticks assured) }

-- scale 10 and a low task 10 5 0 first
abbrev pub three_tasks : ℕ → Factor → Task → Task → Draft
three_tasks total f second third = drafted (shares 10) (shares total) f 3 (low_task 10 5 0 ∷ second ∷ third ∷ [])

abbrev pub table_E : Draft
table_E = three_tasks 2 (factor_of 2 5) (high_task 10 4) (high_task 10 4)

abbrev pub compared : ℕ → ℕ → Comparison
compared demand supply = record { demand = shares demand; supply = shares supply }

-- the longest runs after some grants
abbrev pub longest_after : List (ℕ × ℕ) → ℕ → ℕ
longest_after [] = λ i. 0
longest_after (g ∷ gs) = raised (longest_after gs) g.0 g.1

-- the shared budget of a task, as the rule defines it
abbrev pub budget_after : Draft → List (ℕ × ℕ) → ℕ → ℕ
budget_after d grants i = shared_budget (rule_weight d) d.total.0 (longest_after grants) i

-- the refusal of a list of fixed budgets
abbrev pub fixed_verdict : Draft → List ℕ → Option FixedRefusal
fixed_verdict d budgets = fixed_fault d (map ticks budgets)

-- what the calls of a run were answered

abbrev pub mode_number : Mode → ℕ
mode_number LowMode = 0
mode_number HighMode = 1

abbrev pub task_number : Option ℕ → ℕ
task_number None = 0
task_number (Some i) = i

abbrev pub ending_number : Option Ending → ℕ
ending_number None = 0
ending_number (Some Done) = 1
ending_number (Some Limit) = 2
ending_number (Some Short) = 3

abbrev pub answer_tells : Bool → Answer → Told
answer_tells false a = ticked a.clock.0 (task_number a.task) (mode_number a.mode) (ending_number a.ending)
answer_tells true a = switched a.clock.0 (task_number a.task) a.dropped (ending_number a.ending)

abbrev pub tells : Entry → Told
tells (Arrive i None) = arrived
tells (Arrive i (Some (Ok v))) = arrived
tells (Arrive i (Some (Err e))) = turned_down (arrival_number e)
tells (Tick mark None) = turned_down 0
tells (Tick mark (Some (Ok a))) = answer_tells a.switched a
tells (Tick mark (Some (Err e))) = turned_down (tick_number e)

-- a log has its latest entry first
abbrev pub shared_run : Draft → List Call → List Told
shared_run d calls = map tells (reverse (play d by_number shared_program (shared_rule d) (reverse calls)).log)

abbrev pub fixed_run : Draft → List ℕ → List Call → List Told
fixed_run d budgets calls = map tells (reverse (play d by_number fixed_program (fixed_meaning (rule_weight d) d.total.0 (λ i. 0) (ticks_in (map ticks budgets))) (reverse calls)).log)

-- the same call several times
abbrev pub times : ℕ → Call → List Call → List Call
times zero c cs = cs
times (suc n) c cs = c ∷ times n c cs

abbrev pub goes_on : Call
goes_on = TickCall NotDone

abbrev pub is_done : Call
is_done = TickCall MarkDone

-- the idle ticks at the clocks from the first on
abbrev pub idle : ℕ → ℕ → List Told → List Told
idle zero t rest = rest
idle (suc n) t rest = ticked t 0 0 0 ∷ idle n (t + 1) rest

-- The list.

abbrev pub examples : List Example
examples =
    passes table_E (compared 20 20) (compared 50 50)
    ∷ refused (three_tasks 3 (factor_of 2 5) (high_task 10 4) (high_task 10 4)) 8 None
    ∷ refused (three_tasks 2 (factor_of 2 5) (high_task 10 4) (high_task 10 5)) 9 None
    ∷ refused (three_tasks 2 (factor_of 1 4) (high_task 10 4) (high_task 10 4)) 6 (Some 1)
    ∷ refused (three_tasks 2 (factor_of 2 5) (high_task 7 4) (high_task 10 4)) 5 (Some 2)
    ∷ shared_budget_is table_E [] 2 2
    ∷ shared_budget_is table_E ((3, 0) ∷ []) 2 1
    ∷ fixed_rule table_E (0 ∷ 1 ∷ 1 ∷ [])
    ∷ fixed_refused table_E (0 ∷ 2 ∷ 1 ∷ []) 17
    -- task 2 arrives at 0 and is done after one tick: again at clock 9 refused by 11, at 10 accepted
    ∷ plays_shared table_E
    (ArriveCall 2 ∷ is_done ∷ times 8 goes_on (ArriveCall 2 ∷ goes_on ∷ ArriveCall 2 ∷ []))
    (arrived ∷ ticked 0 2 0 1 ∷ idle 8 1 (turned_down 11 ∷ ticked 9 0 0 0 ∷ arrived ∷ []))
    -- only task 2, with a need of 2: the shared rule never switches, the fixed one does at clock 1
    ∷ plays_shared table_E (ArriveCall 2 ∷ goes_on ∷ is_done ∷ goes_on ∷ []) (arrived ∷ ticked 0 2 0 0 ∷ ticked 1 2 0 1 ∷ ticked 2 0 0 0 ∷ [])
    ∷ plays_fixed table_E (0 ∷ 1 ∷ 1 ∷ []) (ArriveCall 2 ∷ goes_on ∷ is_done ∷ goes_on ∷ []) (arrived ∷ ticked 0 2 0 0 ∷ switched 1 2 0 1 ∷ ticked 2 0 0 0 ∷ [])
    -- a job of task 2 alone, never marked done, ends as limit on its fourth tick
    ∷ plays_shared table_E (ArriveCall 2 ∷ times 4 goes_on []) (arrived ∷ ticked 0 2 0 0 ∷ ticked 1 2 0 0 ∷ switched 2 2 0 0 ∷ ticked 3 2 1 2 ∷ [])
    -- all three arrive at 0, with needs of 2, 1 and 2: the tick at clock 2 switches, drops task 1 and ends task 3 as done
    ∷ plays_shared table_E
    (ArriveCall 1 ∷ ArriveCall 2 ∷ ArriveCall 3 ∷ is_done ∷ goes_on ∷ is_done ∷ times 3 goes_on [])
    (arrived ∷ arrived ∷ arrived ∷ ticked 0 2 0 1 ∷ ticked 1 3 0 0 ∷ switched 2 3 1 1 ∷ idle 3 3 [])
    ∷ []

-- What an example says.

abbrev pub RefusedBy : Option TableRefusal → ℕ → Option ℕ → Type 0
RefusedBy None n i = ⊥
RefusedBy (Some r) n i = (number_of r ≡ n) × (task_of r ≡ i)

abbrev pub FixedBy : Option FixedRefusal → ℕ → Type 0
FixedBy None n = ⊥
FixedBy (Some r) n = fixed_number r ≡ n

abbrev pub Says : Example → Type 0
Says (passes d low high) = (verdict d ≡ None) × ((tests_of d).low ≡ low) × ((tests_of d).high ≡ high)
Says (refused d n i) = RefusedBy (verdict d) n i
Says (shared_budget_is d grants i b) = budget_after d grants i ≡ b
Says (fixed_rule d budgets) = fixed_verdict d budgets ≡ None
Says (fixed_refused d budgets n) = FixedBy (fixed_verdict d budgets) n
Says (plays_shared d calls told) = shared_run d calls ≡ told
Says (plays_fixed d budgets calls told) = fixed_run d budgets calls ≡ told

abbrev pub Each : {A : Type 0} → (A → Type 0) → List A → Type 0
Each P [] = Unit {0}
Each P (x ∷ xs) = P x × Each P xs

-- The test of an example.

abbrev pub none : {A : Type 0} → Option A → Bool
none None = true
none (Some a) = false

abbrev pub same_number : Option ℕ → Option ℕ → Bool
same_number None None = true
same_number None (Some n) = false
same_number (Some m) None = false
same_number (Some m) (Some n) = m == n

abbrev pub same_comparison : Comparison → Comparison → Bool
same_comparison a b = a.demand.0 == b.demand.0 && a.supply.0 == b.supply.0

abbrev pub refused_by : Option TableRefusal → ℕ → Option ℕ → Bool
refused_by None n i = false
refused_by (Some r) n i = number_of r == n && same_number (task_of r) i

abbrev pub fixed_by : Option FixedRefusal → ℕ → Bool
fixed_by None n = false
fixed_by (Some r) n = fixed_number r == n

abbrev pub same_told : Told → Told → Bool
same_told arrived arrived = true
same_told arrived (turned_down n) = false
same_told arrived (ticked t i m e) = false
same_told arrived (switched t i x e) = false
same_told (turned_down n) arrived = false
same_told (turned_down n) (turned_down k) = n == k
same_told (turned_down n) (ticked t i m e) = false
same_told (turned_down n) (switched t i x e) = false
same_told (ticked t i m e) arrived = false
same_told (ticked t i m e) (turned_down n) = false
same_told (ticked t i m e) (ticked u j n f) = t == u && (i == j && (m == n && e == f))
same_told (ticked t i m e) (switched u j x f) = false
same_told (switched t i x e) arrived = false
same_told (switched t i x e) (turned_down n) = false
same_told (switched t i x e) (ticked u j m f) = false
same_told (switched t i x e) (switched u j y f) = t == u && (i == j && (x == y && e == f))

abbrev pub same_run : List Told → List Told → Bool
same_run [] [] = true
same_run [] (y ∷ ys) = false
same_run (x ∷ xs) [] = false
same_run (x ∷ xs) (y ∷ ys) = same_told x y && same_run xs ys

abbrev pub test : Example → Bool
test (passes d low high) = none (verdict d) && (same_comparison (tests_of d).low low && same_comparison (tests_of d).high high)
test (refused d n i) = refused_by (verdict d) n i
test (shared_budget_is d grants i b) = budget_after d grants i == b
test (fixed_rule d budgets) = none (fixed_verdict d budgets)
test (fixed_refused d budgets n) = fixed_by (fixed_verdict d budgets) n
test (plays_shared d calls told) = same_run (shared_run d calls) told
test (plays_fixed d budgets calls told) = same_run (fixed_run d budgets calls) told

abbrev pub every : {A : Type 0} → (A → Bool) → List A → Bool
every f [] = true
every f (x ∷ xs) = f x && every f xs
