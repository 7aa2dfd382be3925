-- What a replay and a comparison say.
use Rattle.std.specs.Prelude.{◌≡◌, ℕ, ◌≤◌, Bool, true, false, List, map, reverse}
use Rattle.std.specs.declared.ops.ControlFlow.{ControlFlow}
use Rattle.std.specs.declared.ops.ControlFlow.TheVariants.{Continue, Break}
use Rattle.tasks.specs.declared.units.Ticks.{Ticks}
use Rattle.table.specs.Verdict.{Draft}
use Rattle.order.specs.Orders.{Ahead}
use Rattle.budget.specs.Meaning.{Meaning}
use Rattle.runs.specs.declared.call.Call.{Call}
use Rattle.runs.specs.declared.entry.Entry.{Entry}
use Rattle.runs.specs.Numbers.{call_of}
use Rattle.runs.specs.States.{State, OfTable}
use Rattle.runs.specs.Logs.{switched_in, before_switch}
use Rattle.runs.specs.Produced.{Kind, lawful, exact, Produced}
use Rattle.trials.specs.declared.refusal.CompareRefusal.{CompareRefusal}
use Rattle.trials.specs.declared.refusal.CompareRefusal.TheVariants.{ForeignRule}

-- two meanings with the same weights and total
pub record Alike (m n : Meaning) : Type 0 where
  pub weights : (i : ℕ) → n.weight i ≡ m.weight i
  pub total : n.total ≡ m.total

-- Entries, in their order, are answered as a dispatcher would whose rule ends with this meaning. Logs have the latest entry first.
pub record Answered (d : Draft) (ahead : Ahead) (entries : List Entry) (meaning : Meaning) : Type 0 where
  pub state : State
  pub produced : Produced lawful d ahead (reverse entries) meaning state

-- Two logs of exactly these calls, one of them under the shared rule of the table, the other under a rule that ends with this meaning, with their counts before the first switch.
pub record Compared (d : Draft) (ahead : Ahead) (calls : List Call) (shared other : ℕ) (other_meaning : Meaning) : Type 0 where
  pub shared_log : List Entry
  pub shared_meaning : Meaning
  pub shared_state : State
  pub by_shared : Produced exact d ahead shared_log shared_meaning shared_state
  pub shared_own : OfTable d shared_meaning
  pub shared_calls : map call_of shared_log ≡ reverse calls
  pub shared_count : shared ≡ before_switch shared_log
  pub other_log : List Entry
  pub other_state : State
  pub by_other : Produced lawful d ahead other_log other_meaning other_state
  pub other_own : OfTable d other_meaning
  pub other_calls : map call_of other_log ≡ reverse calls
  pub other_count : other ≡ before_switch other_log
  pub no_sooner : other ≤ shared

-- the ticks of a count, and whether a switch has ended it
abbrev pub counted : ControlFlow Ticks Ticks → ℕ
counted (Continue t) = t.0
counted (Break t) = t.0

abbrev pub is_over : ControlFlow Ticks Ticks → Bool
is_over (Continue t) = false
is_over (Break t) = true

-- a count along a log of some calls
pub record Counting (kind : Kind) (d : Draft) (ahead : Ahead) (m : Meaning) (s : State) (calls : List Call) (ticks : ℕ) (over : Bool) : Type 0 where
  pub log : List Entry
  pub by : Produced kind d ahead log m s
  pub own : OfTable d m
  pub calls_are : map call_of log ≡ reverse calls
  pub ticks_are : ticks ≡ before_switch log
  pub over_is : over ≡ switched_in log

abbrev pub compare_number : CompareRefusal → ℕ
compare_number ForeignRule = 19
