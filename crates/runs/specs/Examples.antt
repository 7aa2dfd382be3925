-- The theorems speak of something: runs in which each bound is met, by computation on the definitions.
use Rattle.std.specs.Prelude.{◌≡◌, ℕ, ◌-◌, false, cond, List, [], ◌∷◌, map, Some, Ok, slice_index}
use Rattle.tasks.specs.declared.task.Task.{Task}
use Rattle.tasks.specs.declared.task.Criticality.TheVariants.{High, Low}
use Rattle.table.specs.Tasks.{ticks, shares}
use Rattle.table.specs.Verdict.{Draft, drafted}
use Rattle.table.specs.Accepted.{Accepted}
use Rattle.order.specs.Orders.{TieLaws}
use Rattle.order.specs.Ties.{by_number}
use Rattle.budget.specs.Meaning.{Meaning, raised}
use Rattle.budget.specs.Rules.{fixed_meaning}
use Rattle.runs.specs.declared.answer.Ending.TheVariants.{Short}
use Rattle.runs.specs.declared.answer.Mode.TheVariants.{High as HighMode}
use Rattle.runs.specs.declared.answer.Answer.{Answer}
use Rattle.runs.specs.declared.call.Call.{Call}
use Rattle.runs.specs.declared.call.Call.TheVariants.{Arrive as ArriveCall, Tick as TickCall}
use Rattle.runs.specs.declared.call.Mark.TheVariants.{Done, NotDone}
use Rattle.runs.specs.declared.entry.Entry.TheVariants.{Tick}
use Rattle.runs.specs.Numbers.{call_of}
use Rattle.runs.specs.States.{OfTable, period, rank, is_high, rule_weight}
use Rattle.runs.specs.Logs.{age, arrival, switch_clock, before_switch}
use Rattle.runs.specs.Produced.{lawful, exact, Produced}
use Rattle.runs.specs.Programs.{Program, shared_program, shared_rule, Standing, play}

abbrev pub high_task : ℕ → ℕ → Task
high_task T C = record { period = ticks T; worst = ticks C; criticality = High }

abbrev pub low_task : ℕ → ℕ → ℕ → Task
low_task T C g = record { period = ticks T; worst = ticks C; criticality = Low (ticks g) }

-- A rule with a budget for each task.
abbrev pub fixed_program : Program
fixed_program = record {
  grant = λ k m i run. cond (m.yes i run) (record { weight = m.weight; total = m.total; longest = raised m.longest i run; yes = m.yes }) m;
  rest = λ k m. record { weight = m.weight; total = m.total; longest = λ i. 0; yes = m.yes };
}

abbrev pub fixed_rule : Draft → (ℕ → ℕ) → Meaning
fixed_rule d budget = fixed_meaning (rule_weight d) d.total.0 (λ i. 0) budget

-- 1. A high task whose worst is its whole period, after three of its four ticks: its age is one less than the period.

abbrev pub whole : Draft
whole = drafted (shares 4) (shares 4) (record { p = 1; q = 1 }) 1 (high_task 4 4 ∷ [])

abbrev pub three_ticks : List Call
three_ticks = TickCall NotDone ∷ TickCall NotDone ∷ TickCall NotDone ∷ ArriveCall 1 ∷ []

abbrev pub whole_run : Standing
whole_run = play whole by_number shared_program (shared_rule whole) three_ticks

pub record AgeMet : Type 0 where
  pub accepted : Accepted whole
  pub order : TieLaws by_number
  pub produced : Produced exact whole by_number whole_run.log whole_run.meaning whole_run.state
  pub old : age 1 whole_run.log ≡ Some 3
  pub limit : period whole 1 ≡ 4

-- 2. One job of task 2 that is done after two ticks: the shared rule does not switch, the budgets 0, 1, 1 do after one tick.

abbrev pub three : Draft
three = drafted (shares 10) (shares 2) (record { p = 2; q = 5 }) 3 (low_task 10 5 0 ∷ high_task 10 4 ∷ high_task 10 4 ∷ [])

abbrev pub budgets : ℕ → ℕ
budgets i = slice_index (0 ∷ 1 ∷ 1 ∷ []) (i - 1)

abbrev pub two_ticks : List Call
two_ticks = TickCall Done ∷ TickCall NotDone ∷ ArriveCall 2 ∷ []

abbrev pub under_shared : Standing
under_shared = play three by_number shared_program (shared_rule three) two_ticks

abbrev pub under_fixed : Standing
under_fixed = play three by_number fixed_program (fixed_rule three budgets) two_ticks

pub record SharedOutlasts : Type 0 where
  pub accepted : Accepted three
  pub order : TieLaws by_number
  pub by_shared : Produced exact three by_number under_shared.log under_shared.meaning under_shared.state
  pub by_fixed : Produced lawful three by_number under_fixed.log under_fixed.meaning under_fixed.state
  pub own : OfTable three under_shared.meaning × OfTable three under_fixed.meaning
  pub calls : map call_of under_shared.log ≡ map call_of under_fixed.log
  pub counts : (before_switch under_shared.log ≡ 2) × (before_switch under_fixed.log ≡ 1)

-- 3. A high task and a low one with one assured tick arrive together. The second tick switches, the low job stays, and once the high one had its worst it has its one tick and ends as short.

abbrev pub assured : Draft
assured = drafted (shares 10) (shares 1) (record { p = 1; q = 2 }) 2 (high_task 10 4 ∷ low_task 10 3 1 ∷ [])

abbrev pub four_ticks : List Call
four_ticks = TickCall NotDone ∷ TickCall NotDone ∷ TickCall NotDone ∷ TickCall NotDone ∷ ArriveCall 2 ∷ ArriveCall 1 ∷ []

abbrev pub five_ticks : List Call
five_ticks = TickCall NotDone ∷ four_ticks

abbrev pub before_short : Standing
before_short = play assured by_number shared_program (shared_rule assured) four_ticks

abbrev pub short_run : Standing
short_run = play assured by_number shared_program (shared_rule assured) five_ticks

abbrev pub short_answer : Answer
short_answer = record { clock = ticks 4; task = Some 2; mode = HighMode; switched = false; dropped = 0; ending = Some Short }

pub record ShortEnd : Type 0 where
  pub accepted : Accepted assured
  pub order : TieLaws by_number
  pub produced : Produced exact assured by_number short_run.log short_run.meaning short_run.state
  pub low : is_high (rank assured 2) ≡ false
  pub switched : switch_clock before_short.log ≡ Some 1
  pub pending : arrival 2 before_short.log ≡ Some 0
  pub short : short_run.log ≡ Tick NotDone (Some (Ok short_answer)) ∷ before_short.log
