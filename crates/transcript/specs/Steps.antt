-- What each line of a scenario does.
use Rattle.std.specs.Prelude.{ℕ, ◌+◌, cond, List, [], ◌∷◌, ◌++◌, length, Some, None, Ok, Err, Option, Result, nat_lt, slice_index_or}
use Rattle.tasks.specs.declared.refusal.TableRefusal.{TableRefusal}
use Rattle.tasks.specs.declared.task.Criticality.TheVariants.{High, Low}
use Rattle.tasks.specs.declared.task.Factor.{Factor}
use Rattle.tasks.specs.declared.task.Task.{Task}
use Rattle.tasks.specs.declared.units.Shares.{Shares}
use Rattle.tasks.specs.declared.units.Ticks.{Ticks}
use Rattle.tasks.specs.Refusals.{number_of, task_of}
use Rattle.table.specs.Tasks.{ticks, shares}
use Rattle.table.specs.Verdict.{Draft, drafted, verdict}
use Rattle.budget.specs.declared.refusal.CeilingRefusal.{CeilingRefusal}
use Rattle.budget.specs.declared.refusal.FixedRefusal.{FixedRefusal}
use Rattle.budget.specs.Making.{fixed_fault, ceiling_fault}
use Rattle.budget.specs.Refusals.{fixed_number, ceiling_number}
use Rattle.budget.specs.Rules.{policy_under}
use Rattle.budget.specs.Slots.{ticks_in}
use Rattle.output.specs.declared.fault.Fault.{Fault}
use Rattle.output.specs.declared.fault.Layer.TheVariants.{Table as TableLayer, Rule as RuleLayer}
use Rattle.output.specs.declared.fault.ReaderRefusal.TheVariants.{Order}
use Rattle.scenario.specs.declared.kind.Kind.{Kind}
use Rattle.scenario.specs.declared.kind.Kind.TheVariants.{Scale as S, High as H, Low as L, Shared as M, Fixed as F, Ceiling as C, Arrival as A, Run as R}
use Rattle.output.specs.declared.output.OutputLine.{OutputLine}
use Rattle.output.specs.Faults.{fault_at}
use Rattle.scenario.specs.Items.{Item}
use Rattle.scenario.specs.Numbers.{value}
use Rattle.transcript.specs.Policies.{Policy, shared_policy, fixed_policy}
use Rattle.transcript.specs.Shows.{Show, new_show, arriving, after_arriving, arrival_line}
use Rattle.transcript.specs.Stages.{Stage, opening, tabling, ruled, showing}

-- numbers

-- The value of a field; the reader lets only numbers through.
abbrev pub amount_by : Option ℕ → ℕ
amount_by None = 0
amount_by (Some n) = n

abbrev pub amount : List ℕ → ℕ
amount field = amount_by (value field)

-- the number at a place, from 0
abbrev pub nth : List (List ℕ) → ℕ → ℕ
nth fields k = amount (slice_index_or fields k [])

abbrev pub amounts : List (List ℕ) → List Ticks
amounts [] = []
amounts (f ∷ fs) = ticks (amount f) ∷ amounts fs

abbrev pub factor_of : ℕ → ℕ → Factor
factor_of p q = record { p = p; q = q }

abbrev pub high_of : ℕ → ℕ → Task
high_of period worst = record { period = ticks period; worst = ticks worst; criticality = High }

abbrev pub low_of : ℕ → ℕ → ℕ → Task
low_of period worst assured = record { period = ticks period; worst = ticks worst; criticality = Low (ticks assured) }

-- A table of more than 32 tasks is refused whatever they are, so none is kept behind the 33rd.
abbrev pub with_task : List Task → Task → List Task
with_task ts t = cond (nat_lt (length ts) 33) (ts ++ (t ∷ [])) ts

-- faults

-- the S line is line 1, and task i stands on line i + 1
abbrev pub line_of_task : Option ℕ → ℕ
line_of_task None = 1
line_of_task (Some i) = i + 1

abbrev pub table_fault : TableRefusal → Fault
table_fault e = record { line = line_of_task (task_of e); layer = TableLayer; number = number_of e }

abbrev pub rule_fault : ℕ → ℕ → Fault
rule_fault line number = record { line = line; layer = RuleLayer; number = number }

-- steps

-- what a line leads to: at most one printed line, ticks that are to run, and the stage behind it
pub record Step : Type 0 where
  pub printed : Option OutputLine
  pub left : ℕ
  pub stage : Stage

abbrev pub silent : Stage → Result Step Fault
silent s = Ok (record { printed = None; left = 0; stage = s })

-- a line out of place, which the reader has turned down already
abbrev pub out_of_place : ℕ → Result Step Fault
out_of_place n = Err (fault_at n Order)

abbrev pub on_opening : ℕ → Result Step Fault → Stage → Result Step Fault
on_opening n step opening = step
on_opening n step (tabling h b f ts) = out_of_place n
on_opening n step (ruled d policy) = out_of_place n
on_opening n step (showing w) = out_of_place n

abbrev pub on_table : ℕ → (Shares → Shares → Factor → List Task → Result Step Fault) → Stage → Result Step Fault
on_table n step opening = out_of_place n
on_table n step (tabling h b f ts) = step h b f ts
on_table n step (ruled d policy) = out_of_place n
on_table n step (showing w) = out_of_place n

abbrev pub on_rule : ℕ → (Draft → Policy → Result Step Fault) → Stage → Result Step Fault
on_rule n step opening = out_of_place n
on_rule n step (tabling h b f ts) = out_of_place n
on_rule n step (ruled d policy) = step d policy
on_rule n step (showing w) = out_of_place n

-- the first event makes the dispatcher
abbrev pub on_show : ℕ → (Show → Result Step Fault) → Stage → Result Step Fault
on_show n step opening = out_of_place n
on_show n step (tabling h b f ts) = out_of_place n
on_show n step (ruled d policy) = step (new_show d policy)
on_show n step (showing w) = step w

abbrev pub add_task : ℕ → Task → Stage → Result Step Fault
add_task n t = on_table n (λ h b f ts. silent (tabling h b f (with_task ts t)))

-- the table is accepted at the M or F line
abbrev pub if_accepted : Option TableRefusal → Result Step Fault → Result Step Fault
if_accepted None step = step
if_accepted (Some e) step = Err (table_fault e)

abbrev pub accepting : ℕ → (Draft → Result Step Fault) → Stage → Result Step Fault
accepting n step = on_table n (λ h b f ts. if_accepted (verdict (drafted h b f (length ts) ts)) (step (drafted h b f (length ts) ts)))

abbrev pub if_fixed : ℕ → Option FixedRefusal → Result Step Fault → Result Step Fault
if_fixed n None step = step
if_fixed n (Some e) step = Err (rule_fault n (fixed_number e))

abbrev pub if_ceiling : ℕ → Option CeilingRefusal → Result Step Fault → Result Step Fault
if_ceiling n None step = step
if_ceiling n (Some e) step = Err (rule_fault n (ceiling_number e))

abbrev pub make_fixed : ℕ → List Ticks → Draft → Result Step Fault
make_fixed n budgets d = if_fixed n (fixed_fault d budgets) (silent (ruled d (fixed_policy d budgets)))

abbrev pub make_ceiling : ℕ → List Ticks → Draft → Policy → Result Step Fault
make_ceiling n ceilings d policy = if_ceiling n (ceiling_fault d ceilings) (silent (showing (new_show d (policy_under policy (ticks_in ceilings)))))

abbrev pub arrive : ℕ → ℕ → Show → Result Step Fault
arrive i need w = Ok (record { printed = Some (arrival_line w.state.clock i (arriving w i)); left = 0; stage = showing (after_arriving w i need) })

abbrev pub run : ℕ → Show → Result Step Fault
run n w = Ok (record { printed = None; left = n; stage = showing w })

-- what line n does, by its kind and its numbers
abbrev pub step_by : ℕ → Kind → List (List ℕ) → Stage → Result Step Fault
step_by n S ns = on_opening n (silent (tabling (shares (nth ns 0)) (shares (nth ns 1)) (factor_of (nth ns 2) (nth ns 3)) []))
step_by n H ns = add_task n (high_of (nth ns 0) (nth ns 1))
step_by n L ns = add_task n (low_of (nth ns 0) (nth ns 1) (nth ns 2))
step_by n M ns = accepting n (λ d. silent (ruled d (shared_policy d)))
step_by n F ns = accepting n (make_fixed n (amounts ns))
step_by n C ns = on_rule n (make_ceiling n (amounts ns))
step_by n A ns = on_show n (arrive (nth ns 0) (nth ns 1))
step_by n R ns = on_show n (run (nth ns 0))

abbrev pub step : ℕ → Item → Stage → Result Step Fault
step n i = step_by n i.kind i.numbers
