-- The fault that a stop is on its line.
use Rattle.std.specs.Prelude.{ℕ, ◌^◌, ◌<◌, Some, None, Option}
use Rattle.tasks.specs.declared.refusal.TableRefusal.{TableRefusal}
use Rattle.tasks.specs.Refusals.{task_of}
use Rattle.budget.specs.Refusals.{fixed_number, ceiling_number}
use Rattle.output.specs.declared.fault.Fault.{Fault}
use Rattle.output.specs.declared.fault.ReaderRefusal.TheVariants.{Order}
use Rattle.output.specs.Faults.{fault_at}
use Rattle.transcript.specs.Steps.{line_of_task, table_fault, rule_fault}
use Rattle.play.specs.declared.stop.Stop.{Stop}
use Rattle.play.specs.declared.stop.Stop.TheVariants.{OutOfPlace, Table, Fixed, Ceiling}

abbrev pub fault_of : ℕ → Stop → Fault
fault_of n OutOfPlace = fault_at n Order
fault_of n (Table e) = table_fault e
fault_of n (Fixed e) = rule_fault n (fixed_number e)
fault_of n (Ceiling e) = rule_fault n (ceiling_number e)

-- the line of a refused table's fault is a number of 32 bits
abbrev pub BlamesNear : Option TableRefusal → Type 0
BlamesNear None = Unit {0}
BlamesNear (Some e) = line_of_task (task_of e) < 2 ^ 32

abbrev pub IsNear : Stop → Type 0
IsNear OutOfPlace = Unit {0}
IsNear (Table e) = BlamesNear (Some e)
IsNear (Fixed e) = Unit {0}
IsNear (Ceiling e) = Unit {0}
