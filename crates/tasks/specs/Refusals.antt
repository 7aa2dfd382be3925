-- The number of each refusal of a table, and the task that it names.
use Rattle.std.specs.Prelude.{ℕ, Some, None, Option}
use Rattle.tasks.specs.declared.refusal.TableRefusal.{TableRefusal}
use Rattle.tasks.specs.declared.refusal.TableRefusal.TheVariants.{Count, Scale, Factor, Total, Period, VirtualDeadline, Service, LowTest, HighTest}

abbrev pub number_of : TableRefusal → ℕ
number_of (Count n) = 1
number_of (Scale h) = 2
number_of (Factor f) = 3
number_of (Total b) = 4
number_of (Period i t) = 5
number_of (VirtualDeadline i t) = 6
number_of (Service i t) = 7
number_of (LowTest c) = 8
number_of (HighTest c) = 9

abbrev pub task_of : TableRefusal → Option ℕ
task_of (Count n) = None
task_of (Scale h) = None
task_of (Factor f) = None
task_of (Total b) = None
task_of (Period i t) = Some i
task_of (VirtualDeadline i t) = Some i
task_of (Service i t) = Some i
task_of (LowTest c) = None
task_of (HighTest c) = None
