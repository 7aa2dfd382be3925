-- The number of each refusal of a fixed rule and of a ceiling, and the task that it names.
use Rattle.std.specs.Prelude.{ℕ, Some, None, Option}
use Rattle.budget.specs.declared.refusal.FixedRefusal.{FixedRefusal}
use Rattle.budget.specs.declared.refusal.FixedRefusal.TheVariants.{Count, LowTask, TooLarge, OverTotal}
use Rattle.budget.specs.declared.refusal.CeilingRefusal.{CeilingRefusal}
use Rattle.budget.specs.declared.refusal.CeilingRefusal.TheVariants.{Count as CeilingCount, TooLarge as CeilingLarge}

abbrev pub fixed_number : FixedRefusal → ℕ
fixed_number (Count n m) = 15
fixed_number (LowTask x) = 15
fixed_number (TooLarge x) = 16
fixed_number (OverTotal s b) = 17

abbrev pub fixed_task : FixedRefusal → Option ℕ
fixed_task (Count n m) = None
fixed_task (LowTask x) = Some x.task
fixed_task (TooLarge x) = Some x.task
fixed_task (OverTotal s b) = None

abbrev pub ceiling_number : CeilingRefusal → ℕ
ceiling_number (CeilingCount n m) = 18
ceiling_number (CeilingLarge x) = 18

abbrev pub ceiling_task : CeilingRefusal → Option ℕ
ceiling_task (CeilingCount n m) = None
ceiling_task (CeilingLarge x) = Some x.task
