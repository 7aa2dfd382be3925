-- The refusals of the reader, and its faults.
use Rattle.std.specs.Prelude.{ℕ}
use Rattle.output.specs.declared.fault.Fault.{Fault}
use Rattle.output.specs.declared.fault.Layer.TheVariants.{Reader}
use Rattle.output.specs.declared.fault.ReaderRefusal.{ReaderRefusal}
use Rattle.output.specs.declared.fault.ReaderRefusal.TheVariants.{Letter, Count, Number, Order, Length}

abbrev pub number_of : ReaderRefusal → ℕ
number_of Letter = 20
number_of Count = 21
number_of Number = 22
number_of Order = 23
number_of Length = 24

abbrev pub fault_at : ℕ → ReaderRefusal → Fault
fault_at n r = record { line = n; layer = Reader; number = number_of r }
