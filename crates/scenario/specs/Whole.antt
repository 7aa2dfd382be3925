-- The first fault of a whole text.
use Rattle.std.specs.Prelude.{ℕ, ◌+◌, cond, List, [], ◌∷◌, length, drop, Some, None, Ok, Err, Option, Result, nat_le}
use Rattle.output.specs.declared.fault.Fault.{Fault}
use Rattle.output.specs.declared.fault.ReaderRefusal.{ReaderRefusal}
use Rattle.output.specs.declared.fault.ReaderRefusal.TheVariants.{Order, Length}
use Rattle.scenario.specs.declared.kind.Phase.{Phase}
use Rattle.scenario.specs.declared.place.Place.{Place}
use Rattle.output.specs.Faults.{fault_at}
use Rattle.scenario.specs.Items.{Item, read}
use Rattle.scenario.specs.Kinds.{next_phase, may_end}
use Rattle.output.specs.Lines.{lines}
use Rattle.scenario.specs.Reading.{start}

-- the fault of a line, or else that of the lines behind it
abbrev pub then_rest : ℕ → Result Item ReaderRefusal → (Phase → Option Fault) → Option Fault
then_rest n (Ok i) rest = rest (next_phase i.kind)
then_rest n (Err e) rest = Some (fault_at n e)

-- of the lines that are still to come, the first of which has number n
abbrev pub lines_fault : List (List ℕ) → Phase → ℕ → Option Fault
lines_fault [] p n = cond (may_end p) None (Some (fault_at n Order))
lines_fault (l ∷ ls) p n = then_rest n (read p l) (λ q. lines_fault ls q (n + 1))

abbrev pub fault_from : List ℕ → Place → Option Fault
fault_from text s = cond (nat_le (length text) 65536) (lines_fault (lines (drop s.at text)) s.phase s.line) (Some (fault_at 0 Length))

abbrev pub text_fault : List ℕ → Option Fault
text_fault text = fault_from text start
