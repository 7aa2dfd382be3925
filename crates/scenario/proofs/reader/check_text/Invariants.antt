use Rattle.std.proofs.Common.{◌≡◌, length}
use Rattle.scenario.specs.Readers.{text_of, place_of, lines_left}
use Rattle.scenario.specs.Whole.{fault_from, text_fault}
use Rattle.scenario.proofs.reader.check_text.Given as goal

-- the fault of what is left is that of the whole
abbrev pub invariant-loop : goal.invariant-loop
invariant-loop l = (text_of l.reader ≡ l.text) × (fault_from l.text (place_of l.reader) ≡ text_fault l.text)

abbrev pub decreases-loop : goal.decreases-loop
decreases-loop l = length (lines_left l.reader)
