-- What a text gives at a place: the next line, the end, or a fault.
use Rattle.std.specs.Prelude.{◌≡◌, ℕ, ◌+◌, true, cond, List, [], ◌∷◌, length, drop, Some, None, Ok, Err, Option, Result, nat_le}
use Rattle.output.specs.declared.fault.Fault.{Fault}
use Rattle.output.specs.declared.fault.ReaderRefusal.{ReaderRefusal}
use Rattle.output.specs.declared.fault.ReaderRefusal.TheVariants.{Order, Length}
use Rattle.scenario.specs.declared.kind.Phase.{Phase}
use Rattle.scenario.specs.declared.kind.Phase.TheVariants.{Start}
use Rattle.scenario.specs.declared.lines.Line.{Line}
use Rattle.scenario.specs.declared.place.Place.{Place}
use Rattle.output.specs.Faults.{fault_at}
use Rattle.scenario.specs.Items.{Item, read, right_count, right_numbers}
use Rattle.scenario.specs.Kinds.{next_phase, may_end}
use Rattle.scenario.specs.Left.{others}
use Rattle.output.specs.Lines.{lines, before}
use Rattle.scenario.specs.Shown.{shown}

-- the first line
abbrev pub start : Place
start = record { at = 0; line = 1; phase = Start }

-- a text that ends too early is out of place on the line after its last
abbrev pub at_end : Phase → ℕ → Result (Option Item) Fault
at_end p n = cond (may_end p) (Ok None) (Err (fault_at n Order))

abbrev pub on_line : ℕ → Result Item ReaderRefusal → Result (Option Item) Fault
on_line n (Ok i) = Ok (Some i)
on_line n (Err e) = Err (fault_at n e)

-- the next item of the lines that are still to come, the first of which has number n
abbrev pub next_of : Phase → ℕ → List (List ℕ) → Result (Option Item) Fault
next_of p n [] = at_end p n
next_of p n (l ∷ ls) = on_line n (read p l)

-- the next item of a text at a place; a text above 65,536 bytes has none
abbrev pub next : List ℕ → Place → Result (Option Item) Fault
next text s = cond (nat_le (length text) 65536) (next_of s.phase s.line (lines (drop s.at text))) (Err (fault_at 0 Length))

-- the place behind the next line: past it and its byte 10. At the end and at a fault the place stays
abbrev pub moved : List ℕ → Place → Result (Option Item) Fault → Place
moved text s (Ok (Some i)) = record { at = s.at + length (before 10 (drop s.at text)) + 1; line = s.line + 1; phase = next_phase i.kind }
moved text s (Ok None) = s
moved text s (Err e) = s

-- the lines that are still to come after that
abbrev pub lines_after : Result (Option Item) Fault → List (List ℕ) → List (List ℕ)
lines_after (Ok (Some i)) ls = others ls
lines_after (Ok None) ls = ls
lines_after (Err e) ls = ls

-- the reader's answer, as what it says
abbrev pub shown_next : Result (Option Line) Fault → Result (Option Item) Fault
shown_next (Ok (Some l)) = Ok (Some (shown l))
shown_next (Ok None) = Ok None
shown_next (Err e) = Err e

-- a line that is handed out has the right count of numbers, each well-formed and in its range
abbrev pub Good : Result (Option Item) Fault → Type 0
Good (Ok (Some i)) = (right_count i.kind (length i.numbers) ≡ true) × (right_numbers i.kind 0 i.numbers ≡ true)
Good (Ok None) = Unit {0}
Good (Err e) = Unit {0}
