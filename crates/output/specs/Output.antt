-- The lines that a run prints.
use Rattle.std.specs.Prelude.{ℕ, cond, List, [], ◌∷◌, ◌++◌, length, drop, Some, None, Ok, Err, codes, decimal, Option, Result, nat_le, unwrap_or}
use Rattle.runs.specs.declared.answer.Ending.{Ending}
use Rattle.runs.specs.declared.answer.Ending.TheVariants.{Done, Limit, Short}
use Rattle.runs.specs.declared.answer.Mode.{Mode}
use Rattle.runs.specs.declared.answer.Mode.TheVariants.{Low, High}
use Rattle.output.specs.declared.fault.Fault.{Fault}
use Rattle.output.specs.declared.fault.Layer.{Layer}
use Rattle.output.specs.declared.fault.Layer.TheVariants.{Reader, Table, Rule}
use Rattle.output.specs.declared.output.WriteRefusal.{WriteRefusal}
use Rattle.output.specs.declared.output.WriteRefusal.TheVariants.{Short as TooShort}
use Rattle.output.specs.declared.output.OutputLine.{OutputLine}
use Rattle.output.specs.Lines.{spaced}
use Rattle.output.specs.declared.output.OutputLine.TheVariants.{Arrived, Refused, Switched, Ticked, Faulted}

abbrev pub refused_number : WriteRefusal → ℕ
refused_number TooShort = 25

-- r, t and u
abbrev pub layer_letter : Layer → ℕ
layer_letter Reader = 114
layer_letter Table = 116
layer_letter Rule = 117

-- l and h
abbrev pub mode_letter : Mode → ℕ
mode_letter Low = 108
mode_letter High = 104

-- d, c and s, and - where no job ended
abbrev pub end_letter : Option Ending → ℕ
end_letter (Some Done) = 100
end_letter (Some Limit) = 99
end_letter (Some Short) = 115
end_letter None = 45

-- an idle tick is written with task 0
abbrev pub task_number : Option ℕ → ℕ
task_number task = unwrap_or task 0

abbrev pub fault_words : Fault → List (List ℕ)
fault_words f = codes "fault" ∷ decimal f.line ∷ (layer_letter f.layer ∷ []) ∷ decimal f.number ∷ []

-- the fields of a printed line
abbrev pub words : OutputLine → List (List ℕ)
words (Arrived clock task) = decimal clock.0 ∷ codes "A" ∷ decimal task ∷ []
words (Refused clock number) = decimal clock.0 ∷ codes "!" ∷ decimal number ∷ []
words (Switched clock dropped) = decimal clock.0 ∷ codes "X" ∷ decimal dropped ∷ []
words (Ticked task mode ending clock) = decimal clock.0 ∷ decimal (task_number task) ∷ (mode_letter mode ∷ []) ∷ (end_letter ending ∷ []) ∷ []
words (Faulted f) = fault_words f

-- one space between fields, and byte 10 at the end
abbrev pub closed : List (List ℕ) → List ℕ
closed ws = spaced ws ++ (10 ∷ [])

abbrev pub line_of : OutputLine → List ℕ
line_of l = closed (words l)

-- a buffer that begins with w; what stood behind stays
abbrev pub page : List ℕ → List ℕ → List ℕ
page w out = w ++ drop (length w) out

-- a line wants a buffer of 40 bytes
abbrev pub written_length : OutputLine → List ℕ → Result ℕ WriteRefusal
written_length l out = cond (nat_le 40 (length out)) (Ok (length (line_of l))) (Err TooShort)

abbrev pub written_bytes : OutputLine → List ℕ → List ℕ
written_bytes l out = cond (nat_le 40 (length out)) (page (line_of l) out) out
