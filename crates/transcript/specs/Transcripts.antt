-- The transcript of a text: all lines that the board prints for it.
use Rattle.std.specs.Prelude.{ℕ, ◌+◌, cond, List, [], ◌∷◌, ◌++◌, length, drop, Ok, Err, Result, nat_le}
use Rattle.output.specs.declared.fault.Fault.{Fault}
use Rattle.output.specs.declared.fault.ReaderRefusal.{ReaderRefusal}
use Rattle.output.specs.declared.fault.ReaderRefusal.TheVariants.{Order, Length}
use Rattle.scenario.specs.declared.kind.Phase.{Phase}
use Rattle.output.specs.declared.output.OutputLine.{OutputLine}
use Rattle.output.specs.declared.output.OutputLine.TheVariants.{Faulted}
use Rattle.scenario.specs.declared.place.Place.{Place}
use Rattle.output.specs.Faults.{fault_at}
use Rattle.scenario.specs.Items.{Item, read}
use Rattle.scenario.specs.Kinds.{next_phase, may_end}
use Rattle.output.specs.Lines.{lines}
use Rattle.scenario.specs.Reading.{start}
use Rattle.transcript.specs.Shows.{listed}
use Rattle.transcript.specs.Stages.{Stage, opening, left_lines, left_stage}
use Rattle.transcript.specs.Steps.{Step, step}

-- a fault is printed, and the run stops there
abbrev pub fault_lines : Fault → List OutputLine
fault_lines f = Faulted f ∷ []

-- what a line prints, with its ticks, and then what the lines behind it print from the stage that it leads to
abbrev pub carried_out : Result Step Fault → (Stage → List OutputLine) → List OutputLine
carried_out (Ok s) rest = listed s.printed ++ (left_lines s.left s.stage ++ rest (left_stage s.left s.stage))
carried_out (Err f) rest = fault_lines f

abbrev pub by_reading : ℕ → Stage → Result Item ReaderRefusal → (Phase → Stage → List OutputLine) → List OutputLine
by_reading n stage (Ok i) rest = carried_out (step n i stage) (rest (next_phase i.kind))
by_reading n stage (Err e) rest = fault_lines (fault_at n e)

-- of the lines that are still to come, the first of which has number n; each is carried out before the next is read
unfoldable pub lines_transcript : List (List ℕ) → Phase → ℕ → Stage → List OutputLine
lines_transcript [] p n stage = cond (may_end p) [] (fault_lines (fault_at n Order))
lines_transcript (l ∷ ls) p n stage = by_reading n stage (read p l) (λ q next. lines_transcript ls q (n + 1) next)

-- of a text from a place on
abbrev pub transcript_from : List ℕ → Place → Stage → List OutputLine
transcript_from text s stage = cond (nat_le (length text) 65536) (lines_transcript (lines (drop s.at text)) s.phase s.line stage) (fault_lines (fault_at 0 Length))

abbrev pub transcript : List ℕ → List OutputLine
transcript text = transcript_from text start opening
