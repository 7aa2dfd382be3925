-- What a transcript shows of a task's age, read off its lines alone.
use Rattle.std.specs.Prelude.{◌≡◌, ℕ, ◌<◌, cond, ◌&&◌, List, [], ◌∷◌, reverse, take, Some, None, Option, ◌==◌, slice_index_or}
use Rattle.runs.specs.Logs.{ended, raised_by}
use Rattle.runs.specs.Masks.{in_mask}
use Rattle.output.specs.declared.output.OutputLine.{OutputLine}
use Rattle.output.specs.declared.output.OutputLine.TheVariants.{Arrived, Refused, Switched, Ticked, Faulted}
use Rattle.output.specs.Lines.{lines, fields}
use Rattle.output.specs.Output.{task_number}
use Rattle.transcript.specs.Steps.{amount}
use Rattle.transcript.specs.Transcripts.{transcript}

-- the age of task i after one more line: it starts with an arrival of the task, each tick adds one, and it is gone once a tick ends the task or a switch drops it
abbrev pub age_after : ℕ → OutputLine → Option ℕ → Option ℕ
age_after i (Arrived clock k) age = cond (k == i) (Some 0) age
age_after i (Refused clock number) age = age
age_after i (Switched clock dropped) age = cond (in_mask dropped i) None age
age_after i (Ticked task mode ending clock) age = cond (task_number task == i && ended ending) None (raised_by 1 age)
age_after i (Faulted f) age = age

-- the age of task i in printed lines, the latest first
unfoldable pub shown_age : ℕ → List OutputLine → Option ℕ
shown_age i [] = None
shown_age i (l ∷ ls) = age_after i l (shown_age i ls)

-- the period that the text gives task i: the first number of line i + 1
abbrev pub written_period : List ℕ → ℕ → ℕ
written_period text i = amount (slice_index_or (fields (slice_index_or (lines text) i [])) 1 [])

-- In what the board prints for a text, up to any line, no task that has arrived and not yet ended or been dropped is as old as its period.
abbrev pub StaysYoung : List ℕ → Type 0
StaysYoung text = (n i a : ℕ) → shown_age i (reverse (take n (transcript text))) ≡ Some a → a < written_period text i

abbrev pub EveryTextStaysYoung : Type 0
EveryTextStaysYoung = (text : List ℕ) → StaysYoung text
