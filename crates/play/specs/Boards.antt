-- What is still to come of a board's transcript, and what a pull does.
use Rattle.std.specs.Prelude.{◌≡◌, ℕ, ◌+◌, ◌<◌, ◌≤◌, cond, List, [], ◌∷◌, ◌++◌, length, Some, None, Ok, Err, Option, Result, nat_le}
use Rattle.output.specs.declared.fault.Fault.{Fault}
use Rattle.output.specs.declared.output.OutputLine.{OutputLine}
use Rattle.output.specs.declared.output.OutputLine.TheVariants.{Faulted}
use Rattle.output.specs.declared.output.WriteRefusal.{WriteRefusal}
use Rattle.output.specs.declared.output.WriteRefusal.TheVariants.{Short}
use Rattle.scenario.specs.declared.place.Reader.{Reader}
use Rattle.scenario.specs.Left.{others}
use Rattle.output.specs.Output.{line_of, page}
use Rattle.scenario.specs.Readers.{text_of, place_of, lines_left}
use Rattle.transcript.specs.Shows.{listed}
use Rattle.transcript.specs.Stages.{Stage, left_lines, left_stage}
use Rattle.transcript.specs.Transcripts.{transcript_from}
use Rattle.play.specs.declared.board.Board.{Board}
use Rattle.play.specs.declared.course.Course.{Course}
use Rattle.play.specs.declared.course.Printed.{Printed}
use Rattle.play.specs.Courses.{stage_of}

-- what the rest of the text prints, and nothing once it is over
abbrev pub read_from : Option Reader → Stage → List OutputLine
read_from None s = []
read_from (Some r) s = transcript_from (text_of r) (place_of r) s

-- what the ticks that are left print, and then the rest of the text
abbrev pub upcoming : Option Reader → ℕ → Stage → List OutputLine
upcoming r left s = left_lines left s ++ read_from r (left_stage left s)

abbrev pub to_come : Board → List OutputLine
to_come b = listed b.held ++ upcoming b.reader b.left (stage_of b.course)

-- how often the board may still read on
abbrev pub turns_of : Option Reader → ℕ
turns_of None = 0
turns_of (Some r) = length (lines_left r) + 1

abbrev pub turns : Board → ℕ
turns b = turns_of b.reader

-- a line that comes without reading on; where none does, everything else is as it was
pub record Waits (b b' : Board) : Type 0 where
  pub same : to_come b' ≡ to_come b
  pub held : b'.held ≡ None
  pub left : b'.left ≡ 0
  pub reader : b'.reader ≡ b.reader

abbrev pub Readied : Option OutputLine → Board → Board → Type 0
Readied (Some l) b b' = to_come b ≡ l ∷ to_come b'
Readied None b b' = Waits b b'

-- what a line that was read prints, with what is to come behind it
pub record LeadsOn (p : Printed) (r : Reader) (s : Stage) (r' : Reader) (s' : Stage) : Type 0 where
  pub same : listed p.line ++ upcoming (Some r') p.left s' ≡ transcript_from (text_of r) (place_of r) s
  pub fewer : length (lines_left r') < length (lines_left r)

abbrev pub CarriesOn : Result (Option Printed) Fault → Reader → Course → Reader → Course → Type 0
CarriesOn (Ok (Some p)) r c r' c' = LeadsOn p r (stage_of c) r' (stage_of c')
CarriesOn (Ok None) r c r' c' = [] ≡ transcript_from (text_of r) (place_of r) (stage_of c)
CarriesOn (Err f) r c r' c' = Faulted f ∷ [] ≡ transcript_from (text_of r) (place_of r) (stage_of c)

-- a board reads on once more, or its text is over
pub record Reads (b b' : Board) : Type 0 where
  pub same : to_come b' ≡ to_come b
  pub fewer : turns b' < turns b

abbrev pub ReadsOn : Option (Unit {0}) → Board → Board → Type 0
ReadsOn (Some u) b b' = Reads b b'
ReadsOn None b b' = (to_come b ≡ []) × (to_come b' ≡ [])

-- a pull: the length of the next line, none at the end; a buffer under 40 bytes is refused by 25
abbrev pub next_length : List OutputLine → Option ℕ
next_length [] = None
next_length (l ∷ ls) = Some (length (line_of l))

abbrev pub pulled : List OutputLine → List ℕ → Result (Option ℕ) WriteRefusal
pulled ls out = cond (nat_le 40 (length out)) (Ok (next_length ls)) (Err Short)

-- the buffer then begins with that line, and what stood behind it stays
abbrev pub next_page : List OutputLine → List ℕ → List ℕ
next_page [] out = out
next_page (l ∷ ls) out = page (line_of l) out

abbrev pub pulled_bytes : List OutputLine → List ℕ → List ℕ
pulled_bytes ls out = cond (nat_le 40 (length out)) (next_page ls out) out

-- and the lines behind it are still to come
abbrev pub left_behind : List OutputLine → List ℕ → List OutputLine
left_behind ls out = cond (nat_le 40 (length out)) (others ls) ls

-- a line has at most 40 bytes
abbrev pub ShortLine : Result (Option ℕ) WriteRefusal → Type 0
ShortLine (Ok (Some n)) = n ≤ 40
ShortLine (Ok None) = Unit {0}
ShortLine (Err e) = Unit {0}
