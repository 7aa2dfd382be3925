-- Laws of lines, fields and numbers.
use Rattle.std.specs.Prelude.{◌≡◌, ℕ, ◌^◌, ◌<◌, Bool, true, cond, ◌≢◌, List, [], ◌∷◌, ◌++◌, Option, Some, decimal, ◌==◌}
use Rattle.std.specs.Borrow.{Bor}
use Rattle.std.specs.Iterator.{YieldsFirstRef}
use Rattle.std.specs.List.{AllByRecursion}
use Rattle.output.specs.Lines.{lines, fields, spaced}
use Rattle.scenario.specs.declared.fields.Fields.{Fields}
use Rattle.scenario.specs.Left.{to_come, bytes, rest_behind}
use Rattle.scenario.specs.Numbers.{value}

-- no piece holds the byte
abbrev pub Without : ℕ → List (List ℕ) → Type 0
Without stop ps = AllByRecursion (AllByRecursion (λ b. b ≢ stop)) ps

-- lines, each with byte 10 behind it
abbrev pub ended : List (List ℕ) → List ℕ
ended [] = []
ended (l ∷ ls) = l ++ (10 ∷ ended ls)

-- whether the last line has its byte 10
abbrev pub finished : List ℕ → Bool
finished [] = true
finished (b ∷ []) = b == 10
finished (b ∷ c ∷ bs) = finished (c ∷ bs)

-- the lines of a text, each with its byte 10, are the text, or the text with the byte 10 that its last line lacks
abbrev pub LinesJoined : Type 0
LinesJoined = (text : List ℕ) → ended (lines text) ≡ cond (finished text) text (text ++ (10 ∷ []))

abbrev pub LinesLack : Type 0
LinesLack = (text : List ℕ) → Without 10 (lines text)

-- and they are the only ones
abbrev pub LinesOnly : Type 0
LinesOnly = (ls : List (List ℕ)) → Without 10 ls → lines (ended ls) ≡ ls

-- the fields of a line with a space between them are the line
abbrev pub FieldsJoined : Type 0
FieldsJoined = (line : List ℕ) → spaced (fields line) ≡ line

abbrev pub FieldsLack : Type 0
FieldsLack = (line : List ℕ) → Without 32 (fields line)

abbrev pub FieldsOnly : Type 0
FieldsOnly = (f : List ℕ) (fs : List (List ℕ)) → Without 32 (f ∷ fs) → fields (spaced (f ∷ fs)) ≡ f ∷ fs

-- a field that is given leaves the line's rest behind its space
abbrev pub FieldsRest : Type 0
FieldsRest = (fs gs : Fields) (field : Option (Bor (List ℕ))) → YieldsFirstRef to_come fs field gs → bytes gs.rest ≡ rest_behind (bytes fs.rest)

-- a number of at most nine digits reads back to itself as it is written
abbrev pub WrittenReads : Type 0
WrittenReads = (n : ℕ) → n < 10 ^ 9 → value (decimal n) ≡ Some n

-- and nothing else reads to it
abbrev pub ReadsWritten : Type 0
ReadsWritten = (field : List ℕ) (n : ℕ) → value field ≡ Some n → field ≡ decimal n
