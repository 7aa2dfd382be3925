-- The fields of a line that are still to come.
use Rattle.std.specs.Prelude.{ℕ, ◌+◌, List, [], ◌∷◌, length, drop, Some, None, Option, if◌then◌else◌, nat_lt}
use Rattle.std.specs.Borrow.{Bor}
use Rattle.scenario.specs.declared.fields.Fields.{Fields}
use Rattle.output.specs.Lines.{fields, before}

-- the fields of the rest of a line; where there is no rest, none is left
abbrev pub left : Option (Bor (List ℕ)) → List (List ℕ)
left None = []
left (Some rest) = fields rest.now

abbrev pub to_come : Fields → List (List ℕ)
to_come f = left f.rest

abbrev pub first : {A : Type 0} → List A → Option A
first [] = None
first (x ∷ xs) = Some x

abbrev pub others : {A : Type 0} → List A → List A
others [] = []
others (x ∷ xs) = xs

-- a lent part of the text, as its bytes
abbrev pub bytes : Option (Bor (List ℕ)) → Option (List ℕ)
bytes None = None
bytes (Some r) = Some r.now

-- the rest of a line behind its first field, if a space ends the field
abbrev pub rest_behind : Option (List ℕ) → Option (List ℕ)
rest_behind None = None
rest_behind (Some rest) = if nat_lt (length (before 32 rest)) (length rest) then Some (drop (length (before 32 rest) + 1) rest) else None
