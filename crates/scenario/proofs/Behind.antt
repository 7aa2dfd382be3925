-- The fields that are still to come tell the bytes that are left.
use Rattle.std.proofs.Common.{◌≡◌, ℕ, ◌+◌, Bool, true, false, cond, ltb, List, [], ◌∷◌, length, drop, Option, Some, None, Bor, MatchOption, sym, refl, ap, ◌∙◌}
use Rattle.output.specs.Lines.{fields, before, spaced}
use Rattle.scenario.specs.Laws.{FieldsRest}
use Rattle.scenario.specs.Left.{left, bytes, rest_behind}
use Rattle.scenario.proofs.Joined.{fields_joined}
use Rattle.scenario.proofs.Pieces.{fields_first}

-- a line has a field
some_field : (bs : List ℕ) → fields bs ≡ [] → ⊥
some_field bs e = let f = sym (fields_first bs) ∙ e in cc

no_rest : (r : Option (Bor (List ℕ))) → left r ≡ [] → bytes r ≡ None
no_rest None e = refl
no_rest (Some rest) e = absurd (some_field rest.now e)

-- the same fields, the same bytes
one_rest : (r : Option (Bor (List ℕ))) (bs : List ℕ) → left r ≡ fields bs → bytes r ≡ Some bs
one_rest None bs e = absurd (some_field bs (sym e))
one_rest (Some rest) bs e = ap Some (sym (fields_joined rest.now) ∙ ap spaced e ∙ fields_joined bs)

rest_by : (more : Bool) (r : Option (Bor (List ℕ))) (bs : List ℕ) → left r ≡ cond more (fields bs) [] → bytes r ≡ cond more (Some bs) None
rest_by true r bs e = one_rest r bs e
rest_by false r bs e = no_rest r e

after : (r : Option (Bor (List ℕ))) (line field : List ℕ) → fields line ≡ field ∷ left r → bytes r ≡ rest_behind (Some line)
after r line field e =
    let f = sym e ∙ fields_first line in
    rest_by (ltb (length (before 32 line)) (length line)) r (drop (length (before 32 line) + 1) line) cc

step : (s t field : Option (Bor (List ℕ))) → MatchOption field ((left s ≡ []) × (left t ≡ [])) (λ f. left s ≡ f.now ∷ left t) → bytes t ≡ rest_behind (bytes s)
step None t None h = no_rest t h.1
step None t (Some f) h = let e = h in cc
step (Some line) t None h = absurd (some_field line.now h.0)
step (Some line) t (Some f) h = after t line.now f.now h

pub fields_rest : FieldsRest
fields_rest fs gs field h = step fs.rest gs.rest field h
