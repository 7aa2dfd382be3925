-- The first of several answers that may be none.
use Rattle.std.specs.Prelude.{ℕ, zero, suc, Bool, true, false, List, [], ◌∷◌, Some, None, Ok, Err, Option, Result}

abbrev pub or_else : {A : Type 0} → Option A → Option A → Option A
or_else None y = y
or_else (Some x) y = Some x

-- the first of a list
abbrev pub first_of : {A : Type 0} → List (Option A) → Option A
first_of [] = None
first_of (x ∷ xs) = or_else x (first_of xs)

-- the first of f 0, f 1, .., f (n - 1)
unfoldable pub first_below : {A : Type 0} → ℕ → (ℕ → Option A) → Option A
first_below zero f = None
first_below (suc n) f = or_else (first_below n f) (f n)

-- the refusal r where a test fails
abbrev pub unless : {A : Type 0} → Bool → A → Option A
unless true r = None
unless false r = Some r

-- the refusal of a call, if it was refused
abbrev pub refusal : {A E : Type 0} → Result A E → Option E
refusal (Ok a) = None
refusal (Err e) = Some e
