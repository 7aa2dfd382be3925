-- Bytes written over a part of a buffer.
use Rattle.std.specs.Prelude.{ℕ, ◌+◌, Bool, cond, List, ◌++◌, length, take, drop, Some, None, Option, nat_le}

-- w stands at place `at`, and all else is as it was
abbrev pub over : ℕ → List ℕ → List ℕ → List ℕ
over at w out = take at out ++ (w ++ drop (at + length w) out)

abbrev pub fits : ℕ → List ℕ → List ℕ → Bool
fits at w out = nat_le (at + length w) (length out)

-- where there is room for it
abbrev pub over_if : ℕ → List ℕ → List ℕ → List ℕ
over_if at w out = cond (fits at w out) (over at w out) out

-- the place behind it
abbrev pub behind_if : ℕ → List ℕ → List ℕ → Option ℕ
behind_if at w out = cond (fits at w out) (Some (at + length w)) None
