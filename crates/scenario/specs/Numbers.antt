-- Which fields are numbers, and their values.
use Rattle.std.specs.Prelude.{ℕ, ◌+◌, ◌-◌, ◌*◌, Bool, true, cond, not, ◌&&◌, ◌||◌, List, [], ◌∷◌, length, Some, None, Option, ◌==◌, nat_le, slice_index}

abbrev pub in_range : ℕ → ℕ → ℕ → Bool
in_range low high n = nat_le low n && nat_le n high

-- the digits 0 to 9 are the bytes 48 to 57
abbrev pub all_digits : List ℕ → Bool
all_digits [] = true
all_digits (b ∷ bs) = in_range 48 57 b && all_digits bs

-- 1 to 9 digits; the first is 0 only if it is the only one
abbrev pub numeral : List ℕ → Bool
numeral bs = in_range 1 9 (length bs) && (not (slice_index bs 0 == 48) || nat_le (length bs) 1) && all_digits bs

-- the number n with further digits behind its own
abbrev pub reading : ℕ → List ℕ → ℕ
reading n [] = n
reading n (b ∷ bs) = reading (n * 10 + (b - 48)) bs

abbrev pub value : List ℕ → Option ℕ
value bs = cond (numeral bs) (Some (reading 0 bs)) None
