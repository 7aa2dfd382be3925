-- The bits of a mask.
use Rattle.std.specs.Prelude.{ℕ, ◌/◌, ◌%◌, ◌^◌, Bool, cond, ◌==◌, List}
use Rattle.std.specs.List.{filter, range_with_len}
use Rattle.std.specs.Int.Count.{count_trailing_zeros}
use Rattle.table.specs.Sums.{sum}

-- whether bit k of m is set
unfoldable pub bit : ℕ → ℕ → Bool
bit m k = m / 2 ^ k % 2 == 1

-- the lowest bit of 32 that is set, and 32 where none is
abbrev pub lowest : ℕ → ℕ
lowest m = count_trailing_zeros 32 m

-- how many of the slots below n are so
abbrev pub count : ℕ → (ℕ → Bool) → ℕ
count n test = sum n (λ k. cond (test k) 1 0)

-- the slots of 32 whose bits are set, lowest first
unfoldable pub slots_of : ℕ → List ℕ
slots_of m = filter (bit m) (range_with_len 0 32)
