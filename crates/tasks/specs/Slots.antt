-- A list read by task numbers.
use Rattle.std.specs.Prelude.{ℕ, zero, suc, List, slice_get, None, Option}

-- task number k + 1 stands at slot k; no task has number 0
abbrev pub at_number : {A : Type 0} → List A → ℕ → Option A
at_number xs zero = None
at_number xs (suc k) = slice_get xs k
