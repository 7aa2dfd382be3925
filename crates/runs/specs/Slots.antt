-- Slots by task number: task i stands at slot i - 1, and number 0 has none.
use Rattle.std.specs.Prelude.{ℕ, zero, suc, List, None, Option, slice_index_or}

abbrev pub seat : {A : Type 0} → List (Option A) → ℕ → Option A
seat xs zero = None
seat xs (suc k) = slice_index_or xs k None
