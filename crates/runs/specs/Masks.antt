-- Sets of tasks as 32-bit masks: bit i - 1 for task i.
use Rattle.std.specs.Prelude.{ℕ, zero, suc, ◌-◌, ◌/◌, ◌%◌, ◌^◌, Bool, cond, ◌==◌, bit_or}

-- the mask of those numbers from 1 to n that are in the set
unfoldable pub mask : ℕ → (ℕ → Bool) → ℕ
mask zero set = 0
mask (suc k) set = cond (set (suc k)) (bit_or (mask k set) (2 ^ k)) (mask k set)

-- whether task i is in a mask
unfoldable pub in_mask : ℕ → ℕ → Bool
in_mask m i = m / 2 ^ (i - 1) % 2 == 1
