use Rattle.std.proofs.Common.{◌≡◌, ◌+◌, ◌-◌, ◌%◌, arith}
use native.Mathlib.Decide.{ℕ_discrete}
use lib.Bits.{and_le_r, and_zero_l}
use Rattle.order.proofs.Bits.{bit_none, bit_without_lowest}
use Rattle.order.proofs.mask.without_lowest.Goals as goal

pub returns : goal.returns
returns c =
    let m = c.args.mask in
    elim (ℕ_discrete m 0) [
      | yes e ↦ rw e (record { bits = λ k. rw (and_zero_l ((0 + 4294967295) % 4294967296), bit_none k); less = omega (arith, and_zero_l ((0 + 4294967295) % 4294967296)) })
      | no ne ↦
          let down : (m + 4294967295) % 4294967296 ≡ m - 1 = omega arith in
          rw down (record { bits = λ k. bit_without_lowest 32 m k (omega arith) ne; less = and_le_r m (m - 1) })
    ]
