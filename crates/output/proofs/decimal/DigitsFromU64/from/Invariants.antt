use Rattle.std.proofs.Common.{◌≡◌, ◌+◌, ◌≤◌, ◌++◌, length, drop, decimal}
use Rattle.output.proofs.decimal.DigitsFromU64.from.Given as goal

-- the digits behind those of what is left stand in their places
abbrev pub invariant-loop-rest : goal.invariant-loop-rest
invariant-loop-rest l = (length l.bytes ≡ 20) × (l.start ≤ 19) × (decimal l.n ≡ decimal l.rest ++ drop (l.start + 1) l.bytes)

abbrev pub decreases-loop-rest : goal.decreases-loop-rest
decreases-loop-rest l = l.rest
