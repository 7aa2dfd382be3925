use Rattle.std.proofs.Common.{◌≡◌, ◌+◌, ◌≤◌, ◌++◌, length, drop, decimal}
use Rattle.output.specs.Written.{over}
use Rattle.output.proofs.decimal.put_digits.Given as goal

-- the digits behind those of what is left stand in their places
abbrev pub invariant-loop-rest : goal.invariant-loop-rest
invariant-loop-rest l =
    (l.rest ≤ l.n) ×
    (l.end ≡ l.at + length (decimal l.rest)) ×
    (decimal l.n ≡ decimal l.rest ++ drop (length (decimal l.rest)) (decimal l.n)) ×
    (l.out ≡ over l.end (drop (length (decimal l.rest)) (decimal l.n)) l.initial.out)

abbrev pub decreases-loop-rest : goal.decreases-loop-rest
decreases-loop-rest l = l.rest
