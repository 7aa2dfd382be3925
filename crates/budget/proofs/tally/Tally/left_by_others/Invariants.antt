use Rattle.std.proofs.Common.{◌≡◌, ◌+◌}
use Rattle.table.specs.Sums.{sum}
use Rattle.budget.specs.OfRules.{weights_of, longest_of}
use Rattle.budget.specs.Loads.{part}
use Rattle.budget.proofs.tally.Tally.left_by_others.Given as goal

abbrev pub invariant-loop-k : goal.invariant-loop-k
invariant-loop-k l = l.left + sum l.k (part (weights_of l.self) (longest_of l.self) l.task) ≡ l.self.weights.total.0
