use Rattle.std.proofs.Common.{◌≡◌, suc, ◌*◌, ◌≤◌}
use Rattle.table.specs.Sums.{sum}
use Rattle.budget.specs.Slots.{weight_in, ticks_in}
use Rattle.budget.proofs.tally.Weights.load_of.Given as goal

abbrev pub invariant-loop-k : goal.invariant-loop-k
invariant-loop-k l = (l.sum ≡ sum l.k (λ k. weight_in l.self.by_slot (suc k) * ticks_in l.runs (suc k))) × (l.sum ≤ l.k * 100000000000)
