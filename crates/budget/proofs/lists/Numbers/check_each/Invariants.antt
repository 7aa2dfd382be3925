use Rattle.std.proofs.Common.{ℕ, ◌<◌, true}
use Rattle.budget.specs.Making.{at_slot}
use Rattle.budget.proofs.lists.Numbers.check_each.Given as goal

abbrev pub invariant-loop-slot : goal.invariant-loop-slot
invariant-loop-slot g l = (k : ℕ) → k < l.slot → goal.F-post g l.passes (at_slot l.self.list.now k) true
