use Rattle.std.proofs.Common.{arith}
use Rattle.budget.proofs.Slots.{ticks_read}
use Rattle.budget.proofs.lists.ticks_of.Goals as goal

pub returns : goal.returns
returns c = grind (arith, ticks_read)
