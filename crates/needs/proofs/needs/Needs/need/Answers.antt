use Rattle.std.proofs.Common.{arith}
use Rattle.budget.proofs.Slots.{ticks_read}
use Rattle.needs.proofs.needs.Needs.need.Goals as goal

pub returns : goal.returns
returns c = grind (arith, ticks_read)
