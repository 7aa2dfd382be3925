use Rattle.std.proofs.Common.{arith}
use Rattle.order.proofs.Listed.{slot_below}
use Rattle.account.proofs.telling.print_dropped.Goals as goal

pub overflow_add-slot : goal.overflow_add-slot
overflow_add-slot c = omega (arith, slot_below _ _ _ c.in-Some.ensures.steps)
