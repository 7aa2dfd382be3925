use Rattle.std.proofs.Common.{ap, cond, get_or, None, arith}
use Rattle.order.proofs.Listed.{has_first, slot_below}
use Rattle.dispatch.proofs.drops.clear.Goals as goal

pub loop-slot-init : goal.loop-slot-init
loop-slot-init c = (omega arith, λ k. ap (λ b. cond b None (get_or c.args.jobs.now k None)) (has_first c.into_iter-slot-iterator.result c.of-slot-items.result c.args.mask k (omega arith) c.into_iter-slot-iterator.ensures.into_iter_gives c.of-slot-items.ensures))

pub bounds-jobs-slot : goal.bounds-jobs-slot
bounds-jobs-slot c = slot_below c.loop-slot.slot-iterator.0 c.in-Some.slot _ c.in-Some.ensures.steps
