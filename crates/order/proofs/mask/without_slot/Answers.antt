use Rattle.std.proofs.Common.{arith}
use Rattle.std.proofs.lemmas.Nat.{one_shl}
use Rattle.order.proofs.Bits.{bit_without, bit_without_none}
use Rattle.order.proofs.mask.without_slot.Goals as goal

pub returns-then-slot-lt32 : goal.returns-then-slot-lt32
returns-then-slot-lt32 c k =
    let s = c.args.slot in
    rw (one_shl s 32 c.if-slot-lt32.true) (bit_without 32 c.args.mask s k (omega arith) c.if-slot-lt32.true)

pub returns-else-slot-lt32 : goal.returns-else-slot-lt32
returns-else-slot-lt32 c k = bit_without_none 32 c.args.mask c.args.slot k (omega arith) c.if-slot-lt32.false
