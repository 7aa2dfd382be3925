use Rattle.std.proofs.Common.{arith}
use Rattle.order.proofs.Bits.{ones_count}
use Rattle.order.proofs.mask.slots_in.Goals as goal

pub returns : goal.returns
returns c = ones_count 32 c.args.mask (omega arith)
