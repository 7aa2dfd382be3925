use Rattle.std.proofs.Common.{arith}
use Rattle.dispatch.proofs.Masks.{bit_without_others}
use Rattle.dispatch.proofs.drops.without.Goals as goal

pub returns : goal.returns
returns c k = bit_without_others c.args.mask c.args.others k (omega arith) (omega arith)
