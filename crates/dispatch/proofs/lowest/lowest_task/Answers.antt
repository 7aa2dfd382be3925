use Rattle.std.proofs.Common.{◌∙◌, arith}
use Rattle.dispatch.proofs.Asked.{lowest_is}
use Rattle.dispatch.proofs.lowest.lowest_task.Goals as goal

pub returns : goal.returns
returns c = c.then_some.ensures ∙ lowest_is c.args.mask (omega arith)
