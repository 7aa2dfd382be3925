use Rattle.std.proofs.Common.{ap, ◌∙◌}
use Rattle.order.specs.Bits.{count}
use Rattle.dispatch.proofs.Asked.{pending_bits}
use Rattle.dispatch.proofs.dispatcher.Dispatcher.pending_count.Goals as goal

pub returns : goal.returns
returns g c = c.slots_in.ensures ∙ ap (count 32) (pending_bits c.args.self.now.core.pending c.args.self.now.core.jobs c.args.self.now.fine.agrees)
