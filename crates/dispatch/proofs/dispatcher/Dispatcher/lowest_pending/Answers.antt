use Rattle.std.proofs.Common.{ap, ◌∙◌}
use Rattle.dispatch.specs.Questions.{lowest_task}
use Rattle.dispatch.proofs.Asked.{pending_bits}
use Rattle.dispatch.proofs.dispatcher.Dispatcher.lowest_pending.Goals as goal

pub returns : goal.returns
returns g c = c.lowest_task.ensures ∙ ap lowest_task (pending_bits c.args.self.now.core.pending c.args.self.now.core.jobs c.args.self.now.fine.agrees)
