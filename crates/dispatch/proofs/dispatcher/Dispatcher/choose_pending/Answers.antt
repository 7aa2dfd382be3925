use Rattle.std.proofs.Common.{ap, ◌∙◌}
use Rattle.std.specs.Option.{option_map}
use Rattle.table.specs.Tables.{draft_of}
use Rattle.runs.specs.Choices.{turn}
use Rattle.dispatch.specs.Turns.{taken_of}
use Rattle.dispatch.proofs.Seats.{masked_all}
use Rattle.dispatch.proofs.dispatcher.Dispatcher.choose_pending.Goals as goal

pub returns : goal.returns
returns g c = c.choose.ensures ∙ ap (λ jobs. option_map (taken_of (draft_of c.args.self.now.table)) (turn (g.O.TieOrder.ahead c.args.self.now.order.now) c.args.mode (draft_of c.args.self.now.table) jobs)) (masked_all c.args.self.now.core.pending c.args.self.now.core.jobs c.args.self.now.fine.agrees)
