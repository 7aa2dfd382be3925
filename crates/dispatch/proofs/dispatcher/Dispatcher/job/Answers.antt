use Rattle.std.proofs.Common.{ap, ◌∙◌}
use Rattle.std.specs.Option.{option_flatten}
use Rattle.table.specs.Tables.{draft_of}
use Rattle.runs.proofs.Ties.{ties_stand}
use Rattle.dispatch.specs.Cores.{state_of}
use Rattle.dispatch.proofs.Seats.{seat_numbered}
use Rattle.dispatch.proofs.dispatcher.Dispatcher.job.Goals as goal

pub returns : goal.returns
returns g c =
    let x = c.args.self.now in
    let is = c.flatten.ensures ∙ ap option_flatten c.at_number.ensures ∙ seat_numbered x.core.jobs c.args.task in
    record {
      is = is;
      log = λ kind log p. is ∙ (ties_stand kind (draft_of x.table) (g.O.TieOrder.ahead x.order.now) log (g.R.Rule.meaning x.rule) (state_of x.core) p).job_is c.args.task;
    }
