use Rattle.std.proofs.Common.{refl}
use Rattle.table.specs.Tables.{draft_of}
use Rattle.runs.proofs.Ties.{ties_stand}
use Rattle.dispatch.specs.Cores.{state_of}
use Rattle.dispatch.proofs.dispatcher.Dispatcher.clock.Goals as goal

pub returns : goal.returns
returns g c =
    let x = c.args.self.now in
    record {
      is = refl;
      log = λ kind log p. (ties_stand kind (draft_of x.table) (g.O.TieOrder.ahead x.order.now) log (g.R.Rule.meaning x.rule) (state_of x.core) p).clock_is;
    }
