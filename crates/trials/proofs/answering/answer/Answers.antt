use Rattle.std.proofs.Common.{sym, ap}
use Rattle.table.specs.Tables.{draft_of}
use Rattle.runs.specs.Numbers.{call_of}
use Rattle.dispatch.specs.Cores.{state_of}
use Rattle.trials.proofs.Alikes.{alike_same, alike_after}
use Rattle.trials.proofs.answering.answer.Goals as goal

pub returns-in-Arrive : goal.returns-in-Arrive
returns-in-Arrive g c =
    let x = c.args.dispatcher.now in
    let e = c.arrive.ensures in
    record {
      fixed = (e.fixed.0, e.fixed.1);
      alike = alike_same (g.R.Rule.meaning x.rule) (g.R.Rule.meaning c.arrive.new.self.rule) (ap g.R.Rule.meaning e.fixed.2);
      call = ap call_of (sym c.in-Arrive.is);
      log = λ kind keeps. e.log kind;
    }

pub returns-in-Tick : goal.returns-in-Tick
returns-in-Tick g c =
    let x = c.args.dispatcher.now in
    let e = c.tick.ensures in
    record {
      fixed = e.fixed;
      alike = alike_after (draft_of x.table) (g.O.TieOrder.ahead x.order.now) (state_of x.core) c.in-Tick.mark (g.R.Rule.meaning x.rule) (g.R.Rule.meaning c.tick.new.self.rule) e.rule;
      call = ap call_of (sym c.in-Tick.is);
      log = e.kinds;
    }
