use Rattle.std.proofs.Common.{◌-◌, ap, ◌∙◌, rules}
use Rattle.table.specs.Tables.{draft_of}
use Rattle.table.proofs.Tables.{table_accepted}
use Rattle.order.specs.Orders.{TieLaws}
use Rattle.dispatch.specs.Cores.{state_of}
use Rattle.dispatch.specs.Questions.{age_at}
use Rattle.table.specs.Tasks.{ticks}
use Rattle.dispatch.proofs.Asked.{age_mapped, age_told}
use Rattle.dispatch.proofs.Mapped.{mapped}
use Rattle.dispatch.proofs.dispatcher.Dispatcher.age.Given as given
use Rattle.dispatch.proofs.dispatcher.Dispatcher.age.Goals as goal

laws : (g : given.Over) (x : g.row.O.Denot) → TieLaws (g.O.TieOrder.ahead x)
laws g x = record { one_way = g.met.O.TieOrder.one_way x; transitive = g.met.O.TieOrder.transitive x; refines_deadlines = g.met.O.TieOrder.refines_deadlines x }

pub returns : goal.returns
returns g c =
    let x = c.args.self.now in
    let s = state_of x.core in
    let is = mapped (λ j. ticks (x.core.clock.0 - j.arrival.0)) _ c.job.result c.map.result c.map.ensures.cases (λ j t k. search rules) ∙ age_mapped s.clock c.job.result ∙ ap (age_at s.clock) c.job.ensures.is in
    record {
      is = is;
      log = λ kind log p. age_told kind (draft_of x.table) (table_accepted x.table) (g.O.TieOrder.ahead x.order.now) (laws g x.order.now) log (g.R.Rule.meaning x.rule) s p c.args.task c.map.result is;
    }
