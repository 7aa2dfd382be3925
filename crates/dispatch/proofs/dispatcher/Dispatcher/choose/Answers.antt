use Rattle.std.proofs.Common.{◌+◌, Some, sym, ap, ◌∙◌, arith}
use Rattle.std.specs.Option.{option_map}
use Rattle.table.specs.Tables.{draft_of}
use Rattle.order.specs.Orders.{TieLaws}
use Rattle.dispatch.specs.Turns.{taken_of}
use Rattle.dispatch.proofs.Chosen.{none_turn, first_turn}
use Rattle.dispatch.proofs.dispatcher.Dispatcher.choose.Given as given
use Rattle.dispatch.proofs.dispatcher.Dispatcher.choose.Goals as goal

laws : (g : given.Over) (x : g.row.O.Denot) → TieLaws (g.O.TieOrder.ahead x)
laws g x = record { one_way = g.met.O.TieOrder.one_way x; transitive = g.met.O.TieOrder.transitive x; refines_deadlines = g.met.O.TieOrder.refines_deadlines x }

pub returns-in_err-slot : goal.returns-in_err-slot
returns-in_err-slot g c =
    let d = draft_of c.args.self.now.table in
    c.from_residual.ensures
    ∙ ap (option_map (taken_of d)) (sym (none_turn (g.O.TieOrder.ahead c.args.self.now.order.now) (laws g c.args.self.now.order.now) c.args.mode d c.args.mask c.args.self.now.core.jobs (omega arith) c.requires c.in_err-slot.ensures.chosen))

pub returns : goal.returns
returns g c =
    let d = draft_of c.args.self.now.table in
    ap (λ t. Some (record { number = c.in_ok-slot.slot + 1; task = t; job = c.unwrap.result })) c.task.ensures.is
    ∙ ap (option_map (taken_of d)) (sym (first_turn (g.O.TieOrder.ahead c.args.self.now.order.now) (laws g c.args.self.now.order.now) c.args.mode d c.args.mask c.args.self.now.core.jobs (omega arith) c.requires c.in_ok-slot.slot c.unwrap.result c.in_ok-slot.ensures.chosen (sym c.at.ensures ∙ c.unwrap.ensures)))
