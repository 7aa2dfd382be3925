use Rattle.std.proofs.Common.{◌≡◌, Err, Ok, sym, ap, ◌∙◌, rules}
use Rattle.table.specs.Tables.{draft_of}
use Rattle.table.proofs.Tables.{table_accepted}
use Rattle.order.specs.Orders.{Ahead, TieLaws}
use Rattle.budget.specs.Meaning.{Meaning}
use Rattle.runs.specs.Produced.{Kind, lawful, Keeps}
use Rattle.dispatch.specs.Cores.{state_of}
use Rattle.dispatch.proofs.Logged.{tick_extends}
use Rattle.dispatch.proofs.Turning.{refused, accepted}
use Rattle.dispatch.proofs.dispatcher.Dispatcher.tick.Given as given
use Rattle.dispatch.proofs.dispatcher.Dispatcher.tick.Goals as goal

laws : (g : given.Over) (x : g.row.O.Denot) → TieLaws (g.O.TieOrder.ahead x)
laws g x = record { one_way = g.met.O.TieOrder.one_way x; transitive = g.met.O.TieOrder.transitive x; refines_deadlines = g.met.O.TieOrder.refines_deadlines x }

keeps : (g : given.Over) (x : g.row.R.Denot) → Keeps lawful (g.R.Rule.meaning x)
keeps g x = record { law = record { bounded = g.met.R.Rule.bounded x; silent = g.met.R.Rule.silent x; fits = g.met.R.Rule.fits x }; exactly = tt }

pub returns-in_err-check_tick-clause-kinds : goal.returns-in_err-check_tick-clause-kinds
returns-in_err-check_tick-clause-kinds g c = λ kind.
    let x = c.args.self.now in
    let d = draft_of x.table in
    let s = state_of x.core in
    let ahead : Ahead = g.O.TieOrder.ahead x.order.now in
    let m : Meaning = g.R.Rule.meaning x.rule in
    let r = refused d ahead s c.args.mark m c.in_err-check_tick.field-0.0 (sym c.in_err-check_tick.ensures) in
    let is : c.from_residual.result ≡ Err c.in_err-check_tick.field-0.0 = search rules in
    tick_extends kind d (table_accepted x.table) ahead (laws g x.order.now) m m s s c.args.mark c.from_residual.result (is ∙ r.0) r.1 r.2

pub returns-in_err-check_tick-clause-log : goal.returns-in_err-check_tick-clause-log
returns-in_err-check_tick-clause-log g c = returns-in_err-check_tick-clause-kinds g c lawful (keeps g c.args.self.now.rule)

pub returns : goal.returns
returns g c =
    let x = c.args.self.now in
    let x' = c.advance.new.self in
    let d = draft_of x.table in
    let s = state_of x.core in
    let ahead : Ahead = g.O.TieOrder.ahead x.order.now in
    let m : Meaning = g.R.Rule.meaning x.rule in
    let n : Meaning = g.R.Rule.meaning x'.rule in
    let e = c.advance.ensures in
    let a = accepted d ahead s c.args.mark m n c.in_ok-check_tick.ensures e.rule in
    let answer = ap Ok e.answer ∙ a.0 in
    let state = e.state ∙ a.1 in
    let extends = λ (kind : Kind). tick_extends kind d (table_accepted x.table) ahead (laws g x.order.now) m n s (state_of x'.core) c.args.mark (Ok c.advance.result) answer state a.2 in
    record {
      fixed = e.fixed;
      answer = answer;
      state = state;
      rule = a.2;
      policy = e.policy;
      same = tt;
      log = extends lawful (keeps g x'.rule);
      kinds = extends;
    }
