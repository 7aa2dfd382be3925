use Rattle.std.proofs.Common.{sym, refl, ap, ◌∙◌}
use Rattle.table.specs.Tables.{draft_of}
use Rattle.budget.specs.Meaning.{Meaning}
use Rattle.runs.specs.States.{new_state}
use Rattle.runs.specs.Produced.{Kind, lawful, Keeps}
use Rattle.dispatch.specs.Cores.{state_of}
use Rattle.dispatch.proofs.Logged.{judged_rested, making_produced}
use Rattle.dispatch.proofs.dispatcher.Dispatcher.new.Given as given
use Rattle.dispatch.proofs.dispatcher.Dispatcher.new.Goals as goal

keeps : (g : given.Over) (x : g.row.R.Denot) → Keeps lawful (g.R.Rule.meaning x)
keeps g x = record { law = record { bounded = g.met.R.Rule.bounded x; silent = g.met.R.Rule.silent x; fits = g.met.R.Rule.fits x }; exactly = tt }

pub invariant_of-result : goal.invariant_of-result
invariant_of-result g c = record { fine = c.new.ensures.fine (draft_of c.args.table.now) }

pub returns : goal.returns
returns g c =
    let d = draft_of c.args.table.now in
    let m : Meaning = g.R.Rule.meaning c.args.rule in
    let n : Meaning = g.R.Rule.meaning c.rest.new.self in
    let e = c.new.ensures in
    let b = c.new.result.foreign in
    let foreign = e.foreign ∙ c.is_foreign-foreign.ensures in
    let fresh = e.state ∙ ap new_state (sym e.foreign) in
    let produced = λ (kind : Kind) (k : Keeps kind n). making_produced kind d (g.O.TieOrder.ahead c.args.order.now) m n (state_of c.new.result) b k c.rest.ensures.rested foreign fresh in
    record {
      fixed = (refl, refl);
      rested = c.rest.ensures.rested;
      policy = c.rest.ensures.policy;
      judged = judged_rested d m n c.rest.ensures.rested b foreign;
      state = fresh;
      log = produced lawful (keeps g c.rest.new.self);
      kinds = produced;
    }
