use Rattle.std.proofs.Common.{sym, ◌∙◌, arith}
use Rattle.table.specs.Tables.{draft_of}
use Rattle.table.proofs.Tables.{table_accepted}
use Rattle.order.specs.Orders.{Ahead, TieLaws}
use Rattle.budget.specs.Meaning.{Meaning}
use Rattle.budget.specs.OfRules.{meaning_of_shared}
use Rattle.runs.specs.Produced.{lawful, exact, Keeps}
use Rattle.runs.proofs.Lockstep.{switch_bound}
use Rattle.trials.proofs.Alikes.{alike_rested, own_alike}
use Rattle.trials.proofs.Sharing.{shared_keeps, new_own, judged_own}
use Rattle.trials.proofs.compare.compare.Given as given
use Rattle.trials.proofs.compare.compare.Goals as goal

laws : (g : given.Over) (x : g.row.O.Denot) → TieLaws (g.O.TieOrder.ahead x)
laws g x = record { one_way = g.met.O.TieOrder.one_way x; transitive = g.met.O.TieOrder.transitive x; refines_deadlines = g.met.O.TieOrder.refines_deadlines x }

keeps : (g : given.Over) (x : g.row.R.Denot) → Keeps lawful (g.R.Rule.meaning x)
keeps g x = record { law = record { bounded = g.met.R.Rule.bounded x; silent = g.met.R.Rule.silent x; fits = g.met.R.Rule.fits x }; exactly = tt }

pub returns : goal.returns
returns g c =
    let d = draft_of c.args.table.now in
    let ahead : Ahead = g.O.TieOrder.ahead c.args.order.now in
    let e = c.new-sharing.ensures in
    let f = c.new-second.ensures in
    let m = meaning_of_shared c.new.result in
    let n : Meaning = g.R.Rule.meaning c.args.other in
    let own = judged_own c.new-second.result.core.foreign d n f.judged (sym c.rule_is_foreign.ensures ∙ c.if-rule_is_foreign.false) in
    let sharing = simp (e.fixed.0, e.fixed.1) at (c.ticks_before_switch-shared.ensures exact (λ r. shared_keeps r)) in
    let second = simp (f.fixed.0, f.fixed.1) at (c.ticks_before_switch-other.ensures lawful (λ r. keeps g r)) in
    let a = (sharing (e.kinds exact (shared_keeps c.new-sharing.result.rule)) (own_alike d m (meaning_of_shared c.new-sharing.result.rule) (alike_rested m (meaning_of_shared c.new-sharing.result.rule) e.rested) (new_own d m c.new.ensures))).1 in
    let b = (second f.log (own_alike d n (g.R.Rule.meaning c.new-second.result.rule) (alike_rested n (g.R.Rule.meaning c.new-second.result.rule) f.rested) own)).1 in
    let bound = switch_bound d (table_accepted c.args.table.now) ahead (laws g c.args.order.now) a.log b.log _ _ _ _ a.by a.own b.by (a.calls_are ∙ sym b.calls_are) in
    record {
      counts = (
        c.ticks_before_switch-other.new.dispatcher.rule,
        record {
          shared_log = a.log;
          shared_meaning = _;
          shared_state = _;
          by_shared = a.by;
          shared_own = a.own;
          shared_calls = a.calls_are;
          shared_count = a.ticks_are;
          other_log = b.log;
          other_state = _;
          by_other = b.by;
          other_own = b.own;
          other_calls = b.calls_are;
          other_count = b.ticks_are;
          no_sooner = omega (arith, bound, a.ticks_are, b.ticks_are);
        },
      );
      refused = own;
    }
