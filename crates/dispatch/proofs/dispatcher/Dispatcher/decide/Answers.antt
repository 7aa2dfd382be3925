use Rattle.std.proofs.Common.{◌≡◌, ℕ, refl, Some, None, Option, sym, ap, ◌∙◌, subst, arith}
use Rattle.std.specs.Bool.{then_some}
use Rattle.table.specs.Tables.{draft_of}
use Rattle.order.specs.Orders.{Ahead, TieLaws}
use Rattle.budget.specs.Meaning.{Meaning}
use Rattle.runs.specs.declared.answer.Mode.TheVariants.{High}
use Rattle.runs.specs.Masks.{mask}
use Rattle.runs.specs.Slots.{seat}
use Rattle.runs.specs.States.{is_high}
use Rattle.runs.specs.Choices.{Turn, turn}
use Rattle.runs.specs.Ticking.{drops, asked, Asked, denied}
use Rattle.dispatch.specs.Cores.{state_of}
use Rattle.dispatch.specs.Steps.{running}
use Rattle.dispatch.specs.Turns.{first_taken}
use Rattle.dispatch.proofs.Fines.{seated}
use Rattle.dispatch.proofs.Mapped.{is_some_from}
use Rattle.dispatch.proofs.Turning.{taken_pending, none_taken, asked_first, denied_high, high_kept, turn_left}
use Rattle.dispatch.proofs.dispatcher.Dispatcher.decide.Given as given
use Rattle.dispatch.proofs.dispatcher.Dispatcher.decide.Goals as goal

laws : (g : given.Over) (x : g.row.O.Denot) → TieLaws (g.O.TieOrder.ahead x)
laws g x = record { one_way = g.met.O.TieOrder.one_way x; transitive = g.met.O.TieOrder.transitive x; refines_deadlines = g.met.O.TieOrder.refines_deadlines x }

pub returns-then-not-denied : goal.returns-then-not-denied
returns-then-not-denied g c =
    let x = c.args.self.now in
    let d = draft_of x.table in
    let s = state_of x.core in
    let m : Meaning = g.R.Rule.meaning x.rule in
    let n : Meaning = g.R.Rule.meaning c.denied.new.rule in
    let who = asked_first d (g.O.TieOrder.ahead x.order.now) s c.args.first c.requires in
    let A : Option Turn → Type 0 = λ o. Asked o m n in
    let calm = sym c.if-not-denied.true ∙ c.denied.ensures.is ∙ ap (denied m.yes) (sym who) in
    record {
      fixed = (refl, refl);
      dropped = ap (λ b. then_some b (mask 32 (drops d s.job))) calm;
      state = ap (λ b. running d b s) calm;
      taken = c.requires;
      grant = subst A (sym who) c.denied.ensures.grant;
      policy = c.denied.ensures.policy;
    }

-- a denied job is high, and a switch keeps it
pub unwrap-again-requires : goal.unwrap-again-requires
unwrap-again-requires g c =
    let x = c.args.self.now in
    let x' = c.switch-dropped.new.self in
    let d = draft_of x.table in
    let d' = draft_of x'.table in
    let s = state_of x.core in
    let f = c.args.first in
    let ahead : Ahead = g.O.TieOrder.ahead x.order.now in
    let ahead' : Ahead = g.O.TieOrder.ahead x'.order.now in
    let e = c.switch-dropped.ensures in
    let taken = taken_pending d ahead s.mode x.core f c.requires in
    let high = ap (λ t. is_high t.criticality) (sym taken.1) ∙ denied_high (g.R.Rule.meaning x.rule).yes s.mode f (sym c.denied.ensures.is ∙ c.if-not-denied.false) in
    let is : seat x'.core.jobs f.number ≡ Some f.job = ap (λ y. y.job f.number) e.state ∙ high_kept d s.job f.number f.job taken.0 high in
    is_some_from c.choose_pending.result (λ none.
    let idle = none_taken d' (turn ahead' High d' (seat x'.core.jobs)) (sym none ∙ c.choose_pending.ensures) in
    let gone : seat x'.core.jobs f.number ≡ None = turn_left d' ahead' (laws g x'.order.now) High (state_of x'.core) (seated x'.table x'.core.jobs x'.fine.owned) idle f.number in
    let z : ◌≡◌ {A = ℕ} 0 1 = cc in
    omega arith)

pub returns : goal.returns
returns g c =
    let x = c.args.self.now in
    let x' = c.switch-dropped.new.self in
    let d = draft_of x.table in
    let s = state_of x.core in
    let m : Meaning = g.R.Rule.meaning x.rule in
    let n : Meaning = g.R.Rule.meaning c.denied.new.rule in
    let who = asked_first d (g.O.TieOrder.ahead x.order.now) s c.args.first c.requires in
    let A : Option Turn → Type 0 = λ o. Asked o m n in
    let R : g.row.R.Denot → Type 0 = λ r. Asked (asked d (g.O.TieOrder.ahead x.order.now) s) m (g.R.Rule.meaning r) in
    let e = c.switch-dropped.ensures in
    let switch = sym c.if-not-denied.false ∙ c.denied.ensures.is ∙ ap (denied m.yes) (sym who) in
    record {
      fixed = (e.fixed.0, e.fixed.1);
      dropped = ap Some e.dropped ∙ ap (λ b. then_some b (mask 32 (drops d s.job))) switch;
      state = e.state ∙ ap (λ b. running d b s) switch;
      taken = sym c.unwrap-again.ensures ∙ c.choose_pending.ensures ∙ ap (λ y. first_taken (draft_of x'.table) (g.O.TieOrder.ahead x'.order.now) y x'.core) (sym (ap (λ y. y.mode) e.state));
      grant = subst R (sym e.fixed.2) (subst A (sym who) c.denied.ensures.grant);
      policy = ap (g.R.Rule.policy) e.fixed.2 ∙ c.denied.ensures.policy;
    }
