use Rattle.std.proofs.Common.{◌≡◌, ◌+◌, false, is_some, Some, None, sym, refl, ap, ◌∙◌, subst}
use Rattle.std.specs.Option.{unwrap_or}
use Rattle.table.specs.Tables.{draft_of}
use Rattle.order.specs.Orders.{Ahead}
use Rattle.budget.specs.Meaning.{Meaning}
use Rattle.runs.specs.States.{State, the_task}
use Rattle.runs.specs.Masks.{mask}
use Rattle.runs.specs.Choices.{turn}
use Rattle.runs.specs.Ticking.{switches, drops, outcome_by, running_mode, running_jobs, ending, none_pending, LetRest}
use Rattle.dispatch.specs.Cores.{state_of}
use Rattle.dispatch.specs.Steps.{running, served_state, settled}
use Rattle.dispatch.specs.Turns.{turn_of_taken}
use Rattle.dispatch.proofs.Mapped.{then_is_some, then_or}
use Rattle.dispatch.proofs.Turning.{turn_taken, none_taken, outcome_is, idle_calm, idle_asks, consulted, answer_is}
use Rattle.dispatch.proofs.dispatcher.Dispatcher.advance.Goals as goal

pub returns-in_default : goal.returns-in_default
returns-in_default g c =
    let x = c.args.self.now in
    let d = draft_of x.table in
    let s = state_of x.core in
    let ahead : Ahead = g.O.TieOrder.ahead x.order.now in
    let m : Meaning = g.R.Rule.meaning x.rule in
    let mark = c.args.mark in
    let none = none_taken d (turn ahead s.mode d s.job) c.in_default.ensures in
    let o = outcome_is d ahead m.yes s mark false None (idle_calm d ahead m.yes s none) none in
    record {
      fixed = (refl, refl);
      answer = ap (λ y. y.answer) (sym o);
      state = ap (λ y. y.state) (sym o);
      rule = consulted d ahead s mark m (outcome_by d s mark false s.mode s.job None) o m m (idle_asks d ahead s m none) refl;
      policy = refl;
    }

pub returns : goal.returns
returns g c =
    let x = c.args.self.now in
    let x₁ = c.decide-decided.new.self in
    let x₂ = c.serve-ending.new.self in
    let x₃ = c.settle.new.self in
    let d = draft_of x.table in
    let s = state_of x.core in
    let s₁ = state_of x₁.core in
    let ahead : Ahead = g.O.TieOrder.ahead x.order.now in
    let m : Meaning = g.R.Rule.meaning x.rule in
    let mark = c.args.mark in
    let b = switches d ahead m.yes s in
    let taken = c.decide-decided.result.taken in
    let t = turn_of_taken taken in
    let e = c.decide-decided.ensures in
    let f = c.serve-ending.ensures in
    let h = c.settle.ensures in
    let same_table = e.fixed.0 in
    let same_order = ap (g.O.TieOrder.ahead) e.fixed.1 in
    let mode' = running_mode b s.mode in
    let jobs' = running_jobs b d s.job in
    let first = turn_taken (draft_of x₁.table) (turn (g.O.TieOrder.ahead x₁.order.now) s₁.mode (draft_of x₁.table) s₁.job) taken e.taken in
    let turns : turn ahead mode' d jobs' ≡ Some t =
    ap (λ y. turn ahead y.mode d y.job) (sym e.state) ∙ ap (λ y. turn ahead s₁.mode (draft_of y) s₁.job) (sym same_table) ∙ ap (λ y. turn y s₁.mode (draft_of x₁.table) s₁.job) (sym same_order) ∙ first.0 in
    let o = outcome_is d ahead m.yes s mark b (Some t) refl turns in
    let em : s₁.mode ≡ mode' = ap (λ y. y.mode) e.state in
    let st : state_of x₂.core ≡ served_state d mark (running d b s) t = f.state ∙ ap (λ y. served_state (draft_of y) mark s₁ t) same_table ∙ ap (λ y. served_state d mark y t) e.state in
    let mid : Meaning = g.R.Rule.meaning x₁.rule in
    let n : Meaning = g.R.Rule.meaning x₃.rule in
    let R : State → Type 0 = λ y. LetRest (none_pending y.job) mid n in
    let M : g.row.R.Denot → Type 0 = λ r. LetRest (none_pending (state_of x₂.core).job) (g.R.Rule.meaning r) n in
    let set = mask 32 (drops d s.job) in
    let switched = c.is_some.ensures ∙ ap is_some e.dropped ∙ then_is_some b set in
    let dropped = c.unwrap_or.ensures ∙ ap (λ y. unwrap_or y 0) e.dropped ∙ then_or b set 0 in
    let task = first.1 ∙ ap (λ y. the_task (draft_of y) t.number) same_table in
    let ends = f.ending ∙ ap (λ y. ending y s₁.mode mark (t.job.run.0 + 1)) task ∙ ap (λ y. ending (the_task d t.number) y mark (t.job.run.0 + 1)) em in
    record {
      fixed = (h.fixed.0 ∙ f.fixed.0 ∙ e.fixed.0, h.fixed.1 ∙ f.fixed.1 ∙ e.fixed.1);
      answer = answer_is x.core.clock (Some t.number) s₁.mode mode' _ b _ _ _ _ em switched dropped ends ∙ ap (λ y. y.answer) (sym o);
      state = h.state ∙ ap settled st ∙ ap (λ y. y.state) (sym o);
      rule = consulted d ahead s mark m (outcome_by d s mark b mode' jobs' (Some t)) o mid n e.grant (subst R st (subst M f.fixed.2 h.rest));
      policy = h.policy ∙ ap (g.R.Rule.policy) f.fixed.2 ∙ e.policy;
    }
