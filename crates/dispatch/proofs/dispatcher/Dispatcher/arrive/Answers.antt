use Rattle.std.proofs.Common.{◌≡◌, suc, ◌-◌, ◌<◌, ◌≤◌, length, get_or, set, Some, None, Option, Ok, Err, rules, sym, refl, ap, ◌∙◌, arith, length-set}
use Rattle.order.specs.Orders.{TieLaws}
use Rattle.budget.specs.Meaning.{Meaning}
use Rattle.tasks.specs.declared.units.Ticks.{Ticks}
use Rattle.table.specs.Tables.{draft_of}
use Rattle.table.proofs.Tables.{table_accepted}
use Rattle.runs.specs.declared.answer.Job.{Job}
use Rattle.runs.specs.States.{put, job_of}
use Rattle.runs.specs.Slots.{seat}
use Rattle.runs.specs.Arrivals.{arrival_fault, arrival_result, arrival_state, arrived}
use Rattle.dispatch.specs.declared.state.Core.{Core}
use Rattle.dispatch.specs.Cores.{state_of}
use Rattle.dispatch.proofs.Known.{known_low, known_high}
use Rattle.dispatch.proofs.Fines.{fine_written, jobs_written}
use Rattle.dispatch.proofs.Seats.{state_is, seat_set, all_set}
use Rattle.dispatch.proofs.Logged.{arrival_extends}
use Rattle.dispatch.proofs.dispatcher.Dispatcher.arrive.Given as given
use Rattle.dispatch.proofs.dispatcher.Dispatcher.arrive.Goals as goal

laws : (g : given.Over) (x : g.row.O.Denot) → TieLaws (g.O.TieOrder.ahead x)
laws g x = record { one_way = g.met.O.TieOrder.one_way x; transitive = g.met.O.TieOrder.transitive x; refines_deadlines = g.met.O.TieOrder.refines_deadlines x }

pub returns-in_err-check_arrival-clause-log : goal.returns-in_err-check_arrival-clause-log
returns-in_err-check_arrival-clause-log g c = λ kind.
    let x = c.args.self.now in
    let s = state_of x.core in
    let m : Meaning = g.R.Rule.meaning x.rule in
    let fault = c.in_err-check_arrival.ensures.first in
    let is : c.from_residual.result ≡ Err c.in_err-check_arrival.field-0.0 = search rules in
    arrival_extends kind (draft_of x.table) (table_accepted x.table) (g.O.TieOrder.ahead x.order.now) (laws g x.order.now) m s s c.args.task c.from_residual.result (is ∙ ap arrival_result fault) (ap (λ o. arrival_state o s c.args.task) fault)

pub invariant_of-self : goal.invariant_of-self
invariant_of-self g c =
    let x = c.args.self.now in
    let d = draft_of x.table in
    let s = x.core in
    let s₁ = c.write.new.self in
    let i = c.args.task in
    let k = i - 1 in
    let clock : Option Ticks = Some s.clock in
    let s' : Core = record { foreign = s₁.foreign; clock = s₁.clock; mode = s₁.mode; pending = s₁.pending; jobs = s₁.jobs; last = set s₁.last k clock } in
    let new : Job = job_of s.clock.0 0 in
    let f = x.fine in
    let w = c.write.ensures in
    let is = c.in_ok-check_arrival.ensures.known in
    let low : 1 ≤ i = known_low d i is in
    let high : i ≤ d.count = known_high d i is in
    let below : k < 32 = omega (arith, low, high, (table_accepted x.table).few) in
    let here : k < length s₁.last = omega (arith, below, ap length w.last', f.seats) in
    let ec : s₁.clock.0 ≡ s.clock.0 = ap (λ t. t.0) w.clock' in
    let later : s.clock.0 ≤ s₁.clock.0 = omega (arith, ec) in
    let early : s₁.clock.0 ≤ 1099511627776 = omega (arith, ec, f.clocked) in
    let arrival_is : (j : Job) → Some new ≡ Some j → j.arrival.0 ≡ s.clock.0 = λ j e. (let q : new ≡ j = cc in sym (ap (λ x. x.arrival.0) q)) in
    let run_is : (j : Job) → Some new ≡ Some j → j.run.0 ≡ 0 = λ j e. (let q : new ≡ j = cc in sym (ap (λ x. x.run.0) q)) in
    let last_is : (r : Ticks) → clock ≡ Some r → r.0 ≡ s.clock.0 = λ r e. (let q : s.clock ≡ r = cc in sym (ap (λ x. x.0) q)) in
    record {
      fine = fine_written d s s₁ s' k (Some new) w f below refl refl later early
          (all_set (λ n r. r.0 ≤ s₁.clock.0) s₁.last k clock here (λ n r e. omega (arith, f.lasts n r (ap (λ l. get_or l n None) (sym w.last') ∙ e), ec)) (λ r e. omega (arith, last_is r e, ec)))
          (simp length-set (ap length w.last' ∙ f.seats))
          (λ j e. omega (arith, low, high))
          (λ j e. omega (arith, arrival_is j e, ec))
          (λ j e. omega (arith, run_is j e));
    }

pub returns : goal.returns
returns g c =
    let x = c.args.self.now in
    let d = draft_of x.table in
    let s = x.core in
    let s₁ = c.write.new.self in
    let i = c.args.task in
    let k = i - 1 in
    let clock : Option Ticks = Some s.clock in
    let s' : Core = record { foreign = s₁.foreign; clock = s₁.clock; mode = s₁.mode; pending = s₁.pending; jobs = s₁.jobs; last = set s₁.last k clock } in
    let new : Job = job_of s.clock.0 0 in
    let w = c.write.ensures in
    let is = c.in_ok-check_arrival.ensures.known in
    let none : None ≡ arrival_fault d (state_of s) i = c.in_ok-check_arrival.ensures.first in
    let low : 1 ≤ i = known_low d i is in
    let below : k < 32 = omega (arith, low, known_high d i is, (table_accepted x.table).few) in
    let here : k < length s₁.last = omega (arith, below, ap length w.last', x.fine.seats) in
    let ec : s₁.clock.0 ≡ s.clock.0 = ap (λ t. t.0) w.clock' in
    let back : suc k ≡ i = omega (arith, low) in
    let later : s.clock.0 ≤ s₁.clock.0 = omega (arith, ec) in
    let early : s₁.clock.0 ≤ 1099511627776 = omega (arith, ec, x.fine.clocked) in
    let answer = ap arrival_result none in
    let state = state_is (state_of s') (arrived (state_of s) i) w.foreign' ec w.mode'
    (jobs_written d s s₁ s' k (Some new) w x.fine below refl refl later early ∙ ap (λ n. put (seat s.jobs) n (Some new)) back)
    (seat_set s₁.last k clock here ∙ ap (λ l. put (seat l) (suc k) clock) w.last' ∙ ap (λ n. put (seat s.last) n clock) back)
    ∙ ap (λ o. arrival_state o (state_of s) i) none in
    let m : Meaning = g.R.Rule.meaning x.rule in
    record {
      fixed = (refl, refl, refl);
      answer = answer;
      state = state;
      same = tt;
      log = λ kind. arrival_extends kind d (table_accepted x.table) (g.O.TieOrder.ahead x.order.now) (laws g x.order.now) m (state_of s) (state_of s') i (Ok tt) answer state;
    }
