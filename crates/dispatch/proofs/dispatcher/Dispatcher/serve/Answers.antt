use Rattle.std.proofs.Common.{◌≡◌, suc, ◌+◌, ◌-◌, ◌<◌, length, get_or, None, sym, refl, ap, ◌∙◌, arith}
use Rattle.table.specs.Tables.{draft_of}
use Rattle.table.specs.Tasks.{ticks}
use Rattle.runs.specs.Slots.{seat}
use Rattle.runs.specs.States.{put, the_task}
use Rattle.runs.specs.Ticking.{ending, served}
use Rattle.dispatch.specs.declared.state.Core.{Core}
use Rattle.dispatch.specs.Cores.{state_of}
use Rattle.dispatch.specs.Steps.{served_state}
use Rattle.dispatch.specs.Turns.{turn_of_taken}
use Rattle.dispatch.proofs.Fines.{seat_slot, seat_below, fine_written, jobs_written, rest_served, rest_arrival, rest_run_is}
use Rattle.dispatch.proofs.Seats.{state_is}
use Rattle.dispatch.proofs.Turning.{taken_pending}
use Rattle.dispatch.proofs.dispatcher.Dispatcher.serve.Goals as goal

pub invariant_of-self : goal.invariant_of-self
invariant_of-self g c =
    let x = c.args.self.now in
    let d = draft_of x.table in
    let s = x.core in
    let s₁ = c.write.new.self in
    let s' : Core = record { foreign = s₁.foreign; clock = ticks (s₁.clock.0 + 1); mode = s₁.mode; pending = s₁.pending; jobs = s₁.jobs; last = s₁.last } in
    let i = c.args.taken.number in
    let j = c.args.taken.job in
    let e = c.ending-ending.result in
    let rest = c.rest_of-rest.result in
    let run = ticks (j.run.0 + 1) in
    let w = c.write.ensures in
    let f = x.fine in
    let pending = (taken_pending d (g.O.TieOrder.ahead x.order.now) s.mode s c.args.taken c.requires.first).0 in
    let there = seat_slot s.jobs i j pending in
    let low : i - 1 < 32 = seat_below x.table s.jobs f.owned i j pending in
    let later : s'.clock.0 ≡ s.clock.0 + 1 = ap (λ t. t.0 + 1) w.clock' in
    record {
      fine = fine_written d s s₁ s' (i - 1) rest w f low refl refl (omega (arith, later)) (omega (arith, later, c.requires.early))
          (λ k r q. omega (arith, f.lasts k r (ap (λ l. get_or l k None) (sym w.last') ∙ q), later)) (ap length w.last' ∙ f.seats)
          (λ a q. f.owned (i - 1) j there.1)
          (λ a q. omega (arith, rest_arrival e j.arrival run a (sym c.rest_of-rest.ensures ∙ q), f.arrived (i - 1) j there.1, later))
          (λ a q. omega (arith, rest_run_is e j.arrival run a (sym c.rest_of-rest.ensures ∙ q), f.run (i - 1) j there.1, later));
    }

pub returns : goal.returns
returns g c =
    let x = c.args.self.now in
    let d = draft_of x.table in
    let s = x.core in
    let s₁ = c.write.new.self in
    let s' : Core = record { foreign = s₁.foreign; clock = ticks (s₁.clock.0 + 1); mode = s₁.mode; pending = s₁.pending; jobs = s₁.jobs; last = s₁.last } in
    let i = c.args.taken.number in
    let j = c.args.taken.job in
    let e = c.ending-ending.result in
    let rest = c.rest_of-rest.result in
    let w = c.write.ensures in
    let taken = taken_pending d (g.O.TieOrder.ahead x.order.now) s.mode s c.args.taken c.requires.first in
    let there = seat_slot s.jobs i j taken.0 in
    let low : i - 1 < 32 = seat_below x.table s.jobs x.fine.owned i j taken.0 in
    let later : s'.clock.0 ≡ s.clock.0 + 1 = ap (λ t. t.0 + 1) w.clock' in
    let back : suc (i - 1) ≡ i = omega (arith, there.0) in
    let ends : e ≡ ending (the_task d i) s.mode c.args.mark (j.run.0 + 1) = c.ending-ending.ensures ∙ ap (λ t. ending t s.mode c.args.mark (j.run.0 + 1)) taken.1 in
    let is : rest ≡ served (ending (the_task d i) s.mode c.args.mark (j.run.0 + 1)) j = c.rest_of-rest.ensures ∙ rest_served e j (ticks (j.run.0 + 1)) refl ∙ ap (λ o. served o j) ends in
    let jobs = jobs_written d s s₁ s' (i - 1) rest w x.fine low refl refl (omega (arith, later)) (omega (arith, later, c.requires.early)) in
    record {
      fixed = (refl, refl, refl);
      ending = c.ending-ending.ensures;
      state = state_is (state_of s') (served_state d c.args.mark (state_of s) (turn_of_taken c.args.taken)) w.foreign' later w.mode'
          (jobs ∙ ap (λ n. put (seat s.jobs) n rest) back ∙ ap (put (seat s.jobs) i) is) (ap seat w.last');
    }
