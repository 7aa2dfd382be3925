use Rattle.std.proofs.Common.{◌≡◌, ◌-◌, ◌≤◌, true, None, sym, ap, ◌∙◌, arith, rules, tests}
use Rattle.table.specs.Tables.{draft_of}
use Rattle.table.specs.Verdict.{in_range}
use Rattle.std.proofs.lemmas.Option.{cond_some}
use Rattle.table.proofs.Tables.{table_accepted, task_sound}
use Rattle.runs.specs.States.{known, the_task, period, within}
use Rattle.runs.specs.Arrivals.{next_arrival, unassured_by}
use Rattle.runs.proofs.Slots.{seat_at}
use Rattle.dispatch.specs.Cores.{state_of}
use Rattle.dispatch.proofs.Known.{known_low}
use Rattle.dispatch.proofs.Arriving.{next_small, last_fault, where_ok}
use Rattle.dispatch.proofs.dispatcher.Dispatcher.check_arrival.Goals as goal

pub next_after-next-requires : goal.next_after-next-requires
next_after-next-requires g c =
    let t = c.args.self.now.table in
    let sound = task_sound (draft_of t) (table_accepted t) c.args.number c.in_ok-task.task (sym c.task.ensures ∙ c.in_ok-task.ensures.ok_part) in
    next_small c.in_ok-task.task.period.0 c.at.result (λ r e. omega (arith, c.args.self.now.fine.lasts (c.args.number - 1) r (sym c.at.ensures ∙ e), c.args.self.now.fine.clocked)) sound.period_high

pub returns : goal.returns
returns g c =
    let d = draft_of c.args.self.now.table in
    let s = state_of c.args.self.now.core in
    let i = c.args.number in
    let p = cond_some (in_range 1 d.count i) (the_task d i) c.in_ok-task.task (sym c.task.ensures ∙ c.in_ok-task.ensures.ok_part) in
    let low : 1 ≤ i = known_low d i p.0 in
    let last : s.last i ≡ c.at.result = seat_at c.args.self.now.core.last i low ∙ sym c.at.ensures in
    let free : s.job i ≡ None = seat_at c.args.self.now.core.jobs i low ∙ sym c.in_default.ensures in
    let next : next_arrival (period d i) (s.last i) ≡ c.next_after-next.result.0 = ap (next_arrival (period d i)) last ∙ ap (λ t. next_arrival t.period.0 c.at.result) p.1 ∙ sym c.next_after-next.ensures in
    let passed : c.next_after-next.result.0 ≤ s.clock = search (rules, tests, c.if-gt.ensures) in
    let early : next_arrival (period d i) (s.last i) ≤ s.clock = omega (arith, next, passed) in
    record {
      first = c.check_assured.ensures ∙ ap (λ t. unassured_by s.mode i (within t.criticality 0)) (sym p.1) ∙ sym (last_fault d s i c.if-self.false p.0 early free);
      known = where_ok (known d i ≡ true) c.check_assured.result p.0;
    }
