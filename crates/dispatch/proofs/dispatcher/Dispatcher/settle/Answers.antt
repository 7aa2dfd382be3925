use Rattle.std.proofs.Common.{◌≡◌, ◌^◌, ◌<◌, true, false, refl, arith}
use Rattle.runs.specs.Slots.{seat}
use Rattle.runs.specs.Ticking.{none_pending}
use Rattle.dispatch.proofs.Seats.{none_pending_is, some_pending_is}
use Rattle.dispatch.proofs.dispatcher.Dispatcher.settle.Goals as goal

pub returns-then-self-eq0 : goal.returns-then-self-eq0
returns-then-self-eq0 g c =
    let x = c.args.self.now in
    let none : none_pending (seat x.core.jobs) ≡ true = none_pending_is x.core.pending x.core.jobs x.fine.agrees c.if-self-eq0.true in
    record { fixed = (refl, refl); state = rw none refl; rest = rw none c.rest.ensures.rested; policy = c.rest.ensures.policy }

pub returns-else-self-eq0 : goal.returns-else-self-eq0
returns-else-self-eq0 g c =
    let x = c.args.self.now in
    let word : x.core.pending < 2 ^ 32 = omega arith in
    let some : none_pending (seat x.core.jobs) ≡ false = some_pending_is x.core.pending x.core.jobs word x.fine.agrees c.if-self-eq0.false in
    record { fixed = (refl, refl); state = rw some refl; rest = rw some refl; policy = refl }
