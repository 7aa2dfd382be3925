use Rattle.std.proofs.Common.{ap, ◌∙◌}
use Rattle.budget.specs.Slots.{ticks_in}
use Rattle.runs.specs.declared.call.Mark.TheVariants.{NotDone}
use Rattle.dispatch.specs.Cores.{state_of}
use Rattle.needs.specs.Marks.{mark_at, mark_by}
use Rattle.needs.proofs.needs.Needs.mark.Goals as goal

pub returns-in-Some : goal.returns-in-Some
returns-in-Some g c =
    let x = c.args.dispatcher.now in
    let needs = ticks_in c.args.self.now.slots in
    let jobs = (state_of x.core).job in
    c.mark_at.ensures
    ∙ ap (λ n. mark_at n c.job.result) c.need.ensures
    ∙ ap (mark_at (needs c.in-Some.task)) c.job.ensures.is
    ∙ ap (mark_by needs jobs) (c.in-Some.ensures NotDone)

pub returns-in-None : goal.returns-in-None
returns-in-None g c =
    let x = c.args.dispatcher.now in
    ap (mark_by (ticks_in c.args.self.now.slots) (state_of x.core).job) (c.in-None.ensures NotDone)
