use Rattle.std.proofs.Common.{ap, ◌∙◌}
use Rattle.transcript.specs.Steps.{with_task}
use Rattle.play.proofs.Outlined.{pushed}
use Rattle.play.proofs.task_list.TaskList.push.Goals as goal

pub returns-then-self-lt33 : goal.returns-then-self-lt33
returns-then-self-lt33 c =
    let x = c.self.inside in
    pushed x.slots x.count c.args.task c.if-self-lt33.true c.self.invariant.1 ∙ ap (λ ts. with_task ts c.args.task) c.self.view_is
