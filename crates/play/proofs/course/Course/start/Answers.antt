use Rattle.std.proofs.Common.{sym, ap, ◌∙◌}
use Rattle.transcript.specs.Stages.{showing}
use Rattle.play.specs.Courses.{stage_of, started}
use Rattle.play.proofs.course.Course.start.Goals as goal

pub returns-in-Rule : goal.returns-in-Rule
returns-in-Rule c = ap showing c.start.ensures ∙ ap (λ x. started (stage_of x)) (sym c.in-Rule.is)
