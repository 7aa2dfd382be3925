use Rattle.std.proofs.Common.{ap}
use Rattle.play.specs.Courses.{stage_of}
use Rattle.play.proofs.Coursing.{capped}
use Rattle.play.proofs.course.Course.cap.Goals as goal

pub returns : goal.returns
returns c = record {
  to = λ n. capped n c.args.ceilings.now _ _ _ _ (ap stage_of c.in-Rule.is) c.in_ok-show.ensures.refused c.in_ok-show.ensures.made;
  near = tt;
}
