use Rattle.std.proofs.Common.{◌++◌, refl, ap}
use Rattle.transcript.specs.Shows.{listed}
use Rattle.play.specs.Courses.{stage_of}
use Rattle.play.proofs.Boarding.{left_halts}
use Rattle.play.proofs.board.Board.tick.Goals as goal

pub returns-in_default : goal.returns-in_default
returns-in_default c =
    let x = c.args.self.now in
    record {
      same = ap (λ ls. listed x.held ++ ls) (left_halts x.reader x.left (stage_of x.course) (stage_of c.tick.new.self) c.in_ok-self.ensures.0 c.in_default.ensures);
      held = c.requires.held;
      left = refl;
      reader = refl;
    }
