use Rattle.std.proofs.Common.{sym, refl, ap, ◌∙◌}
use Rattle.transcript.specs.Shows.{listed}
use Rattle.play.specs.Courses.{stage_of}
use Rattle.play.proofs.Boarding.{over_behind, goes_on, comes_to_end}
use Rattle.play.proofs.board.Board.read_on.Goals as goal

pub returns-in_err-reader : goal.returns-in_err-reader
returns-in_err-reader c =
    let x = c.args.self.now in
    let over = over_behind x.held x.reader x.left (stage_of x.course) (sym c.in_err-reader.ensures.value) c.requires.left ∙ ap listed c.requires.held in
    rw c.from_residual.ensures (over, over)

pub returns-in-Ok-Some : goal.returns-in-Ok-Some
returns-in-Ok-Some c =
    let on = rw c.in-Ok-Some.field-0-is at c.in-Ok-Some.ensures in
    goes_on c.args.self.now _ c.in_ok-reader.reader.now c.requires.held c.requires.left c.in_ok-reader.ensures.value c.in-Ok-Some.printed c.carry_on.new.reader on refl refl refl

pub returns-in-Ok-None : goal.returns-in-Ok-None
returns-in-Ok-None c =
    let last = rw c.in-Ok-None.field-0-is at c.in-Ok-None.ensures in
    comes_to_end c.args.self.now _ c.in_ok-reader.reader.now c.requires.held c.requires.left c.in_ok-reader.ensures.value (ap listed c.requires.held ∙ last) c.requires.left refl

pub returns-in-Err : goal.returns-in-Err
returns-in-Err c = comes_to_end c.args.self.now _ c.in_ok-reader.reader.now c.requires.held c.requires.left c.in_ok-reader.ensures.value c.in-Err.ensures c.requires.left refl
