use Rattle.std.proofs.Common.{sym, ap}
use Rattle.play.specs.Courses.{stage_of}
use Rattle.play.specs.Shown.{show_of}
use Rattle.play.proofs.Ticked.{ticks_on}
use Rattle.play.proofs.course.Course.tick.Goals as goal

pub returns : goal.returns
returns c =
    let e = c.tick.ensures in
    ticks_on _ (show_of c.in-Work.show) (show_of c.tick.new.self) c.tick.result c.ok.result (ap stage_of (sym c.in-Work.is)) e.show e.answer c.ok.ensures.value
