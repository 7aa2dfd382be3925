use Rattle.std.proofs.Common.{Some, Ok, Result, sym, ap, ◌∙◌}
use Rattle.output.specs.declared.fault.Fault.{Fault}
use Rattle.output.specs.declared.output.OutputLine.{OutputLine}
use Rattle.transcript.specs.Shows.{Show as Shown, arrival_line, arriving}
use Rattle.transcript.specs.Stages.{showing}
use Rattle.transcript.specs.Steps.{Step, on_show, arrive}
use Rattle.play.specs.Courses.{stage_of}
use Rattle.play.specs.Shown.{show_of}
use Rattle.play.proofs.Coursing.{started_same}
use Rattle.play.proofs.course.Course.arrive.Goals as goal

prints : OutputLine → Shown → Result Step Fault
prints line w = Ok (record { printed = Some line; left = 0; stage = showing w })

pub returns : goal.returns
unfolding prints
returns c =
    let i = c.args.task in
    let f = arrive i c.args.need.0 in
    let w = show_of c.in-Work.show in
    let e = c.arrive-line.ensures in
    record {
      to = λ n.
          ap (λ l. prints l (show_of c.arrive-line.new.self)) e.line
          ∙ ap (prints (arrival_line w.state.clock i (arriving w i))) e.show
          ∙ ap (on_show n f) (ap stage_of (sym c.in-Work.is) ∙ c.start.ensures)
          ∙ started_same n f (stage_of c.args.self.now);
      near = tt;
    }
