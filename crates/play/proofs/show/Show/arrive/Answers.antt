use Rattle.std.proofs.Common.{ap, ◌∙◌}
use mathlib.Core.Path.{fun_ext}
use Rattle.table.specs.Tables.{draft_of}
use Rattle.budget.specs.Slots.{ticks_in}
use Rattle.any_rule.specs.Any.{meaning_of_any, policy_of_any}
use Rattle.transcript.specs.Shows.{need_after}
use Rattle.play.proofs.Showings.{show_is}
use Rattle.play.proofs.show.Show.arrive.Goals as goal

pub returns-in-Ok-clause-show : goal.returns-in-Ok-clause-show
returns-in-Ok-clause-show c =
    let e = c.in-Ok.ensures in
    show_is _ _ (ap draft_of e.fixed.0) (ap policy_of_any e.fixed.2) (ap meaning_of_any e.fixed.2) e.state (fun_ext c.note.ensures ∙ ap (λ r. need_after r (ticks_in c.args.self.now.needs.slots) c.args.task c.args.need.0) e.answer)

pub returns-in-Err-clause-show : goal.returns-in-Err-clause-show
returns-in-Err-clause-show c =
    let e = c.in-Err.ensures in
    show_is _ _ (ap draft_of e.fixed.0) (ap policy_of_any e.fixed.2) (ap meaning_of_any e.fixed.2) e.state (ap (λ r. need_after r (ticks_in c.args.self.now.needs.slots) c.args.task c.args.need.0) e.answer)
