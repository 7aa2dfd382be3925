use Rattle.std.proofs.Common.{ap, ◌∙◌}
use Rattle.std.proofs.lemmas.Result.{err_from_is_err_and}
use Rattle.table.specs.Tables.{draft_of}
use Rattle.any_rule.specs.Any.{policy_of_base}
use Rattle.transcript.specs.Stages.{ruled}
use Rattle.transcript.specs.Steps.{silent}
use Rattle.play.specs.Courses.{stage_of}
use Rattle.play.proofs.Coursing.{fixed_made, fixed_refused}
use Rattle.play.proofs.course.Course.fix.Goals as goal

pub returns-in_err-ruled : goal.returns-in_err-ruled
returns-in_err-ruled c =
    let t = c.in_ok-table in
    let p = err_from_is_err_and c.from_residual-in_err-ruled.result c.from_residual-in_err-ruled.ensures.1 in
    rw (p.1, p.2) (record {
      to = λ n. fixed_refused n c.args.budgets.now _ _ _ _ _ (ap stage_of c.in-Table.is) t.ensures.verdict (draft_of t.table) _ t.ensures.parts c.in_err-ruled.ensures.refused;
      near = tt;
    })

pub returns : goal.returns
returns c =
    let t = c.in_ok-table in
    let u = c.in_ok-ruled.ruled in
    let made = c.in_ok-ruled.ensures in
    record {
      to = λ n.
          ap (λ d. silent (ruled d (policy_of_base u.rule))) (ap draft_of made.made.0)
          ∙ fixed_made n c.args.budgets.now _ _ _ _ _ (ap stage_of c.in-Table.is) t.ensures.verdict (draft_of t.table) _ t.ensures.parts made.refused made.made.1;
      near = tt;
    }
