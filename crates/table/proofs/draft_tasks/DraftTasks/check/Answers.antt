use Rattle.std.proofs.Common.{ℕ, ◌+◌, Option, sym}
use Rattle.std.proofs.lemmas.Result.{err_from_is_err_and}
use Rattle.tasks.specs.declared.refusal.TableRefusal.{TableRefusal}
use Rattle.table.specs.Tasks.{slot}
use Rattle.table.specs.Verdict.{task_fault}
use Rattle.table.proofs.Firsts.{first_below_none, first_below_next, first_below_here}
use Rattle.table.proofs.draft_tasks.DraftTasks.check.Goals as goal

pub loop-i-init : goal.loop-i-init
loop-i-init c = first_below_none _

pub returns-in_err-check_task : goal.returns-in_err-check_task
returns-in_err-check_task c =
    let x = c.args.self.now in
    let p = err_from_is_err_and c.from_residual.result c.from_residual.ensures.1 in
    let F : ℕ → Option TableRefusal = λ k. task_fault x.scale x.factor (k + 1) (slot x.tasks.now k) in
    rw (p.1, p.2) (sym (first_below_here _ c.loop-i.i F _ c.loop-i-test.true c.loop-i.invariant (sym c.in_err-check_task.ensures)))

pub loop-i-preserved : goal.loop-i-preserved
loop-i-preserved c = first_below_next c.loop-i.i _ c.loop-i.invariant (sym c.in_ok-check_task.ensures)
