use Rattle.std.proofs.Common.{sym, ap, ◌∙◌, arith}
use Rattle.table.specs.Tables.{draft_of}
use Rattle.table.specs.Verdict.{in_range}
use Rattle.std.proofs.lemmas.Option.{cond_some}
use Rattle.runs.specs.States.{the_task}
use Rattle.dispatch.proofs.Known.{period_small}
use Rattle.dispatch.proofs.row.Row.task.Goals as goal

pub returns-clause-small : goal.returns-clause-small
returns-clause-small c =
    let x = c.args.self.now in
    let d = draft_of x.table.now in
    let is = (cond_some (in_range 1 d.count x.number) (the_task d x.number) c.unwrap.result (sym c.task.ensures ∙ c.unwrap.ensures)).1 in
    omega (arith, period_small x.table.now x.number x.known, ap (λ t. t.period.0) is)
