use Rattle.std.proofs.Common.{◌≤◌, length, ◌∙◌, arith}
use Rattle.table.proofs.Tables.{table_accepted, numbered}
use Rattle.table.proofs.table.Table.task.Goals as goal

pub returns : goal.returns
returns c =
    let t = c.args.self.now in
    let low : t.count ≤ length t.tasks = omega (arith, (table_accepted t).few) in
    c.at_number.ensures ∙ numbered t.tasks t.count c.args.number low
