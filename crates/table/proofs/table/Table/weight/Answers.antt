use Rattle.std.proofs.Common.{sym}
use Rattle.table.specs.Tables.{draft_of}
use Rattle.table.proofs.Tables.{table_accepted, task_sound}
use Rattle.table.proofs.table.Table.weight.Goals as goal

pub nonzero_div-result : goal.nonzero_div-result
nonzero_div-result c = let t = c.args.self.now in (task_sound (draft_of t) (table_accepted t) c.args.number _ (sym c.in_ok-task.ensures)).period_low
