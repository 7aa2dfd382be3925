use Rattle.std.proofs.Common.{◌*◌, ◌≤◌, sym, mul-le-mul, arith}
use Rattle.table.specs.Tables.{draft_of}
use Rattle.table.proofs.Tables.{table_accepted, task_sound}
use Rattle.table.proofs.table.Table.virtual_deadline.Goals as goal

pub overflow_mul-result : goal.overflow_mul-result
overflow_mul-result c =
    let t = c.args.self.now in
    let a = table_accepted t in
    let s = task_sound (draft_of t) a c.args.number _ (sym c.in_ok-task.ensures) in
    let few : t.factor.p ≤ 1000 = omega (arith, a.p_high, a.q_high) in
    let small : t.factor.p * c.in_ok-task.task.period.0 ≤ 1000 * 100000 = mul-le-mul few s.period_high in
    record { fits = omega arith }
