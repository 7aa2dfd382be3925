use Rattle.std.proofs.Common.{rules}
use Rattle.dispatch.proofs.Known.{deadline_small}
use Rattle.dispatch.proofs.row.Row.virtual_deadline.Goals as goal

pub returns-clause-small : goal.returns-clause-small
returns-clause-small c =
    let small = deadline_small c.args.self.now.table.now c.args.self.now.number c.args.self.now.known in
    let is = c.virtual_deadline.ensures in
    search rules
