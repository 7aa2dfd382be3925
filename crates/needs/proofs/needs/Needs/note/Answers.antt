use Rattle.std.proofs.Common.{◌≤◌, rules, tests}
use Rattle.needs.proofs.Noting.{noted_slot}
use Rattle.needs.proofs.needs.Needs.note.Goals as goal

pub returns-then-contains : goal.returns-then-contains
returns-then-contains c =
    let low : 1 ≤ c.args.task = search (rules, tests, c.if-contains.ensures) in
    let high : c.args.task ≤ 32 = search (rules, tests, c.if-contains.ensures) in
    noted_slot c.args.self.now.slots c.args.task c.args.need low high c.args.self.now.long
