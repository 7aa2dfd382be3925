use Rattle.std.proofs.Common.{length, rules}
use Rattle.table.specs.Tables.{draft_of}
use Rattle.budget.specs.Making.{at_slot, may_have}
use Rattle.budget.proofs.Searches.{first_searched}
use Rattle.budget.proofs.lists.Numbers.check_levels.Goals as goal

pub returns : goal.returns
returns c =
    let xs = c.args.self.now.list.now in
    let d = draft_of c.args.self.now.table.now in
    first_searched _ (λ k. may_have (d.task k).criticality (at_slot xs k).ticks.0) (length xs) (at_slot xs) _ (λ k b l said. search rules) c.check_each.ensures
