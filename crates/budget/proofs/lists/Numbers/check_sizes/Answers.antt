use Rattle.std.proofs.Common.{leb, length, rules}
use Rattle.budget.specs.Making.{at_slot}
use Rattle.budget.proofs.Searches.{first_searched}
use Rattle.budget.proofs.lists.Numbers.check_sizes.Goals as goal

pub returns : goal.returns
returns c =
    let xs = c.args.self.now.list.now in
    first_searched _ (λ k. leb (at_slot xs k).ticks.0 100000) (length xs) (at_slot xs) _ (λ k b l said. search rules) c.check_each.ensures
