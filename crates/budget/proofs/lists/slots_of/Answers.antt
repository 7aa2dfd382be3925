use Rattle.std.proofs.Common.{rules}
use Rattle.std.proofs.lemmas.List.{take_all}
use Rattle.budget.proofs.lists.slots_of.Goals as goal

pub returns : goal.returns
returns c = search (rules, take_all 32 c.args.list.now c.requires)
