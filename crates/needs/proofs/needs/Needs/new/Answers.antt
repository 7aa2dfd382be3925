use Rattle.budget.proofs.Slots.{ticks_none}
use Rattle.needs.proofs.needs.Needs.new.Goals as goal

pub returns : goal.returns
returns c = ticks_none
