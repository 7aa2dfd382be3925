use Rattle.budget.specs.Loads.{load_rested}
use Rattle.budget.proofs.Slots.{ticks_none}
use Rattle.budget.proofs.tallying.no_runs.Goals as goal

pub returns : goal.returns
returns c = record { zero = ticks_none; load = λ w. load_rested w _ ticks_none }
