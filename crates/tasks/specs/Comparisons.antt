-- When a comparison passes.
use Rattle.std.specs.Prelude.{Bool, nat_le}
use Rattle.tasks.specs.declared.task.Comparison.{Comparison}

abbrev pub passes : Comparison → Bool
passes c = nat_le c.demand.0 c.supply.0
