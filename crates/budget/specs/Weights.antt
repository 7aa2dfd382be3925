-- The weights that a rule of a table has.
use Rattle.std.specs.Prelude.{ℕ, ◌-◌, cond}
use Rattle.tasks.specs.declared.task.Criticality.{Criticality}
use Rattle.tasks.specs.declared.task.Criticality.TheVariants.{High, Low}
use Rattle.table.specs.Tasks.{weight}
use Rattle.table.specs.Verdict.{Draft, in_range}

abbrev pub weight_by : Criticality → ℕ → ℕ
weight_by High w = w
weight_by (Low g) w = 0

-- w of a high task, 0 of a low or absent one
abbrev pub rule_weight : Draft → ℕ → ℕ
rule_weight d i = cond (in_range 1 d.count i) (weight_by (d.task (i - 1)).criticality (weight d.scale (d.task (i - 1)))) 0
