-- The parts of a task's worst that the figures of a table sum.
use Rattle.std.specs.Prelude.{ℕ, ◌-◌}
use Rattle.tasks.specs.declared.task.Task.{Task}
use Rattle.tasks.specs.declared.task.Criticality.{Criticality}
use Rattle.tasks.specs.declared.task.Criticality.TheVariants.{High, Low}

-- the assured part of a low task: g
abbrev pub assured_of : Criticality → ℕ
assured_of High = 0
assured_of (Low g) = g.0

abbrev pub low_assured : Task → ℕ
low_assured t = assured_of t.criticality

-- C - g of a low task
abbrev pub rest_of : ℕ → Criticality → ℕ
rest_of c High = 0
rest_of c (Low g) = c - g.0

abbrev pub low_rest : Task → ℕ
low_rest t = rest_of t.worst.0 t.criticality

-- C of a high task
abbrev pub high_of : ℕ → Criticality → ℕ
high_of c High = c
high_of c (Low g) = 0

abbrev pub high_worst : Task → ℕ
high_worst t = high_of t.worst.0 t.criticality
