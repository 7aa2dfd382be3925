-- A task of either level.
use Rattle.tasks.specs.declared.units.Ticks.{Ticks}
use Rattle.tasks.specs.declared.task.Task.{Task}
use Rattle.tasks.specs.declared.task.Level.{Level}
use Rattle.tasks.specs.declared.task.Level.TheVariants.{High as HighLevel, Low as LowLevel}
use Rattle.tasks.specs.declared.task.Criticality.{Criticality}
use Rattle.tasks.specs.declared.task.Criticality.TheVariants.{High, Low}

abbrev pub level_of : Criticality → Level
level_of High = HighLevel
level_of (Low g) = LowLevel

abbrev pub high_task : Ticks → Ticks → Task
high_task period worst = record { period = period; worst = worst; criticality = High }

abbrev pub low_task : Ticks → Ticks → Ticks → Task
low_task period worst assured = record { period = period; worst = worst; criticality = Low assured }
