-- A task's numbers, and the weighted sums over the tasks of a table. Task number k + 1 stands at slot k.
use Rattle.std.specs.Prelude.{ℕ, ◌*◌, ◌/◌, List, slice_index_or}
use Rattle.tasks.specs.declared.units.Ticks.{Ticks}
use Rattle.tasks.specs.declared.units.Shares.{Shares}
use Rattle.tasks.specs.declared.task.Task.{Task}
use Rattle.tasks.specs.declared.task.Factor.{Factor}
use Rattle.tasks.specs.declared.task.Criticality.TheVariants.{High}
pub use Rattle.tasks.specs.Parts.{assured_of, low_assured, rest_of, low_rest, high_of, high_worst}
use Rattle.table.specs.Sums.{sum}

abbrev pub ticks : ℕ → Ticks
ticks n = record { 0 = n }

abbrev pub shares : ℕ → Shares
shares n = record { 0 = n }

-- what stands in a slot that holds no task
abbrev pub blank : Task
blank = record { period = ticks 0; worst = ticks 0; criticality = High }

abbrev pub slot : List Task → ℕ → Task
slot ts k = slice_index_or ts k blank

-- w = H / T
abbrev pub weight : Shares → Task → ℕ
weight scale t = scale.0 / t.period.0

-- D = p * T / q
abbrev pub virtual_deadline : Factor → Task → ℕ
virtual_deadline f t = f.p * t.period.0 / f.q

-- the sum of weight * part over the tasks
abbrev pub weighted : Shares → ℕ → (ℕ → Task) → (Task → ℕ) → ℕ
weighted scale n task part = sum n (λ k. weight scale (task k) * part (task k))
