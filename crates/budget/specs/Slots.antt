-- What rules keep for each task: slot k is that of task number k + 1.
use Rattle.std.specs.Prelude.{ℕ, zero, suc, List, slice_index_or}
use Rattle.tasks.specs.declared.units.Ticks.{Ticks}
use Rattle.tasks.specs.declared.units.Shares.{Shares}
use Rattle.table.specs.Tasks.{ticks, shares}

abbrev pub weight_in : List Shares → ℕ → ℕ
weight_in ws zero = 0
weight_in ws (suc k) = (slice_index_or ws k (shares 0)).0

abbrev pub ticks_in : List Ticks → ℕ → ℕ
ticks_in xs zero = 0
ticks_in xs (suc k) = (slice_index_or xs k (ticks 0)).0
