use Rattle.std.proofs.Common.{◌≡◌, ℕ, ◌≤◌, map, reverse, take}
use Rattle.table.specs.Tables.{draft_of}
use Rattle.runs.specs.Numbers.{call_of}
use Rattle.runs.specs.Produced.{lawful, Produced}
use Rattle.runs.specs.Bounds.{Young}
use Rattle.trials.specs.Comparing.{Alike}
use Rattle.dispatch.specs.Cores.{state_of}
use Rattle.trials.proofs.replay.replay.Given as goal

abbrev pub invariant-loop-entry : goal.invariant-loop-entry
invariant-loop-entry g l =
    (l.dispatcher.table ≡ l.table) × (l.dispatcher.order.now ≡ l.order)
    × (map call_of l.entries ≡ map call_of l.initial.entries)
    × ((n : ℕ) → n ≤ l.entry-index → Young (draft_of l.table) (reverse (take n l.entries)))
    × Produced lawful (draft_of l.table) (g.O.TieOrder.ahead l.order) (reverse (take l.entry-index l.entries)) (g.R.Rule.meaning l.dispatcher.rule) (state_of l.dispatcher.core)
    × Alike (g.R.Rule.meaning l.initial.dispatcher.rule) (g.R.Rule.meaning l.dispatcher.rule)
