use Rattle.std.proofs.Common.{◌≡◌, ◌≤◌, [], take}
use Rattle.table.specs.Tables.{draft_of}
use Rattle.runs.specs.States.{OfTable}
use Rattle.runs.specs.Produced.{Kind, Keeps, Produced}
use Rattle.dispatch.specs.Cores.{state_of}
use Rattle.trials.specs.Comparing.{Counting, counted, is_over}
use Rattle.trials.proofs.playing.ticks_before_switch.Given as goal

abbrev pub invariant-loop-call : goal.invariant-loop-call
invariant-loop-call g l =
    (l.dispatcher.table ≡ l.initial.dispatcher.table) × (l.dispatcher.order.now ≡ l.initial.dispatcher.order.now) × (counted l.count ≤ l.call-index)
    × ((kind : Kind) → ((rule : g.row.R.Denot) → Keeps kind (g.R.Rule.meaning rule))
    → Produced kind (draft_of l.initial.dispatcher.table) (g.O.TieOrder.ahead l.initial.dispatcher.order.now) [] (g.R.Rule.meaning l.initial.dispatcher.rule) (state_of l.initial.dispatcher.core)
    → OfTable (draft_of l.initial.dispatcher.table) (g.R.Rule.meaning l.initial.dispatcher.rule)
    → Counting kind (draft_of l.initial.dispatcher.table) (g.O.TieOrder.ahead l.initial.dispatcher.order.now) (g.R.Rule.meaning l.dispatcher.rule) (state_of l.dispatcher.core) (take l.call-index l.calls) (counted l.count) (is_over l.count))
