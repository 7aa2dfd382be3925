use Rattle.std.proofs.Common.{rules}
use Rattle.scenario.proofs.lines.shaped.Goals as goal
use Rattle.scenario.proofs.lines.shaped.Goals.{in-Scale+in_ok-next-in-Scale+in_ok-next-in-Scale-2+in_ok-next-in-Scale-3+in_ok-next-in-Scale-4, in-High+in_ok-next-in-High+in_ok-next-in-High-2, in-Low+in_ok-next-in-Low+in_ok-next-in-Low-2+in_ok-next-in-Low-3, in-Shared, in-Arrival+in_ok-next-in-Arrival+in_ok-next-in-Arrival-2, in-Run+in_ok-next-in-Run}

pub returns : goal.returns
returns c = elim c.match-kind.branch [
  | in-Scale+in_ok-next-in-Scale+in_ok-next-in-Scale-2+in_ok-next-in-Scale-3+in_ok-next-in-Scale-4 w ↦ search rules
  | in-High+in_ok-next-in-High+in_ok-next-in-High-2 w ↦ search rules
  | in-Low+in_ok-next-in-Low+in_ok-next-in-Low-2+in_ok-next-in-Low-3 w ↦ search rules
  | in-Shared w ↦ search rules
  | in-Arrival+in_ok-next-in-Arrival+in_ok-next-in-Arrival-2 w ↦ search rules
  | in-Run+in_ok-next-in-Run w ↦ search rules
]
