use Rattle.std.proofs.Common.{◌≡◌}
use Rattle.play.specs.Boards.{to_come, turns}
use Rattle.play.proofs.board.Board.next_line.Given as goal

abbrev pub invariant-loop-line : goal.invariant-loop-line
invariant-loop-line l = to_come l.self ≡ to_come l.initial.self

abbrev pub decreases-loop-line : goal.decreases-loop-line
decreases-loop-line l = turns l.self
