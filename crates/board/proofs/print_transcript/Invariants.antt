use Rattle.std.proofs.Common.{length}
use Rattle.play.specs.Boards.{to_come}
use Rattle.board.proofs.print_transcript.Given as goal

-- each turn pulls one of the lines that are still to come
abbrev pub decreases-loop-length : goal.decreases-loop-length
decreases-loop-length g l = length (to_come l.board)
