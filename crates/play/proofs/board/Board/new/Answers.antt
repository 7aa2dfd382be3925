use Rattle.transcript.proofs.Young.{every_text_stays_young}
use Rattle.play.proofs.board.Board.new.Goals as goal

pub returns-clause-young : goal.returns-clause-young
returns-clause-young c = every_text_stays_young c.args.text.now
