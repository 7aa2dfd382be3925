use Rattle.runs.proofs.Ages.{no_12}
use Rattle.runs.proofs.bounds.never_still_pending.Goals as goal

pub returns : goal.returns
returns c = no_12
