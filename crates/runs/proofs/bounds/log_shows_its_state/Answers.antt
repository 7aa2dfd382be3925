use Rattle.runs.proofs.Ties.{ties_stand}
use Rattle.runs.proofs.bounds.log_shows_its_state.Goals as goal

pub returns : goal.returns
returns c = ties_stand
