use Rattle.runs.proofs.Counts.{counts}
use Rattle.runs.proofs.bounds.switch_clock_is_the_count.Goals as goal

pub returns : goal.returns
returns c = counts
