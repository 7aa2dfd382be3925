use Rattle.runs.proofs.Computed.{short_end}
use Rattle.runs.proofs.examples.assured_job_ends_short.Goals as goal

pub returns : goal.returns
returns c = short_end
