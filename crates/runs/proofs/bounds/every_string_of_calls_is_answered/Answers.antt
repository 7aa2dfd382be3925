use Rattle.runs.proofs.Calls.{total}
use Rattle.runs.proofs.bounds.every_string_of_calls_is_answered.Goals as goal

pub returns : goal.returns
returns c = total
