use Rattle.transcript.proofs.Lasts.{shared_lasts_longest}
use Rattle.transcript.proofs.shared_rule_lasts_longest.Goals as goal

pub returns : goal.returns
returns c = shared_lasts_longest
