use Rattle.scenario.proofs.Joined.{fields_joined, fields_lack, fields_only}
use Rattle.scenario.proofs.Behind.{fields_rest}
use Rattle.scenario.proofs.laws.fields_law.Goals as goal

pub returns : goal.returns
returns c = record { joined = fields_joined; lack = fields_lack; only = fields_only; rest = fields_rest }
