use Rattle.scenario.proofs.Joined.{lines_joined, lines_lack, lines_only}
use Rattle.scenario.proofs.laws.lines_law.Goals as goal

pub returns : goal.returns
returns c = record { joined = lines_joined; lack = lines_lack; only = lines_only }
