use Rattle.std.proofs.Common.{rules}
use Rattle.scenario.proofs.Pieces.{before_found}
use Rattle.scenario.proofs.fields.before.Goals as goal

pub returns : goal.returns
returns c = before_found c.args.stop c.args.text.now c.map_or.result.now c.position.result (search rules) (search rules)
