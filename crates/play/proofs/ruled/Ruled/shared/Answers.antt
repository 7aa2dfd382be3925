use Rattle.std.proofs.Common.{ap, ◌∙◌}
use Rattle.table.specs.Tables.{draft_of}
use Rattle.budget.proofs.Policies.{new_shared}
use Rattle.any_rule.specs.Any.{policy_of_base}
use Rattle.play.proofs.ruled.Ruled.shared.Goals as goal

pub returns-clause-policy : goal.returns-clause-policy
returns-clause-policy c = ap policy_of_base c.from.ensures ∙ new_shared (draft_of c.args.table) c.new.result c.new.ensures
