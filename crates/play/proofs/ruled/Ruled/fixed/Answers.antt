use Rattle.std.proofs.Common.{refl, ap, ◌∙◌}
use mathlib.Core.Path.{fun_ext}
use Rattle.table.specs.Tables.{draft_of}
use Rattle.budget.proofs.Policies.{new_fixed}
use Rattle.any_rule.specs.Any.{policy_of_base}
use Rattle.play.proofs.ruled.Ruled.fixed.Goals as goal

pub returns-clause-made : goal.returns-clause-made
returns-clause-made c = (refl, ap policy_of_base c.from.ensures ∙ fun_ext (new_fixed (draft_of c.args.table) c.args.budgets.now c.in_ok-rule.rule c.in_ok-rule.ensures.made))
