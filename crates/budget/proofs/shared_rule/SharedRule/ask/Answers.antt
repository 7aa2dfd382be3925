use Rattle.std.proofs.Common.{◌≡◌, ltb, sym, ◌∙◌, rules}
use Rattle.budget.proofs.shared_rule.SharedRule.ask.Goals as goal

pub returns : goal.returns
returns c =
    let below : c.gt.result ≡ ltb c.args.run.0 c.budget.result.0 = search rules in
    below ∙ sym (c.budget.ensures.tied c.args.run.0)
