use Rattle.std.proofs.Common.{◌∙◌, rules, tests}
use Rattle.std.proofs.lemmas.Iterator.Consumers.{YieldsList-from_first, YieldsList-from_enumerate}
use Rattle.std.proofs.lemmas.Iterator.Search.{all_from_yields_List}
use Rattle.scenario.specs.Items.{right_value}
use Rattle.scenario.specs.Left.{to_come}
use Rattle.scenario.specs.Numbers.{value}
use Rattle.scenario.proofs.Numbered.{numbers_by_place}
use Rattle.scenario.proofs.ranges.numbers_fit.Goals as goal

pub returns : goal.returns
returns c =
    all_from_yields_List (λ p. right_value c.args.kind p.0 (value p.1)) c.all.new.self _ _ c.all.ensures.ran
    (YieldsList-from_enumerate (YieldsList-from_first (λ field. field.now) to_come (to_come c.args.fields) cc) cc) (λ x b q e. search (rules, tests))
    ∙ numbers_by_place c.args.kind 0 (to_come c.args.fields)
