use Rattle.std.proofs.Common.{true, false, refl, rules, tests}
use Rattle.std.proofs.lemmas.Iterator.{cases_from_all, YieldsList-from_range}
use Rattle.table.specs.Tables.{draft_of}
use Rattle.budget.specs.Meaning.{Meaning}
use Rattle.dispatch.proofs.Foreign.{Same, weights_told}
use Rattle.dispatch.proofs.making.weights_agree.Goals as goal

pub returns : goal.returns
returns g c =
    let d = draft_of c.args.table.now in
    let m : Meaning = g.R.Rule.meaning c.args.rule.now in
    weights_told d m c.all.result (cases_from_all _ _ _ (Same d m true) (Same d m false) c.all.ensures.ran (YieldsList-from_range 0 32 32 refl refl) (λ x q k. search (rules, tests)) (λ x q k. search (rules, tests)))
