use Rattle.std.proofs.Common.{◌<◌, ◌≤◌, false, cond, eqb, ltb, sym, ap, ◌∙◌, arith, rules}
use Rattle.table.specs.Tables.{draft_of}
use Rattle.budget.specs.OfRules.{weights_of}
use Rattle.budget.specs.Slots.{ticks_in}
use Rattle.budget.specs.Weights.{rule_weight}
use Rattle.budget.specs.Loads.{load_same}
use Rattle.budget.proofs.Making.{list_small, fixed_after, over_total, in_total}
use Rattle.budget.proofs.fixed.Fixed.new.Goals as goal

pub load_of-sum-requires-clause-runs : goal.load_of-sum-requires-clause-runs
load_of-sum-requires-clause-runs c i =
    omega (arith, c.slots_of-slots.ensures i, list_small (draft_of c.args.table.now) c.args.budgets.now (sym c.in_ok-check_budgets.ensures) i)

pub returns-then-gt-clause-refused : goal.returns-then-gt-clause-refused
returns-then-gt-clause-refused c =
    let d = draft_of c.args.table.now in
    let cs = c.args.budgets.now in
    let t = c.new-tally in
    let over : t.result.weights.total.0 < c.load_of-sum.result.0 = search rules in
    let same = load_same (weights_of t.result) (rule_weight d) (ticks_in c.slots_of-slots.result) (ticks_in cs) t.ensures.weights c.slots_of-slots.ensures in
    over_total d cs c.load_of-sum.result t.result.weights.total (c.load_of-sum.ensures ∙ same) t.ensures.total over
    ∙ sym (fixed_after d cs (sym c.in_ok-check_budgets.ensures))

pub returns-clause-refused : goal.returns-clause-refused
returns-clause-refused c =
    let d = draft_of c.args.table.now in
    let cs = c.args.budgets.now in
    let t = c.new-tally in
    let fits : c.load_of-sum.result.0 ≤ t.result.weights.total.0 = search rules in
    let same = load_same (weights_of t.result) (rule_weight d) (ticks_in c.slots_of-slots.result) (ticks_in cs) t.ensures.weights c.slots_of-slots.ensures in
    sym (fixed_after d cs (sym c.in_ok-check_budgets.ensures) ∙ in_total d cs _ _ (c.load_of-sum.ensures ∙ same) (ap (λ b. b.0) t.ensures.total) fits)

pub returns-clause-made : goal.returns-clause-made
returns-clause-made c =
    let d = draft_of c.args.table.now in
    let t = c.new-tally in
    record {
      fresh = record { weights = t.ensures.weights; total = ap (λ b. b.0) t.ensures.total; longest = t.ensures.longest };
      says = λ i run. ap (λ w. cond (eqb w 0) false (ltb run (ticks_in c.slots_of-slots.result i))) (t.ensures.weights i)
          ∙ ap (λ b. cond (eqb (rule_weight d i) 0) false (ltb run b)) (c.slots_of-slots.ensures i);
    }
