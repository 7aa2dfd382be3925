-- Laws of a table's weights.
use Rattle.std.proofs.Common.{◌≡◌, ℕ, suc, ◌-◌, ◌≤◌, Bool, true, false, cond, leb, div-le_self, arith}
use Rattle.std.proofs.lemmas.Bool.{lt-leb, and_right, cond-false}
use Rattle.tasks.specs.declared.task.Criticality.{Criticality}
use Rattle.tasks.specs.declared.task.Criticality.TheVariants.{High, Low}
use Rattle.table.specs.Verdict.{Draft, in_range}
use Rattle.budget.specs.Weights.{weight_by, rule_weight}

-- a number past the count is absent
pub rule_weight_past : (d : Draft) (k : ℕ) → d.count ≤ k → rule_weight d (suc k) ≡ 0
rule_weight_past d k h =
    let out : in_range 1 d.count (suc k) ≡ false = and_right (leb 1 (suc k)) (leb (suc k) d.count) (lt-leb (suc k) d.count (omega arith)) in
    cond-false (in_range 1 d.count (suc k)) _ 0 out

by_most : (c : Criticality) (w b : ℕ) → w ≤ b → weight_by c w ≤ b
by_most High w b h = h
by_most (Low g) w b h = omega arith

cond_most : (t : Bool) (w b : ℕ) → w ≤ b → cond t w 0 ≤ b
cond_most true w b h = h
cond_most false w b h = omega arith

-- no weight exceeds the scale
pub rule_weight_most : (d : Draft) (i : ℕ) → rule_weight d i ≤ d.scale.0
rule_weight_most d i = cond_most (in_range 1 d.count i) _ _ (by_most (d.task (i - 1)).criticality _ _ (div-le_self d.scale.0 (d.task (i - 1)).period.0))
