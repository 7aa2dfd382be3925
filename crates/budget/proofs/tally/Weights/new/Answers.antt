use Rattle.std.proofs.Common.{suc, ◌∙◌, arith}
use Rattle.table.specs.Tables.{draft_of}
use Rattle.table.proofs.Tables.{table_accepted}
use Rattle.budget.proofs.Weighing.{rule_weight_past}
use Rattle.budget.proofs.tally.Weights.new.Goals as goal

pub invariant_of-result : goal.invariant_of-result
invariant_of-result c =
    let t = c.args.table.now in
    record {
      few = omega (arith, (table_accepted t).few, c.count.ensures);
      absent = λ k h. c.rule_weights.ensures (suc k) ∙ rule_weight_past (draft_of t) k (omega (arith, c.count.ensures));
    }
