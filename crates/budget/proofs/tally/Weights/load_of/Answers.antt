use Rattle.std.proofs.Common.{◌≡◌, ℕ, suc, ◌*◌, ◌≤◌, sym, ap, ◌∙◌, mul-le-mul, arith}
use Rattle.table.specs.Sums.{sum}
use Rattle.table.proofs.Sums.{sum_none, sum_more}
use Rattle.budget.specs.Slots.{weight_in, ticks_in}
use Rattle.budget.specs.Loads.{load_counted}
use Rattle.budget.proofs.tally.Weights.load_of.Goals as goal

pub overflow_mul-sum : goal.overflow_mul-sum
overflow_mul-sum c =
    let k = c.loop-k.k in
    let small : weight_in c.args.self.now.by_slot (suc k) * ticks_in c.args.runs.now (suc k) ≤ 1000000 * 100000 = mul-le-mul (c.requires.weights (suc k)) (c.requires.runs (suc k)) in
    record { fits = omega arith }

pub overflow_add-sum : goal.overflow_add-sum
overflow_add-sum c =
    let k = c.loop-k.k in
    let small : weight_in c.args.self.now.by_slot (suc k) * ticks_in c.args.runs.now (suc k) ≤ 1000000 * 100000 = mul-le-mul (c.requires.weights (suc k)) (c.requires.runs (suc k)) in
    record { fits = omega (arith, c.loop-k.invariant.1, c.args.self.now.few) }

pub loop-k-init : goal.loop-k-init
loop-k-init c = (sym (sum_none _), omega arith)

pub loop-k-preserved : goal.loop-k-preserved
loop-k-preserved c =
    let k = c.loop-k.k in
    let F : ℕ → ℕ = λ k. weight_in c.args.self.now.by_slot (suc k) * ticks_in c.args.runs.now (suc k) in
    let small : F k ≤ 1000000 * 100000 = mul-le-mul (c.requires.weights (suc k)) (c.requires.runs (suc k)) in
    (omega (arith, c.loop-k.invariant.0, sum_more k F), omega (arith, c.loop-k.invariant.1))

pub returns : goal.returns
returns c =
    let t = c.args.self.now in
    let all : c.loop-k.k ≡ t.count = omega arith in
    let F : ℕ → ℕ = λ k. weight_in t.by_slot (suc k) * ticks_in c.args.runs.now (suc k) in
    c.loop-k.invariant.0 ∙ ap (λ n. sum n F) all ∙ load_counted (weight_in t.by_slot) (ticks_in c.args.runs.now) t.count t.few t.absent
