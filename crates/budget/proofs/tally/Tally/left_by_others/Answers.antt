use Rattle.std.proofs.Common.{◌≡◌, ◌<◌, ap, arith}
use Rattle.table.specs.Sums.{sum}
use Rattle.table.proofs.Sums.{sum_none, sum_more, sum_part}
use Rattle.budget.specs.OfRules.{weights_of, longest_of}
use Rattle.budget.specs.Loads.{part, others_most, others_counted}
use Rattle.budget.proofs.tally.Tally.left_by_others.Goals as goal

pub overflow_sub-left : goal.overflow_sub-left
overflow_sub-left c =
    let t = c.args.self.now in
    let few : c.loop-k.k < 32 = omega (arith, t.weights.few) in
    let whole = sum_part 32 c.loop-k.k (part (weights_of t) (longest_of t) c.args.task) few in
    let most = others_most (weights_of t) (longest_of t) c.args.task in
    omega (arith, t.within, c.loop-k.invariant, c.part-left.ensures)

pub loop-k-init : goal.loop-k-init
loop-k-init c = let t = c.args.self.now in omega (arith, sum_none (part (weights_of t) (longest_of t) c.args.task))

pub loop-k-preserved : goal.loop-k-preserved
loop-k-preserved c =
    let t = c.args.self.now in
    let few : c.loop-k.k < 32 = omega (arith, t.weights.few) in
    let F = part (weights_of t) (longest_of t) c.args.task in
    let whole = sum_part 32 c.loop-k.k F few in
    let most = others_most (weights_of t) (longest_of t) c.args.task in
    omega (arith, t.within, c.loop-k.invariant, c.part-left.ensures, sum_more c.loop-k.k F)

pub returns : goal.returns
returns c =
    let t = c.args.self.now in
    let all : c.loop-k.k ≡ t.weights.count = omega arith in
    let whole = ap (λ n. sum n (part (weights_of t) (longest_of t) c.args.task)) all in
    let rest = others_counted (weights_of t) (longest_of t) t.weights.count c.args.task t.weights.few t.weights.absent in
    omega (arith, c.loop-k.invariant, whole, rest)
