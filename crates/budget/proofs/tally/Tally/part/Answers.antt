use Rattle.std.proofs.Common.{◌<◌, arith}
use Rattle.budget.specs.OfRules.{weights_of, longest_of}
use Rattle.budget.specs.Loads.{load_term}
use Rattle.budget.proofs.tally.Tally.part.Goals as goal

pub overflow_mul-result : goal.overflow_mul-result
overflow_mul-result c =
    let t = c.args.self.now in
    let few : c.args.k < 32 = omega (arith, t.weights.few, c.requires) in
    let small = load_term (weights_of t) (longest_of t) c.args.k few in
    record { fits = omega (arith, t.within) }
