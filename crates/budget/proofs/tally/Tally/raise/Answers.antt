use Rattle.std.proofs.Common.{◌≡◌, ℕ, ◌-◌, set, refl, arith, rules}
use Rattle.budget.specs.Loads.{load_same}
use Rattle.budget.specs.Meaning.{raised}
use Rattle.budget.specs.OfRules.{weights_of, longest_of}
use Rattle.budget.specs.Slots.{ticks_in}
use Rattle.budget.proofs.tally.Tally.raise.Goals as goal

pub invariant_of-self : goal.invariant_of-self
invariant_of-self c =
    let t = c.args.self.now in
    let up : (k : ℕ) → ticks_in (set t.longest (c.args.task - 1) c.max.result) k ≡ raised (longest_of t) c.args.task c.args.run.0 k = search rules in
    let same = load_same (weights_of t) (weights_of t) _ (raised (longest_of t) c.args.task c.args.run.0) (λ i. refl) up in
    record { within = omega (arith, same, c.requires.fits) }
