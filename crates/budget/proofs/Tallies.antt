-- A tally has no weight outside 1 to 32.
use Rattle.std.proofs.Common.{◌≡◌, ℕ, zero, suc, ◌<◌, ◌≤◌, Bool, true, false, cond, eqb, refl, ap, arith}
use native.Mathlib.Decide.{dec_le}
use Rattle.std.proofs.lemmas.Bool.{eq-eqb, cond-true}
use Rattle.budget.specs.declared.tally.Tally.{Tally}
use Rattle.budget.specs.declared.tally.Weights.{Weights}
use Rattle.budget.specs.OfRules.{weights_of}
use Rattle.budget.specs.Rules.{shared_says}
use Rattle.budget.specs.Slots.{weight_in}

pub zeroth : (t : Tally) (i : ℕ) → i ≡ 0 → weights_of t i ≡ 0
zeroth t i e = rw e

pub above : (t : Tally) (i : ℕ) → 32 < i → weights_of t i ≡ 0
above t zero h = refl
above t (suc k) h = t.weights.absent k (omega (arith, t.weights.few, h))

-- a task that is told yes has a weight, and so a number from 1 to 32
pub known : (t : Tally) (i : ℕ) (b : Bool) → cond (eqb (weights_of t i) 0) false b ≡ true → (1 ≤ i) × (i ≤ 32)
known t i b e = (low i refl, high)
  where
    never : weights_of t i ≡ 0 → ⊥
    never z =
        let no : cond (eqb (weights_of t i) 0) false b ≡ false = cond-true (eqb (weights_of t i) 0) false b (eq-eqb (weights_of t i) 0 z) in
        cc

    low : (j : ℕ) → i ≡ j → 1 ≤ i
    low zero p = absurd (never (zeroth t i p))
    low (suc j) p = omega arith

    high : i ≤ 32
    high = elim (dec_le i 32) [ yes h ↦ h | no h ↦ absurd (never (above t i (omega arith))) ]

-- the shared yes set at given longest runs is that of the weights
abbrev pub shared_by : Weights → (ℕ → ℕ) → ℕ → ℕ → Bool
shared_by ws longest = shared_says (weight_in ws.by_slot) ws.total.0 longest

pub shared_kept : (t u : Tally) → u.weights ≡ t.weights → shared_by u.weights ≡ shared_by t.weights
shared_kept t u e = ap shared_by e
