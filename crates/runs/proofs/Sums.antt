-- Sums below n: bounds, equality, one point raised by one.
use Rattle.std.proofs.Common.{◌≡◌, ℕ, zero, suc, ◌+◌, ◌*◌, ◌<◌, ◌≤◌, cond, eqb, ◌≢◌, refl, arith}
use native.Mathlib.Decide.{ℕ_discrete}
use Rattle.std.proofs.lemmas.Bool.{eq-eqb, ne_eqb}
use Rattle.table.specs.Sums.{sum}
pub use Rattle.table.proofs.Sums.{sum_same}

-- one point raised by one
pub sum_bump : (n : ℕ) (f g : ℕ → ℕ) (i : ℕ) → i < n → g i ≡ f i + 1 → ((j : ℕ) → j < n → j ≢ i → g j ≡ f j) → sum n g ≡ sum n f + 1
unfolding sum
sum_bump zero f g i l at off = omega arith
sum_bump (suc k) f g i l at off =
    elim (ℕ_discrete i k) [
      | yes e ↦
          let below = sum_same k g f (λ j m. off j (omega arith) (omega arith)) in
          let here : g k ≡ f k + 1 = rw e at at in
          omega arith
      | no ne ↦
          let below = sum_bump k f g i (omega arith) at (λ j m. off j (omega arith)) in
          omega (arith, off k (omega arith) (omega arith))
    ]

-- a bound of the terms by three others is one of the sums
pub sum_bound : (n P α β γ : ℕ) (m a b c : ℕ → ℕ) → ((i : ℕ) → i < n → P * m i ≤ α * a i + β * b i + γ * c i) → P * sum n m ≤ α * sum n a + β * sum n b + γ * sum n c
unfolding sum
sum_bound zero P α β γ m a b c h = omega arith
sum_bound (suc k) P α β γ m a b c h =
    let below = sum_bound k P α β γ m a b c (λ i l. h i (omega arith)) in
    omega (arith, h k (omega arith))

pub sum_add : (n : ℕ) (h f g : ℕ → ℕ) → ((i : ℕ) → i < n → h i ≡ f i + g i) → sum n h ≡ sum n f + sum n g
unfolding sum
sum_add zero h f g e = refl
sum_add (suc k) h f g e =
    let below = sum_add k h f g (λ i l. e i (omega arith)) in
    omega (arith, e k (omega arith))

-- f raised by one at i
pub bump : (ℕ → ℕ) → ℕ → ℕ → ℕ
bump f i j = cond (eqb j i) (f j + 1) (f j)

pub bump_own : (f : ℕ → ℕ) (i : ℕ) → bump f i i ≡ f i + 1
unfolding bump
bump_own f i = rw (eq-eqb i i refl)

pub bump_other : (f : ℕ → ℕ) (i j : ℕ) → j ≢ i → bump f i j ≡ f j
unfolding bump
bump_other f i j ne = rw (ne_eqb j i ne)
