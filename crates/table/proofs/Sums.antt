-- Laws of `sum`.
use Rattle.std.proofs.Common.{◌≡◌, ℕ, zero, suc, ◌+◌, ◌*◌, ◌<◌, ◌≤◌, refl, ap, add-one, arith}
use native.Mathlib.Decide.{ℕ_discrete}
use Rattle.table.specs.Sums.{sum}

pub sum_none : (f : ℕ → ℕ) → sum 0 f ≡ 0
unfolding sum
sum_none f = refl

pub sum_more : (n : ℕ) (f : ℕ → ℕ) → sum (n + 1) f ≡ sum n f + f n
unfolding sum
sum_more n f = rw (add-one n)

-- a sum that a loop makes, with the next term
pub sum_next : (n s x : ℕ) (f : ℕ → ℕ) → s ≡ sum n f → x ≡ f n → s + x ≡ sum (n + 1) f
sum_next n s x f e h = omega (arith, sum_more n f)

-- sums of equal terms are equal
pub sum_same : (n : ℕ) (f g : ℕ → ℕ) → ((k : ℕ) → k < n → f k ≡ g k) → sum n f ≡ sum n g
unfolding sum
sum_same zero f g e = refl
sum_same (suc n) f g e = omega (arith, sum_same n f g (λ k l. e k (omega (arith, l))), e n (omega arith))

-- a sum of n terms, each at most b
pub sum_at_most : (n b : ℕ) (f : ℕ → ℕ) → ((k : ℕ) → k < n → f k ≤ b) → sum n f ≤ n * b
unfolding sum
sum_at_most zero b f h = omega arith
sum_at_most (suc n) b f h = omega (arith, sum_at_most n b f (λ k l. h k (omega (arith, l))), h n (omega arith))

-- a sum of zeros
pub sum_zeros : (n : ℕ) (f : ℕ → ℕ) → ((k : ℕ) → k < n → f k ≡ 0) → sum n f ≡ 0
unfolding sum
sum_zeros zero f e = refl
sum_zeros (suc n) f e = omega (arith, sum_zeros n f (λ k l. e k (omega (arith, l))), e n (omega arith))

-- sums of smaller terms are smaller
pub sum_below : (n : ℕ) (f g : ℕ → ℕ) → ((k : ℕ) → k < n → f k ≤ g k) → sum n f ≤ sum n g
unfolding sum
sum_below zero f g h = omega arith
sum_below (suc n) f g h = omega (arith, sum_below n f g (λ k l. h k (omega (arith, l))), h n (omega arith))

-- a sum of fewer terms, with the next one, is at most the whole
pub sum_part : (n i : ℕ) (f : ℕ → ℕ) → i < n → sum i f + f i ≤ sum n f
unfolding sum
sum_part zero i f h = absurd (omega (arith, h))
sum_part (suc n) i f h =
    elim (ℕ_discrete i n) [
      | yes e ↦ rw e (omega arith)
      | no ne ↦ omega (arith, sum_part n i f (below i n h ne))
    ]
  where
    below : (i n : ℕ) → i < suc n → (i ≡ n → ⊥) → i < n
    below i n h ne = omega arith

-- terms that are 0 from n on add nothing
pub sum_tail : (m n : ℕ) (f : ℕ → ℕ) → n ≤ m → ((k : ℕ) → n ≤ k → f k ≡ 0) → sum m f ≡ sum n f
unfolding sum
sum_tail zero n f h e = let z : n ≡ 0 = omega arith in rw z
sum_tail (suc m) n f h e =
    elim (ℕ_discrete n (suc m)) [
      | yes q ↦ rw q
      | no ne ↦ omega (arith, sum_tail m n f (below n m h ne) e, e m (below n m h ne))
    ]
  where
    below : (n m : ℕ) → n ≤ suc m → (n ≡ suc m → ⊥) → n ≤ m
    below n m h ne = omega arith

-- two sums that differ at t alone
pub sum_swap : (n t : ℕ) (f g : ℕ → ℕ) → t < n → ((k : ℕ) → (k ≡ t → ⊥) → f k ≡ g k) → sum n f + g t ≡ sum n g + f t
unfolding sum
sum_swap zero t f g lt e = absurd (omega (arith, lt))
sum_swap (suc n) t f g lt e =
    elim (ℕ_discrete n t) [
      | yes q ↦
          let same : sum n f ≡ sum n g = sum_same n f g (λ k l. e k (λ p. omega (arith, p, q, l))) in
          let fq : f n ≡ f t = ap f q in
          let gq : g n ≡ g t = ap g q in
          omega (arith, same, fq, gq)
      | no ne ↦ omega (arith, sum_swap n t f g (below t n lt ne) e, e n ne)
    ]
  where
    below : (t n : ℕ) → t < suc n → (n ≡ t → ⊥) → t < n
    below t n h ne = omega arith
