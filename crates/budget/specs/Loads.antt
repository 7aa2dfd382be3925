-- Laws of the load.
use Rattle.std.specs.Prelude.{◌≡◌, ℕ, suc, ◌+◌, ◌*◌, ◌<◌, ◌≤◌, max, Bool, true, false, cond, ◌≢◌, ◌==◌, refl}
use Rattle.std.proofs.Common.{sym, ap, ◌∙◌, zero-mul, mul-zero, mul-le-mul_left, arith}
use Rattle.std.proofs.Math.Nat.{max-le}
use Rattle.std.proofs.Math.Decide.{ℕ_discrete}
use Rattle.std.proofs.lemmas.Bool.{eq-eqb, ne_eqb, cond-true, cond-false}
use Rattle.table.specs.Sums.{sum}
use Rattle.table.proofs.Sums.{sum_same, sum_below, sum_part, sum_tail, sum_swap, sum_zeros}
use Rattle.budget.specs.Meaning.{load, raised}
use Rattle.budget.specs.Rules.{others}

module _ (w l : ℕ → ℕ) where
  -- what slot k adds to the load of the tasks but t
  abbrev pub part : ℕ → ℕ → ℕ
  part t k = cond (suc k == t) 0 (w (suc k) * l (suc k))

  pub load_term : (k : ℕ) → k < 32 → w (suc k) * l (suc k) ≤ load w l
  load_term k h = omega (arith, sum_part 32 k (λ k. w (suc k) * l (suc k)) h)

  part_most : (t k : ℕ) → part t k ≤ w (suc k) * l (suc k)
  part_most t k = by (suc k == t)
    where
      by : (b : Bool) → cond b 0 (w (suc k) * l (suc k)) ≤ w (suc k) * l (suc k)
      by true = omega arith
      by false = omega arith

  pub others_most : (t : ℕ) → others w l t ≤ load w l
  others_most t = sum_below 32 (part t) (λ k. w (suc k) * l (suc k)) (λ k h. part_most t k)

  part_none : (t k : ℕ) → w (suc k) ≡ 0 → part t k ≡ 0
  part_none t k e = by (suc k == t)
    where
      by : (b : Bool) → cond b 0 (w (suc k) * l (suc k)) ≡ 0
      by true = refl
      by false = rw e (zero-mul (l (suc k)))

  -- tasks past the count add nothing
  pub others_counted : (n t : ℕ) → n ≤ 32 → ((k : ℕ) → n ≤ k → w (suc k) ≡ 0) → sum n (part t) ≡ others w l t
  others_counted n t h e = sym (sum_tail 32 n (part t) h (λ k m. part_none t k (e k m)))

  pub load_kept : (t : ℕ) → t < 32 → load w l ≡ others w l (suc t) + w (suc t) * l (suc t)
  load_kept t low =
      let F : ℕ → ℕ = λ k. w (suc k) * l (suc k) in
      let off : (k : ℕ) → (k ≢ t) → F k ≡ part (suc t) k = λ k ne. sym (cond-false (suc k == suc t) 0 (F k) (ne_eqb (suc k) (suc t) (λ e. ne (omega (arith, e))))) in
      let own : part (suc t) t ≡ 0 = cond-true (suc t == suc t) 0 (F t) (eq-eqb (suc t) (suc t) refl) in
      omega (arith, sum_swap 32 t F (part (suc t)) low off, own)

  pub load_raised : (t r : ℕ) → t < 32 → load w (raised l (suc t) r) ≡ others w l (suc t) + w (suc t) * max (l (suc t)) (r + 1)
  load_raised t r low =
      let up : ℕ = max (l (suc t)) (r + 1) in
      let F : ℕ → ℕ = λ k. w (suc k) * raised l (suc t) r (suc k) in
      let here : F t ≡ w (suc t) * up = ap (λ x. w (suc t) * x) (cond-true (suc t == suc t) up (l (suc t)) (eq-eqb (suc t) (suc t) refl)) in
      let apart : (k : ℕ) → (k ≢ t) → (suc k == suc t) ≡ false = λ k ne. ne_eqb (suc k) (suc t) (λ e. ne (omega (arith, e))) in
      let off : (k : ℕ) → (k ≢ t) → F k ≡ part (suc t) k =
      λ k ne. ap (λ x. w (suc k) * x) (cond-false (suc k == suc t) (max (l (suc k)) (r + 1)) (l (suc k)) (apart k ne)) ∙ sym (cond-false (suc k == suc t) 0 (w (suc k) * l (suc k)) (apart k ne)) in
      let own : part (suc t) t ≡ 0 = cond-true (suc t == suc t) 0 (w (suc t) * l (suc t)) (eq-eqb (suc t) (suc t) refl) in
      omega (arith, sum_swap 32 t F (part (suc t)) low off, own, here)

-- the load does not depend on how weights and runs are given
pub load_same : (w v l m : ℕ → ℕ) → ((i : ℕ) → w i ≡ v i) → ((i : ℕ) → l i ≡ m i) → load w l ≡ load v m
load_same w v l m e f = sum_same 32 _ _ (λ k h. rw (e (suc k), f (suc k)))

pub load_rested : (w l : ℕ → ℕ) → ((i : ℕ) → l i ≡ 0) → load w l ≡ 0
load_rested w l e = sum_zeros 32 _ (λ k h. rw (e (suc k)) (mul-zero (w (suc k))))

-- longer runs make a larger load
pub load_below : (w l m : ℕ → ℕ) → ((i : ℕ) → l i ≤ m i) → load w l ≤ load w m
load_below w l m h = sum_below 32 _ _ (λ k l. mul-le-mul_left (w (suc k)) (h (suc k)))

-- runs within limits stay so when one is raised below its limit
pub raised_within : (l c : ℕ → ℕ) (i r : ℕ) → ((k : ℕ) → l k ≤ c k) → r < c i → (k : ℕ) → raised l i r k ≤ c k
raised_within l c i r h low k =
    elim (ℕ_discrete k i) [
      | yes e ↦ rw e (rw (cond-true (i == i) (max (l i) (r + 1)) (l i) (eq-eqb i i refl)) (max-le (h i) (omega arith)))
      | no ne ↦ rw (cond-false (k == i) (max (l k) (r + 1)) (l k) (ne_eqb k i ne)) (h k)
    ]

-- tasks past the count add nothing
pub load_counted : (w l : ℕ → ℕ) (n : ℕ) → n ≤ 32 → ((k : ℕ) → n ≤ k → w (suc k) ≡ 0) → sum n (λ k. w (suc k) * l (suc k)) ≡ load w l
load_counted w l n h e = sym (sum_tail 32 n _ h (λ k m. rw (e k m) (zero-mul (l (suc k)))))
