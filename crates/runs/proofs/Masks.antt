-- A mask holds exactly the numbers of its set.
use Rattle.std.proofs.Common.{◌≡◌, ℕ, zero, suc, ◌+◌, ◌-◌, ◌^◌, ◌<◌, ◌≤◌, Bool, true, false, cond, eqb, ◌≢◌, refl, ap, ◌∙◌, add-one, arith}
use native.Mathlib.Decide.{ℕ_discrete}
use lib.Bits.{bit_or}
use Rattle.std.specs.Int.{bit_at}
use Rattle.std.proofs.lemmas.Nat.{pow_pos, pow_below, or_lt}
use Rattle.std.proofs.lemmas.Nat.Bits.{bit_at-lt, bit_at_or, bit_at-pow_same, bit_at-pow_other, bit_at_above}
use Rattle.runs.specs.Masks.{mask, in_mask}

-- a mask, number by number
pub mask_none : (set : ℕ → Bool) → mask 0 set ≡ 0
unfolding mask
mask_none set = refl

pub mask_more : (k : ℕ) (set : ℕ → Bool) → mask (k + 1) set ≡ cond (set (k + 1)) (bit_or (mask k set) (2 ^ k)) (mask k set)
unfolding mask
mask_more k set = rw (add-one k)

mark_own : (m s : ℕ) → bit_at (bit_or m (2 ^ s)) s ≡ 1
mark_own m s = omega (arith, bit_at_or m (2 ^ s) s, bit_at-pow_same s, bit_at-lt m s)

mark_other : (m s k : ℕ) → k ≢ s → bit_at (bit_or m (2 ^ s)) k ≡ bit_at m k
mark_other m s k ne = omega (arith, bit_at_or m (2 ^ s) k, bit_at-pow_other s k ne)

pub mask_small : (n : ℕ) (set : ℕ → Bool) → mask n set < 2 ^ n
unfolding mask
mask_small zero set = omega (arith, pow_pos 0)
mask_small (suc k) set = go (set (suc k)) (omega (arith, mask_small k set, pow_below k (suc k) (omega arith)))
  where
    go : (b : Bool) → mask k set < 2 ^ suc k → cond b (bit_or (mask k set) (2 ^ k)) (mask k set) < 2 ^ suc k
    go true less = or_lt (suc k) (mask k set) (2 ^ k) less (pow_below k (suc k) (omega arith))
    go false less = less

digit : Bool → ℕ
digit b = cond b 1 0

bits : (n : ℕ) (set : ℕ → Bool) (k : ℕ) → k < n → bit_at (mask n set) k ≡ digit (set (suc k))
unfolding mask digit
bits zero set k h = absurd (omega arith)
bits (suc n) set k h =
    elim (ℕ_discrete k n) [
      | yes e ↦ rw e (own (set (suc n)))
      | no ne ↦ other (set (suc n)) ne ∙ bits n set k (omega arith)
    ]
  where
    own : (b : Bool) → bit_at (cond b (bit_or (mask n set) (2 ^ n)) (mask n set)) n ≡ cond b 1 0
    own true = mark_own (mask n set) n
    own false = bit_at_above (mask n set) n n (mask_small n set) (omega arith)

    other : (b : Bool) → k ≢ n → bit_at (cond b (bit_or (mask n set) (2 ^ n)) (mask n set)) k ≡ bit_at (mask n set) k
    other true ne = mark_other (mask n set) n k ne
    other false ne = refl

digit_is : (b : Bool) → eqb (digit b) 1 ≡ b
unfolding digit
digit_is true = refl
digit_is false = refl

pub in_mask_is : (n : ℕ) (set : ℕ → Bool) (i : ℕ) → 1 ≤ i → i ≤ n → in_mask (mask n set) i ≡ set i
unfolding in_mask
in_mask_is n set zero lo hi = absurd (omega arith)
in_mask_is n set (suc k) lo hi =
    let e : suc k - 1 ≡ k = omega arith in
    rw e (ap (λ x. eqb x 1) (bits n set k hi) ∙ digit_is (set (suc k)))

pub in_mask_above : (n m i : ℕ) → m < 2 ^ n → n < i → in_mask m i ≡ false
unfolding in_mask
in_mask_above n m i h l = ap (λ x. eqb x 1) (bit_at_above m n (i - 1) h (omega arith))
