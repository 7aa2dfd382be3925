-- Laws of `bit`.
use Rattle.std.proofs.Common.{◌≡◌, ℕ, zero, suc, ◌+◌, ◌-◌, ◌/◌, ◌%◌, ◌^◌, ◌<◌, ◌≤◌, Bool, true, false, cond, not, ◌&&◌, ◌||◌, eqb, ◌≢◌, sym, refl, ap, ◌∙◌, mod-lt, pow-suc, min, max, arith}
use native.Mathlib.Decide.{dec_le, ℕ_discrete}
use lib.Bits.{bit_and, bit_or}
use lib.Count.{count_trailing_zeros, under, ones, ones_step, ones-le}
use Rattle.std.specs.Int.{bit_at}
use Rattle.std.proofs.lemmas.Nat.{pow_pos, pow_below}
use Rattle.std.proofs.lemmas.Nat.Bits.{bit_at_lowest, bit_at-suc, bit_at-zero, bit_at-lt, bit_at_above, bit_at_and, bit_at_or, bit_at-pow_same, bit_at-pow_other, same_from_bits_below}
use Rattle.std.proofs.lemmas.Bool.{ne_eqb, eq-eqb}
use Rattle.std.proofs.lemmas.Bool.Decides.{nat_tests}
use Rattle.table.specs.Sums.{sum}
use Rattle.order.specs.Bits.{bit, count}

pub bit_first : (m : ℕ) → bit m 0 ≡ eqb (m % 2) 1
unfolding bit
bit_first m = ap (λ x. eqb x 1) (bit_at_lowest m)

pub bit_half : (m j : ℕ) → bit m (suc j) ≡ bit (m / 2) j
unfolding bit
bit_half m j = ap (λ x. eqb x 1) (bit_at-suc m j)

pub bit_none : (j : ℕ) → bit 0 j ≡ false
unfolding bit
bit_none j = ap (λ x. eqb x 1) (bit_at-zero j)

-- no bit is set at or above the width
pub bit_above : (n m k : ℕ) → m < 2 ^ n → n ≤ k → bit m k ≡ false
unfolding bit
bit_above n m k h l = ap (λ x. eqb x 1) (bit_at_above m n k h l)

pub bit_of_and : (a b k : ℕ) → bit (bit_and a b) k ≡ (bit a k && bit b k)
unfolding bit
bit_of_and a b k = ap (λ x. eqb x 1) (bit_at_and a b k) ∙ by (bit_at a k) (bit_at b k) (bit_at-lt a k) (bit_at-lt b k)
  where
    by : (x y : ℕ) → x < 2 → y < 2 → eqb (min x y) 1 ≡ (eqb x 1 && eqb y 1)
    by x y h l = grind (arith, nat_tests)

pub bit_of_or : (a b k : ℕ) → bit (bit_or a b) k ≡ (bit a k || bit b k)
unfolding bit
bit_of_or a b k = ap (λ x. eqb x 1) (bit_at_or a b k) ∙ by (bit_at a k) (bit_at b k) (bit_at-lt a k) (bit_at-lt b k)
  where
    by : (x y : ℕ) → x < 2 → y < 2 → eqb (max x y) 1 ≡ (eqb x 1 || eqb y 1)
    by x y h l = grind (arith, nat_tests)

-- a bit alone
pub bit_power : (s k : ℕ) → bit (2 ^ s) k ≡ eqb k s
unfolding bit
bit_power s k = elim (ℕ_discrete k s) [
  | yes e ↦ rw (eq-eqb k s e, e) (ap (λ x. eqb x 1) (bit_at-pow_same s))
  | no ne ↦ rw (ne_eqb k s ne) (ap (λ x. eqb x 1) (bit_at-pow_other s k ne))
]

-- the other bits of a word of w
pub bit_not : (w m k : ℕ) → m < 2 ^ w → k < w → bit (2 ^ w - 1 - m) k ≡ not (bit m k)
bit_not zero m k h l = absurd (omega (arith, l))
bit_not (suc w) m zero h l =
    bit_first (2 ^ suc w - 1 - m) ∙ flip (m % 2) (mod-lt m (omega arith)) (omega (arith, pow-suc 2 w, h)) ∙ ap not (sym (bit_first m))
  where
    flip : (d : ℕ) → d < 2 → (2 ^ suc w - 1 - m) % 2 ≡ 1 - d → eqb ((2 ^ suc w - 1 - m) % 2) 1 ≡ not (eqb d 1)
    flip zero l e = ap (λ x. eqb x 1) e
    flip (suc zero) l e = ap (λ x. eqb x 1) e
    flip (suc (suc d)) l e = absurd (omega arith)
bit_not (suc w) m (suc k) h l =
    let e : (2 ^ suc w - 1 - m) / 2 ≡ 2 ^ w - 1 - m / 2 = omega (arith, pow-suc 2 w, h) in
    bit_half (2 ^ suc w - 1 - m) k ∙ ap (λ x. bit x k) e ∙ bit_not w (m / 2) k (omega (arith, pow-suc 2 w, h)) (omega (arith, l)) ∙ ap not (sym (bit_half m k))

-- a bit set, and a bit of a word of w cleared
pub bit_with : (m s k : ℕ) → bit (bit_or m (2 ^ s)) k ≡ (bit m k || eqb k s)
bit_with m s k = bit_of_or m (2 ^ s) k ∙ ap (λ b. bit m k || b) (bit_power s k)

pub bit_without : (w m s k : ℕ) → m < 2 ^ w → s < w → bit (bit_and m (2 ^ w - 1 - 2 ^ s)) k ≡ (bit m k && not (eqb k s))
bit_without w m s k h l = bit_of_and m (2 ^ w - 1 - 2 ^ s) k ∙ elim (dec_le w k) [
  | yes a ↦ rw (bit_above w m k h a)
  | no a ↦ rw (bit_not w (2 ^ s) k (pow_below s w l) (omega arith), bit_power s k)
]

-- a word of w has no bit at or above w to clear
pub bit_without_none : (w m s k : ℕ) → m < 2 ^ w → w ≤ s → bit m k ≡ (bit m k && not (eqb k s))
bit_without_none w m s k h l = elim (ℕ_discrete k s) [
  | yes e ↦ let none : bit m k ≡ false = bit_above w m k h (omega arith) in rw none
  | no ne ↦ let apart : eqb k s ≡ false = ne_eqb k s ne in rw apart (kept (bit m k))
]
  where
    kept : (b : Bool) → b ≡ (b && true)
    kept true = refl
    kept false = refl

-- a number is known by its bits
pub bits_same : (w a b : ℕ) → a < 2 ^ w → b < 2 ^ w → ((k : ℕ) → k < w → bit a k ≡ bit b k) → a ≡ b
unfolding bit
bits_same w a b h l f = same_from_bits_below w a b h l (λ k i. by (bit_at a k) (bit_at b k) (bit_at-lt a k) (bit_at-lt b k) (f k i))
  where
    by : (x y : ℕ) → x < 2 → y < 2 → eqb x 1 ≡ eqb y 1 → x ≡ y
    by x y h l e = grind (arith, nat_tests)

pub bits_none : (w m : ℕ) → m < 2 ^ w → ((k : ℕ) → k < w → bit m k ≡ false) → m ≡ 0
bits_none w m h f = bits_same w m 0 h (pow_pos w) (λ k l. f k l ∙ sym (bit_none k))

-- the lowest bit that is set
pub lowest_set : (w m : ℕ) → m < 2 ^ w → m ≢ 0 → (bit m (count_trailing_zeros w m) ≡ true) × (count_trailing_zeros w m < w)
unfolding count_trailing_zeros
lowest_set zero m h ne = absurd (ne (omega (arith, h)))
lowest_set (suc w) m h ne = by_digit (m % 2) refl (mod-lt m (omega arith)) (lowest_set w (m / 2) (omega (arith, pow-suc 2 w, h)))
  where
    by_digit : (d : ℕ) → m % 2 ≡ d → d < 2 → (m / 2 ≢ 0 → (bit (m / 2) (count_trailing_zeros w (m / 2)) ≡ true) × (count_trailing_zeros w (m / 2) < w))
        → (bit m (under d (count_trailing_zeros w (m / 2))) ≡ true) × (under d (count_trailing_zeros w (m / 2)) < suc w)
    by_digit zero e l f =
        let low = f (λ z. ne (omega (arith, e, z))) in
        (bit_half m (count_trailing_zeros w (m / 2)) ∙ low.0, omega (arith, low.1))
    by_digit (suc zero) e l f = (bit_first m ∙ ap (λ x. eqb x 1) e, omega arith)
    by_digit (suc (suc d)) e l f = absurd (omega (arith, l))

-- no bit below it is set
pub lowest_none : (w m k : ℕ) → k < count_trailing_zeros w m → bit m k ≡ false
unfolding count_trailing_zeros
lowest_none zero m k h = absurd (omega (arith, h))
lowest_none (suc w) m zero h = by_digit (m % 2) refl h
  where
    by_digit : (d : ℕ) → m % 2 ≡ d → 0 < under d (count_trailing_zeros w (m / 2)) → bit m 0 ≡ false
    by_digit zero e l = bit_first m ∙ ap (λ x. eqb x 1) e
    by_digit (suc d) e l = absurd (omega (arith, l))
lowest_none (suc w) m (suc k) h = bit_half m k ∙ lowest_none w (m / 2) k (by_digit (m % 2) h)
  where
    by_digit : (d : ℕ) → suc k < under d (count_trailing_zeros w (m / 2)) → k < count_trailing_zeros w (m / 2)
    by_digit zero l = omega (arith, l)
    by_digit (suc d) l = absurd (omega (arith, l))

eqb_suc : (a b : ℕ) → eqb (suc a) (suc b) ≡ eqb a b
eqb_suc a b = grind (arith, nat_tests)

-- m - 1 has the bits of m above the lowest, and not the lowest
less_one : (w m k : ℕ) → m < 2 ^ w → m ≢ 0 → (bit m k && bit (m - 1) k) ≡ (bit m k && not (eqb k (count_trailing_zeros w m)))
unfolding count_trailing_zeros
less_one zero m k h ne = absurd (ne (omega (arith, h)))
less_one (suc w) m k h ne = by_digit (m % 2) refl (mod-lt m (omega arith)) k (λ j. less_one w (m / 2) j (omega (arith, pow-suc 2 w, h)))
  where
    by_digit : (d : ℕ) → m % 2 ≡ d → d < 2 → (k : ℕ)
        → ((j : ℕ) → m / 2 ≢ 0 → (bit (m / 2) j && bit (m / 2 - 1) j) ≡ (bit (m / 2) j && not (eqb j (count_trailing_zeros w (m / 2)))))
        → (bit m k && bit (m - 1) k) ≡ (bit m k && not (eqb k (under d (count_trailing_zeros w (m / 2)))))
    by_digit zero e l zero f = let low : bit m 0 ≡ false = bit_first m ∙ ap (λ x. eqb x 1) e in rw low
    by_digit zero e l (suc j) f =
        let halves : (m - 1) / 2 ≡ m / 2 - 1 = omega (arith, e) in
        let here : bit (m - 1) (suc j) ≡ bit (m / 2 - 1) j = bit_half (m - 1) j ∙ ap (λ x. bit x j) halves in
        rw (bit_half m j, here, eqb_suc j (count_trailing_zeros w (m / 2))) (f j (λ z. ne (omega (arith, e, z))))
    by_digit (suc zero) e l zero f =
        let even : (m - 1) % 2 ≡ 0 = omega (arith, e) in
        let low : bit (m - 1) 0 ≡ false = bit_first (m - 1) ∙ ap (λ x. eqb x 1) even in rw low
    by_digit (suc zero) e l (suc j) f =
        let halves : (m - 1) / 2 ≡ m / 2 = omega (arith, e) in
        let here : bit (m - 1) (suc j) ≡ bit (m / 2) j = bit_half (m - 1) j ∙ ap (λ x. bit x j) halves in
        let apart : eqb (suc j) 0 ≡ false = ne_eqb (suc j) 0 (λ q. omega (arith, q)) in
        rw (bit_half m j, here, apart) (twice (bit (m / 2) j))
      where
        twice : (b : Bool) → (b && b) ≡ (b && true)
        twice true = refl
        twice false = refl
    by_digit (suc (suc d)) e l k f = absurd (omega (arith, l))

pub bit_without_lowest : (w m k : ℕ) → m < 2 ^ w → m ≢ 0 → bit (bit_and m (m - 1)) k ≡ (bit m k && not (eqb k (count_trailing_zeros w m)))
bit_without_lowest w m k h ne = bit_of_and m (m - 1) k ∙ less_one w m k h ne

-- how many bits are set
sum_first : (n : ℕ) (f : ℕ → ℕ) → sum (suc n) f ≡ f 0 + sum n (λ k. f (suc k))
unfolding sum
sum_first zero f = omega arith
sum_first (suc n) f = omega (arith, sum_first n f)

sum_same : (n : ℕ) (f g : ℕ → ℕ) → ((k : ℕ) → f k ≡ g k) → sum n f ≡ sum n g
unfolding sum
sum_same zero f g e = refl
sum_same (suc n) f g e = omega (arith, sum_same n f g e, e n)

pub ones_count : (w m : ℕ) → m < 2 ^ w → ones m ≡ count w (bit m)
unfolding sum
ones_count zero m h = let z : m ≡ 0 = omega (arith, h) in rw z none
  where
    none : ones 0 ≡ 0
    none = omega (arith, ones-le 0 0 (pow_pos 0))
ones_count (suc w) m h =
    let digit : m % 2 ≡ cond (bit m 0) 1 0 = rw (bit_first m) (value (m % 2) (mod-lt m (omega arith))) in
    let rest : count w (bit (m / 2)) ≡ sum w (λ k. cond (bit m (suc k)) 1 0) = sum_same w _ _ (λ k. ap (λ b. cond b 1 0) (sym (bit_half m k))) in
    omega (arith, ones_step m, ones_count w (m / 2) (omega (arith, pow-suc 2 w, h)), sum_first w (λ k. cond (bit m k) 1 0), digit, rest)
  where
    value : (d : ℕ) → d < 2 → d ≡ cond (eqb d 1) 1 0
    value zero l = refl
    value (suc zero) l = refl
    value (suc (suc d)) l = absurd (omega (arith, l))
