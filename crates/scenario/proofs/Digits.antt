-- The value of a field of digits.
use Rattle.std.proofs.Common.{◌≡◌, ℕ, ◌+◌, ◌-◌, ◌*◌, ◌^◌, ◌<◌, ◌≤◌, Bool, true, false, cond, not, ◌&&◌, ◌||◌, eqb, leb, ◌⊎◌, List, length, get_or, drop, Some, None, refl, inl, inr, arith}
use native.Mathlib.Nat.{pow-le-pow_right}
use Rattle.std.proofs.lemmas.List.{drop_more}
use Rattle.std.proofs.lemmas.Bool.{le-leb, lt-leb, eq-eqb, ne_eqb}
use Rattle.scenario.specs.Numbers.{in_range, all_digits, reading, value}

-- one digit more than eight still fits a `u32`
pub eight_digits : (i : ℕ) → i ≤ 8 → 10 ^ i ≤ 100000000
eight_digits i h = pow-le-pow_right (omega arith) h

pub inside : (low high n : ℕ) → low ≤ n → n ≤ high → in_range low high n ≡ true
inside low high n h k = rw (le-leb low n h, le-leb n high k)

pub outside : (low high n : ℕ) → (n < low) ⊎ (high < n) → in_range low high n ≡ false
outside low high n (inl h) = rw (lt-leb low n h)
outside low high n (inr h) = rw (lt-leb n high h) (go (leb low n))
  where
    go : (b : Bool) → (b && false) ≡ false
    go true = refl
    go false = refl

module _ (ds : List ℕ) (i : ℕ) (h : i < length ds) where
  pub digits_more : 48 ≤ get_or ds i 0 → get_or ds i 0 ≤ 57 → all_digits (drop i ds) ≡ all_digits (drop (i + 1) ds)
  digits_more l k = rw (drop_more ds i 0 h, inside 48 57 (get_or ds i 0) l k)

  pub digits_not : (get_or ds i 0 < 48) ⊎ (57 < get_or ds i 0) → all_digits (drop i ds) ≡ false
  digits_not o = rw (drop_more ds i 0 h, outside 48 57 (get_or ds i 0) o)

  pub reading_more : (n : ℕ) → reading n (drop i ds) ≡ reading (n * 10 + (get_or ds i 0 - 48)) (drop (i + 1) ds)
  reading_more n = rw (drop_more ds i 0 h)

module _ (bs : List ℕ) where
  pub value_none : all_digits bs ≡ false → value bs ≡ None
  value_none e = rw e (go (in_range 1 9 (length bs)) (not (eqb (get_or bs 0 0) 48) || leb (length bs) 1))
    where
      go : (x y : Bool) → cond (x && y && false) (Some (reading 0 bs)) None ≡ None
      go true true = refl
      go true false = refl
      go false true = refl
      go false false = refl

  pub value_some : 1 ≤ length bs → length bs ≤ 9 → ((get_or bs 0 0 ≡ 48) × (length bs ≤ 1)) ⊎ (get_or bs 0 0 ≡ 48 → ⊥) → all_digits bs ≡ true → value bs ≡ Some (reading 0 bs)
  value_some l k front e = rw (inside 1 9 (length bs) l k, e, go front)
    where
      go : ((get_or bs 0 0 ≡ 48) × (length bs ≤ 1)) ⊎ (get_or bs 0 0 ≡ 48 → ⊥) → (not (eqb (get_or bs 0 0) 48) || leb (length bs) 1) ≡ true
      go (inl p) = rw (eq-eqb (get_or bs 0 0) 48 p.0, le-leb (length bs) 1 p.1)
      go (inr n) = rw (ne_eqb (get_or bs 0 0) 48 n)
