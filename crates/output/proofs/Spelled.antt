-- Digits written from the last to the first.
use Rattle.std.proofs.Common.{◌≡◌, ℕ, suc, ◌+◌, ◌/◌, ◌%◌, ◌^◌, ◌<◌, ◌≤◌, List, [], ◌∷◌, ◌++◌, length, get_or, take, drop, set, decimal, refl, ap, ◌∙◌, append_assoc, add-zero, arith, length-append}
use Rattle.std.proofs.lemmas.Fmt.{decimal_step, decimal_digit}
use Rattle.std.proofs.lemmas.List.{length_push, length-take-le, take_more, take-append-drop, set-append_left, set_at, drop_at}
use Rattle.output.specs.Written.{over}

pub decimal_shorter : (n : ℕ) → 10 ≤ n → n < 2 ^ 64 → length (decimal n) ≡ length (decimal (n / 10)) + 1
decimal_shorter n h k = ap length (decimal_step n h k) ∙ length_push (decimal (n / 10)) (48 + n % 10)

pub decimal_one : (n : ℕ) → n < 10 → length (decimal n) ≡ 1
decimal_one n h = ap length (decimal_digit n h)

-- nothing written
pub over_nothing : (at : ℕ) (xs : List ℕ) → over at [] xs ≡ xs
over_nothing at xs = rw add-zero (take-append-drop at xs)

-- one more byte in front
pub set_over : (m : ℕ) (w xs : List ℕ) (d : ℕ) → m < length xs → set (over (m + 1) w xs) m d ≡ over m (d ∷ w) xs
set_over m w xs d h =
    let T = w ++ drop (m + 1 + length w) xs in
    let short : length (take (m + 1) xs) ≡ m + 1 = length-take-le (m + 1) xs (omega arith) in
    let front : set (take (m + 1) xs) m d ≡ take m xs ++ (d ∷ []) =
    rw (take_more xs m 0 h) (set_at (take m xs) (get_or xs m 0) [] d m (length-take-le m xs (omega arith))) in
    let e : m + 1 + length w ≡ m + suc (length w) = omega arith in
    set-append_left (take (m + 1) xs) T m d (omega arith) ∙ rw front (append_assoc (take m xs) (d ∷ []) T) ∙ ap (λ k. take m xs ++ (d ∷ (w ++ drop k xs))) e

-- D is written but for the digits of n; then but for those of n / 10
module _ (n : ℕ) (D : List ℕ) (is : D ≡ decimal n ++ drop (length (decimal n)) D) where
  abbrev tail : List ℕ
  tail = drop (length (decimal n)) D

  module _ (h : 10 ≤ n) (k : n < 2 ^ 64) where
    pub whole : D ≡ decimal (n / 10) ++ ((48 + n % 10) ∷ drop (length (decimal n)) D)
    whole = is ∙ ap (λ xs. xs ++ tail) (decimal_step n h k) ∙ append_assoc (decimal (n / 10)) ((48 + n % 10) ∷ []) tail

    pub behind : drop (length (decimal (n / 10))) D ≡ (48 + n % 10) ∷ drop (length (decimal n)) D
    behind = ap (drop (length (decimal (n / 10)))) whole ∙ drop_at (decimal (n / 10)) ((48 + n % 10) ∷ tail) (length (decimal (n / 10))) refl

  pub last : n < 10 → D ≡ (48 + n) ∷ drop (length (decimal n)) D
  last h = is ∙ ap (λ xs. xs ++ tail) (decimal_digit n h)

pub front_length : (D a b : List ℕ) → D ≡ a ++ b → length a ≤ length D
front_length D a b e = omega (arith, simp length-append at (ap length e))
