-- Lists with blank items behind them.
use Rattle.std.proofs.Common.{◌≡◌, ℕ, zero, suc, List, [], ◌∷◌, ◌++◌, get_or, replicate, refl}

module _ {A : Type 0} (blank : A) where
  pub blanks : (n k : ℕ) → get_or (replicate n blank) k blank ≡ blank
  blanks zero k = refl
  blanks (suc n) zero = refl
  blanks (suc n) (suc k) = blanks n k

  -- blank items behind a list change no slot
  pub behind : (xs ys : List A) → ((k : ℕ) → get_or ys k blank ≡ blank) → (k : ℕ) → get_or (xs ++ ys) k blank ≡ get_or xs k blank
  behind [] ys h k = h k
  behind (x ∷ xs) ys h zero = refl
  behind (x ∷ xs) ys h (suc k) = behind xs ys h k
