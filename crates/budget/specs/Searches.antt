-- A search through the slots of a list for the first item that does not pass.
use Rattle.std.specs.Prelude.{◌≡◌, ℕ, ◌<◌, Bool, true, false, Ok, Err, Result}

-- what the search of the slots below n returns, where `says k` holds of the test's answer at slot k
pub record Searched {A : Type 0} (says : ℕ → Bool → Type 0) (n : ℕ) (at : ℕ → A) (r : Result (Unit {0}) A) : Type 0 where
  pub passed : r ≡ Ok tt → (k : ℕ) → k < n → says k true
  pub first : (a : A) → r ≡ Err a → (k : ℕ) × (k < n) × (a ≡ at k) × says k false × ((j : ℕ) → j < k → says j true)
