-- What a search through the slots of a list finds.
use Rattle.std.proofs.Common.{◌≡◌, ℕ, ◌<◌, Bool, true, false, Some, Ok, Err, Result, sym, refl, ap, ◌∙◌, arith}
use Rattle.table.specs.Firsts.{first_below, unless, refusal}
use Rattle.table.proofs.Firsts.{first_below_all, first_below_here}
use Rattle.budget.specs.Searches.{Searched}

pub first_searched : {A : Type 0} (says : ℕ → Bool → Type 0) (test : ℕ → Bool) (n : ℕ) (at : ℕ → A) (r : Result (Unit {0}) A)
    → ((k : ℕ) (b : Bool) → k < n → says k b → b ≡ test k) → Searched says n at r → refusal r ≡ first_below n (λ k. unless (test k) (at k))
first_searched says test n at (Ok u) is s = sym (first_below_all n _ (λ k l. ap (λ b. unless b (at k)) (sym (is k true l (s.passed refl k l)))))
first_searched says test n at (Err a) is s =
    let found = s.first a refl in
    let i = found.0 in
    let none = first_below_all i _ (λ k l. ap (λ b. unless b (at k)) (sym (is k true (omega (arith, l, found.1)) (found.4 k l)))) in
    sym (first_below_here n i (λ k. unless (test k) (at k)) a found.1 none (ap (λ b. unless b (at i)) (sym (is i false found.1 found.3)) ∙ ap Some (sym found.2)))
