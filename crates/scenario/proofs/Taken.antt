-- Whether fields are left, by the first of them.
use Rattle.std.proofs.Common.{◌≡◌, ℕ, true, false, eqb, List, [], ◌∷◌, length, Some, None, sym, refl, arith}
use lib.Dec.{eqb-suc-zero}
use Rattle.scenario.specs.Left.{first}

pub some_left : (xs : List (List ℕ)) (a : List ℕ) → Some a ≡ first xs → false ≡ eqb (length xs) 0
some_left [] a e = let w : ◌≡◌ {A = ℕ} 0 1 = cc in absurd (omega arith)
some_left (x ∷ xs) a e = sym (eqb-suc-zero (length xs))

pub none_left : (xs : List (List ℕ)) → None ≡ first xs → true ≡ eqb (length xs) 0
none_left [] e = refl
none_left (x ∷ xs) e = let w : ◌≡◌ {A = ℕ} 0 1 = cc in absurd (omega arith)
