-- Laws of `smaller_or`.
use Rattle.std.specs.Prelude.{◌≡◌, ℕ, Bool, true}
use Rattle.std.proofs.Common.{arith}
use Rattle.std.proofs.lemmas.Bool.Decides.{nat_tests}
use Rattle.order.specs.Ties.{smaller_or}

pub smaller_or_transitive : (x y z : ℕ) (s t u : Bool) → (s ≡ true → t ≡ true → u ≡ true) → smaller_or x y s ≡ true → smaller_or y z t ≡ true → smaller_or x z u ≡ true
smaller_or_transitive x y z s t u tie p q = grind (arith, nat_tests)
