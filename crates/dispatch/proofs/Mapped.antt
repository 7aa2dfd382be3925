-- What an `Option` becomes under a closure, and under a test.
use Rattle.std.proofs.Common.{◌≡◌, Bool, true, false, cond, is_some, Some, None, Option, refl, ap}
use Rattle.std.specs.Bool.{then_some}
use Rattle.std.specs.Option.{MatchOption, IsSomeAnd, option_map, unwrap_or}

-- the result of `map`
pub mapped : {A B : Type 0} (f : A → B) (P : A → B → Type 0) (o : Option A) (r : Option B) → MatchOption o (r ≡ None) (λ x. IsSomeAnd r (P x)) → ((x : A) (y : B) → P x y → y ≡ f x) → r ≡ option_map f o
mapped f P None r h is = h
mapped f P (Some x) None h is = absurd h
mapped f P (Some x) (Some y) h is = ap Some (is x y h)

pub is_some_from : {A : Type 0} (o : Option A) → (o ≡ None → ⊥) → is_some o ≡ true
is_some_from None some = absurd (some refl)
is_some_from (Some a) some = refl

pub then_is_some : {A : Type 0} (b : Bool) (x : A) → is_some (then_some b x) ≡ b
then_is_some true x = refl
then_is_some false x = refl

pub then_or : {A : Type 0} (b : Bool) (x y : A) → unwrap_or (then_some b x) y ≡ cond b x y
then_or true x y = refl
then_or false x y = refl
