-- Laws of `first_below`.
use Rattle.std.proofs.Common.{◌≡◌, ℕ, zero, suc, ◌+◌, ◌<◌, ◌≤◌, List, [], ◌∷◌, ◌++◌, Some, None, Option, sym, refl, ap, ◌∙◌, add-one, arith}
use native.Mathlib.Decide.{dec_le}
use Rattle.table.specs.Firsts.{or_else, first_of, first_below}

pub first_below_none : {A : Type 0} (f : ℕ → Option A) → first_below 0 f ≡ None
unfolding first_below
first_below_none f = refl

pub first_below_more : {A : Type 0} (n : ℕ) (f : ℕ → Option A) → first_below (n + 1) f ≡ or_else (first_below n f) (f n)
unfolding first_below
first_below_more n f = rw (add-one n)

-- an answer below i is the answer below each larger n
pub first_below_stays : {A : Type 0} (n i : ℕ) (f : ℕ → Option A) (a : A) → i ≤ n → first_below i f ≡ Some a → first_below n f ≡ Some a
unfolding first_below
first_below_stays zero i f a h e = let z : i ≡ 0 = omega arith in rw z at e
first_below_stays (suc n) i f a h e =
    elim (dec_le i n) [
      | yes l ↦ rw (first_below_stays n i f a l e)
      | no l ↦ let z : i ≡ suc n = omega arith in rw z at e
    ]

pub none_first : {A : Type 0} (x y : Option A) → or_else x y ≡ None → x ≡ None
none_first None y e = refl
none_first (Some a) y e = e

pub none_second : {A : Type 0} (x y : Option A) → or_else x y ≡ None → y ≡ None
none_second None y e = e
none_second (Some a) y e = cc

pub none_both : {A : Type 0} (x y : Option A) → x ≡ None → y ≡ None → or_else x y ≡ None
none_both x y e f = rw e f

-- none below n is none at each k below n
pub first_below_at : {A : Type 0} (n : ℕ) (f : ℕ → Option A) → first_below n f ≡ None → (k : ℕ) → k < n → f k ≡ None
unfolding first_below
first_below_at zero f e k h = absurd (omega (arith, h))
first_below_at (suc n) f e k h =
    elim (dec_le n k) [
      | yes l ↦ let z : k ≡ n = omega arith in rw z (none_second (first_below n f) (f n) e)
      | no l ↦ first_below_at n f (none_first (first_below n f) (f n) e) k (omega arith)
    ]

pub first_below_all : {A : Type 0} (n : ℕ) (f : ℕ → Option A) → ((k : ℕ) → k < n → f k ≡ None) → first_below n f ≡ None
unfolding first_below
first_below_all zero f h = refl
first_below_all (suc n) f h = none_both (first_below n f) (f n) (first_below_all n f (λ k l. h k (omega (arith, l)))) (h n (omega arith))

or_else_swap : {A : Type 0} (x y z : Option A) → or_else (or_else x y) z ≡ or_else x (or_else y z)
or_else_swap None y z = refl
or_else_swap (Some a) y z = refl

-- the first of two lists is that of the first list, or else that of the second
pub first_of_append : {A : Type 0} (xs ys : List (Option A)) → first_of (xs ++ ys) ≡ or_else (first_of xs) (first_of ys)
first_of_append [] ys = refl
first_of_append (x ∷ xs) ys = ap (or_else x) (first_of_append xs ys) ∙ sym (or_else_swap x (first_of xs) (first_of ys))

-- a search that found nothing below i goes on past i, or ends there
pub first_below_next : {A : Type 0} (i : ℕ) (f : ℕ → Option A) → first_below i f ≡ None → f i ≡ None → first_below (i + 1) f ≡ None
first_below_next i f e h = first_below_more i f ∙ none_both (first_below i f) (f i) e h

pub first_below_here : {A : Type 0} (n i : ℕ) (f : ℕ → Option A) (a : A) → i < n → first_below i f ≡ None → f i ≡ Some a → first_below n f ≡ Some a
first_below_here n i f a l e h =
    let up : i + 1 ≤ n = omega arith in
    first_below_stays n (i + 1) f a up (first_below_more i f ∙ rw e h)
