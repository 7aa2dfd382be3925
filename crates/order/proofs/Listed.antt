-- The slots of a mask as a list.
use Rattle.std.proofs.Common.{◌≡◌, ℕ, zero, suc, ◌+◌, ◌^◌, ◌<◌, ◌≤◌, Bool, true, false, cond, not, ◌&&◌, eqb, leb, ltb, ◌≢◌, List, [], ◌∷◌, sym, refl, ap, ◌∙◌, arith}
use Rattle.std.specs.List.{filter, list_any, range_with_len}
use native.Mathlib.Decide.{dec_le, ℕ_discrete}
use Rattle.std.proofs.lemmas.Bool.{eq-eqb, ne_eqb}
use Rattle.std.proofs.lemmas.Bool.Decides.{nat_tests}
use Rattle.order.specs.declared.slots.Slots.{Slots}
use Rattle.order.specs.Bits.{bit, lowest, slots_of}
use Rattle.order.specs.Slots.{slots_left}
use Rattle.order.proofs.Bits.{bit_none, bit_above, bits_none, lowest_set, lowest_none}

-- whether a slot is in a list
abbrev pub has : ℕ → List ℕ → Bool
has k xs = list_any (λ x. eqb x k) xs

has_range : (p : ℕ → Bool) (a n k : ℕ) → has k (filter p (range_with_len a n)) ≡ (leb a k && ltb k (a + n) && p k)
has_range p a zero k = grind (arith, nat_tests)
has_range p a (suc n) k = by (ℕ_discrete a k) (p a) refl (has_range p (a + 1) n k)
  where
    by : Dec (a ≡ k) → (t : Bool) → p a ≡ t → has k (filter p (range_with_len (a + 1) n)) ≡ (leb (a + 1) k && ltb k (a + 1 + n) && p k)
        → has k (cond t (a ∷ filter p (range_with_len (a + 1) n)) (filter p (range_with_len (a + 1) n))) ≡ (leb a k && ltb k (a + suc n) && p k)
    by (yes z) true here e = rw (← z, eq-eqb a a refl, here) (grind (arith, nat_tests))
    by (yes z) false here e = rw e (rw (← z, here) (grind (arith, nat_tests)))
    by (no ne) true here e = rw (ne_eqb a k ne, e) (grind (arith, nat_tests))
    by (no ne) false here e = rw e (grind (arith, nat_tests))

-- the slots of a mask are those whose bits are set
pub has_slot : (m k : ℕ) → m < 2 ^ 32 → has k (slots_of m) ≡ bit m k
unfolding slots_of
has_slot m k h = has_range (bit m) 0 32 k ∙ within
  where
    within : (leb 0 k && ltb k 32 && bit m k) ≡ bit m k
    within = elim (dec_le 32 k) [ yes l ↦ rw (bit_above 32 m k h l) (grind (arith, nat_tests)) | no l ↦ grind (arith, nat_tests) ]

-- so are those that an iterator has left at first
pub has_first : (s t : Slots) (m k : ℕ) → m < 2 ^ 32 → s ≡ t → slots_left t ≡ slots_of m → has k (slots_left s) ≡ bit m k
has_first s t m k h e is = ap (λ x. has k (slots_left x)) e ∙ ap (has k) is ∙ has_slot m k h

head_range : (p : ℕ → Bool) (a n x : ℕ) (xs : List ℕ) → filter p (range_with_len a n) ≡ x ∷ xs → x < a + n
head_range p a zero x xs e = let z : ◌≡◌ {A = ℕ} 0 1 = cc in absurd (omega arith)
head_range p a (suc n) x xs e = by (p a) e (head_range p (a + 1) n x xs)
  where
    by : (t : Bool) → cond t (a ∷ filter p (range_with_len (a + 1) n)) (filter p (range_with_len (a + 1) n)) ≡ x ∷ xs → (filter p (range_with_len (a + 1) n) ≡ x ∷ xs → x < a + 1 + n) → x < a + suc n
    by true e f = let i : a ≡ x = cc in omega arith
    by false e f = omega (arith, f e)

-- each is below 32
pub slot_below : (m x : ℕ) (xs : List ℕ) → slots_of m ≡ x ∷ xs → x < 32
unfolding slots_of
slot_below m x xs e = head_range (bit m) 0 32 x xs e

-- there is one unless the mask is empty
pub no_slots : (m : ℕ) → m < 2 ^ 32 → slots_of m ≡ [] → m ≡ 0
no_slots m h e = bits_none 32 m h (λ k l. sym (has_slot m k h) ∙ ap (has k) e)

filter_same : (p q : ℕ → Bool) (a n : ℕ) → ((k : ℕ) → a ≤ k → q k ≡ p k) → filter q (range_with_len a n) ≡ filter p (range_with_len a n)
filter_same p q a zero e = refl
filter_same p q a (suc n) e = rw (e a (omega arith), filter_same p q (a + 1) n (λ k l. e k (omega (arith, l)))) refl

first_range : (p q : ℕ → Bool) (a n k : ℕ) → a ≤ k → k < a + n → p k ≡ true → ((j : ℕ) → j < k → p j ≡ false) → ((j : ℕ) → q j ≡ (p j && not (eqb j k)))
    → filter p (range_with_len a n) ≡ k ∷ filter q (range_with_len a n)
first_range p q a zero k l h on none left = absurd (omega arith)
first_range p q a (suc n) k l h on none left = elim (ℕ_discrete a k) [
  | yes e ↦
      let here : p a ≡ true = rw e on in
      let gone : q a ≡ false = left a ∙ rw (here, eq-eqb a k e) in
      let above : filter q (range_with_len (a + 1) n) ≡ filter p (range_with_len (a + 1) n) = filter_same p q (a + 1) n (λ j w. left j ∙ rw (ne_eqb j k (omega (arith, w, e))) (and_true (p j))) in
      rw (here, gone, above) (ap (λ x. x ∷ filter p (range_with_len (a + 1) n)) e)
  | no ne ↦
      let away : p a ≡ false = none a (omega (arith, l, ne)) in
      let gone : q a ≡ false = left a ∙ rw away in
      rw (away, gone) (first_range p q (a + 1) n k (omega (arith, l, ne)) (omega (arith, h)) on none left)
]
  where
    and_true : (b : Bool) → (b && true) ≡ b
    and_true true = refl
    and_true false = refl

-- the empty mask has no slots
filter_none : (p : ℕ → Bool) (a n : ℕ) → ((k : ℕ) → p k ≡ false) → filter p (range_with_len a n) ≡ []
filter_none p a zero e = refl
filter_none p a (suc n) e = rw (e a) (filter_none p (a + 1) n e)

pub slots_none : (m : ℕ) → m ≡ 0 → slots_of m ≡ []
unfolding slots_of
slots_none m e = rw e (filter_none (bit 0) 0 32 bit_none)

-- the lowest slot, and those of the mask without it
pub slots_more : (m rest : ℕ) → m < 2 ^ 32 → m ≢ 0 → ((k : ℕ) → bit rest k ≡ (bit m k && not (eqb k (lowest m)))) → slots_of m ≡ lowest m ∷ slots_of rest
unfolding slots_of
slots_more m rest h ne left =
    let low = lowest_set 32 m h ne in
    first_range (bit m) (bit rest) 0 32 (lowest m) (omega arith) (omega (arith, low.1)) low.0 (λ j l. lowest_none 32 m j l) left
