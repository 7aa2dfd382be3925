-- How far the chooser has come: going on over the slots that are left gives the first choice.
use Rattle.std.proofs.Common.{◌≡◌, ℕ, zero, suc, ◌+◌, ◌^◌, ◌<◌, Bool, true, false, cond, not, eqb, List, [], ◌∷◌, is_some, Some, None, Option, sym, refl, ap, ◌∙◌, add-zero, add-one, arith}
use Rattle.std.specs.List.{filter, fold, range_with_len}
use native.Mathlib.Decide.{dec_le, ℕ_discrete}
use Rattle.std.proofs.lemmas.Nat.{pow_pos}
use Rattle.std.proofs.lemmas.Bool.{ne_eqb, lt-ltb, le-ltb}
use Rattle.order.specs.declared.candidate.Candidate.{Candidate}
use Rattle.order.specs.Orders.{Ahead, TieLaws}
use Rattle.order.specs.Bits.{bit, slots_of}
use Rattle.order.specs.Choice.{Numbered, Chosen, below, leader, choice_below, first_choice, ChosenFrom}
use Rattle.order.proofs.Bits.{bit_none, bit_above}
use Rattle.order.proofs.Listed.{has, has_slot, slot_below, slots_none}
use Rattle.order.proofs.Chosen.{chosen_same, chosen_once, choice_chosen}

-- the first of some slots and the one chosen before them
abbrev pub pick : Ahead → (ℕ → Candidate) → Option ℕ → List ℕ → Option ℕ
pick ahead at r xs = fold (λ r k. Some (leader ahead at r k)) r xs

choice_range : (ahead : Ahead) (at : ℕ → Candidate) (p : ℕ → Bool) (a n : ℕ) → pick ahead at (choice_below a ahead at p) (filter p (range_with_len a n)) ≡ choice_below (a + n) ahead at p
unfolding choice_below
choice_range ahead at p a zero = ap (λ i. choice_below i ahead at p) (sym (add-zero a))
choice_range ahead at p a (suc n) =
    let next : a + 1 + n ≡ a + suc n = omega arith in
    by (p a) refl (ap (λ i. pick ahead at (choice_below i ahead at p) (filter p (range_with_len (a + 1) n))) (sym (add-one a)) ∙ choice_range ahead at p (a + 1) n ∙ ap (λ i. choice_below i ahead at p) next)
  where
    by : (t : Bool) → p a ≡ t → pick ahead at (choice_below (suc a) ahead at p) (filter p (range_with_len (a + 1) n)) ≡ choice_below (a + suc n) ahead at p
        → pick ahead at (choice_below a ahead at p) (cond t (a ∷ filter p (range_with_len (a + 1) n)) (filter p (range_with_len (a + 1) n))) ≡ choice_below (a + suc n) ahead at p
    by true e f = ap (λ b. pick ahead at (cond b (Some (leader ahead at (choice_below a ahead at p) a)) (choice_below a ahead at p)) (filter p (range_with_len (a + 1) n))) (sym e) ∙ f
    by false e f = ap (λ b. pick ahead at (cond b (Some (leader ahead at (choice_below a ahead at p) a)) (choice_below a ahead at p)) (filter p (range_with_len (a + 1) n))) (sym e) ∙ f

pick_all : (ahead : Ahead) (at : ℕ → Candidate) (m : ℕ) → pick ahead at None (slots_of m) ≡ first_choice ahead at (bit m)
unfolding slots_of choice_below
pick_all ahead at m = choice_range ahead at (bit m) 0 32

-- the leader is the candidate of the best slot so far
pub record Looked (ahead : Ahead) (at : ℕ → Candidate) (mask : ℕ) (left : List ℕ) (best : ℕ) (leader : Candidate) : Type 0 where
  pub leads : leader ≡ at best
  pub answer : pick ahead at (Some best) left ≡ first_choice ahead at (bit mask)
  pub numbered : (k : ℕ) → bit mask k ≡ true → has k left ≡ false → (at k).number ≡ k + 1

module _ (ahead : Ahead) (at : ℕ → Candidate) (mask : ℕ) where
  -- the first slot
  pub looked_first : (k : ℕ) (left : List ℕ) (x : Candidate) → mask < 2 ^ 32 → slots_of mask ≡ k ∷ left → x ≡ at k → (k < 32 → x.number ≡ k + 1) → Looked ahead at mask left k x
  looked_first k left x h e is new = record {
    leads = is;
    answer = sym (ap (pick ahead at None) e) ∙ pick_all ahead at mask;
    numbered = λ j o out. elim (ℕ_discrete j k) [
      | yes z ↦ rw z (sym (ap (λ x. x.number) is) ∙ new (slot_below mask k left e))
      | no ne ↦ let apart : eqb k j ≡ false = ne_eqb k j (λ q. ne (sym q)) in let in_mask : has j (k ∷ left) ≡ bit mask j = sym (ap (has j) e) ∙ has_slot mask j h in grind arith
    ];
  }

  -- one slot more
  pub looked_more : (m best k : ℕ) (rest : List ℕ) (leader x : Candidate) (t : Bool) → slots_of m ≡ k ∷ rest → x ≡ at k → (k < 32 → x.number ≡ k + 1) → t ≡ ahead x leader
      → Looked ahead at mask (slots_of m) best leader → Looked ahead at mask rest (cond t k best) (cond t x leader)
  looked_more m best k rest leader x t e is new goes l = record {
    leads = by t;
    answer = ap (λ b. pick ahead at (Some (cond b k best)) rest) told ∙ sym (ap (pick ahead at (Some best)) e) ∙ l.answer;
    numbered = λ j o out. elim (ℕ_discrete j k) [
      | yes z ↦ rw z (sym (ap (λ x. x.number) is) ∙ new (slot_below m k rest e))
      | no ne ↦ let apart : eqb k j ≡ false = ne_eqb k j (λ q. ne (sym q)) in l.numbered j o (ap (has j) e ∙ rw (apart, out))
    ];
  }
    where
      by : (t : Bool) → cond t x leader ≡ at (cond t k best)
      by true = is
      by false = l.leads

      told : t ≡ ahead (at k) (at best)
      told = goes ∙ ap (λ y. ahead y leader) is ∙ ap (ahead (at k)) l.leads

module _ (ahead : Ahead) (at : ℕ → Candidate) (laws : TieLaws ahead) (mask : ℕ) (word : mask < 2 ^ 32) where
  few : (k : ℕ) → below 32 (bit mask) k ≡ bit mask k
  few k = elim (dec_le 32 k) [ yes h ↦ rw (bit_above 32 mask k word h, le-ltb k 32 h) | no h ↦ rw (lt-ltb k 32 (omega arith)) ]

  from : (r : Option ℕ) → r ≡ first_choice ahead at (bit mask) → is_some r ≡ not (eqb mask 0) → Numbered at (bit mask) → ChosenFrom ahead at mask r
  from r is some numbered =
      let all : Numbered at (below 32 (bit mask)) = λ k o. numbered k (sym (few k) ∙ o) in
      let chosen : Chosen ahead at (bit mask) r = rw is (chosen_same ahead at (below 32 (bit mask)) (bit mask) _ (λ k. sym (few k)) (choice_chosen ahead at laws (bit mask) 32 32 (omega arith) all)) in
      record { chosen = chosen; only = λ s g. chosen_once ahead at laws (bit mask) numbered s r g chosen; some = some; computed = is }

  -- nothing is left
  pub looked_all : (best k : ℕ) (xs left : List ℕ) (leader : Candidate) → slots_of mask ≡ k ∷ xs → left ≡ [] → Looked ahead at mask left best leader → ChosenFrom ahead at mask (Some best)
  looked_all best k xs left leader some end l =
      from (Some best) (sym (ap (pick ahead at (Some best)) end) ∙ l.answer) (sym (ap not (ne_eqb mask 0 (λ z. let none = slots_none mask z in let c : ◌≡◌ {A = ℕ} 0 1 = cc in omega arith)))) (λ j o. l.numbered j o (ap (has j) end))

module _ (ahead : Ahead) (at : ℕ → Candidate) (laws : TieLaws ahead) where
  -- there is no slot
  pub none_offered : (mask : ℕ) → mask ≡ 0 → ChosenFrom ahead at mask None
  none_offered mask z =
      let word : mask < 2 ^ 32 = rw z (pow_pos 32) in
      let e : slots_of mask ≡ [] = slots_none mask z in
      let none : (k : ℕ) → bit mask k ≡ false = λ k. rw z (bit_none k) in
      from ahead at laws mask word None (sym (ap (pick ahead at None) e) ∙ pick_all ahead at mask) (rw z) (λ k o. let f = none k in let z : ◌≡◌ {A = ℕ} 0 1 = cc in absurd (omega arith))
