-- Laws of `Chosen`: one slot more, one answer only, and `first_choice` finds it.
use Rattle.std.proofs.Common.{◌≡◌, ℕ, zero, suc, ◌<◌, ◌≤◌, Bool, true, false, cond, not, ◌||◌, eqb, ◌≢◌, Some, None, Option, sym, refl, ap, ◌∙◌, arith}
use native.Mathlib.Decide.{dec_le, ℕ_discrete}
use Rattle.std.proofs.lemmas.Bool.{eq-eqb, ne_eqb, lt-ltb, le-ltb}
use Rattle.std.proofs.lemmas.Bool.Decides.{nat_tests}
use Rattle.order.specs.declared.candidate.Candidate.{Candidate}
use Rattle.order.specs.Orders.{Ahead, TieLaws}
use Rattle.order.specs.Choice.{Numbered, First, Chosen, below, leader, choice_below, first_choice}

-- only what is offered matters
pub chosen_same : (ahead : Ahead) (at : ℕ → Candidate) (p q : ℕ → Bool) (r : Option ℕ) → ((k : ℕ) → q k ≡ p k) → Chosen ahead at p r → Chosen ahead at q r
chosen_same ahead at p q None e f = λ k. e k ∙ f k
chosen_same ahead at p q (Some b) e f = record { is_offered = e b ∙ f.is_offered; leads = λ j o ne. f.leads j (sym (e j) ∙ o) ne }

module _ (ahead : Ahead) (at : ℕ → Candidate) (laws : TieLaws ahead) where
  apart : (p : ℕ → Bool) → Numbered at p → (a b : ℕ) → p a ≡ true → p b ≡ true → a ≢ b → (at a).number ≢ (at b).number
  apart p numbered a b pa pb ne e = ne (omega (arith, numbered a pa, numbered b pb, e))

  -- one slot more is offered
  pub chosen_more : (p q : ℕ → Bool) (k : ℕ) (r : Option ℕ) → Numbered at q → p k ≡ false → ((j : ℕ) → q j ≡ (p j || eqb j k))
      → Chosen ahead at p r → Chosen ahead at q (Some (leader ahead at r k))
  chosen_more p q k r numbered new e f = by_best r f
    where
      here : q k ≡ true
      here = e k ∙ rw (new, eq-eqb k k refl)

      was : (j : ℕ) → q j ≡ true → j ≢ k → p j ≡ true
      was j o ne = let n : eqb j k ≡ false = ne_eqb j k ne in let s = e j in grind arith

      still : (j : ℕ) → p j ≡ true → q j ≡ true
      still j o = let s = e j in grind arith

      other : (j : ℕ) → p j ≡ true → j ≢ k
      other j o z = let s : p j ≡ p k = ap p z in let c : ◌≡◌ {A = Bool} true false = cc in let n : ◌≡◌ {A = ℕ} 0 1 = cc in omega arith

      by_ahead : (b : ℕ) → First ahead at p b → (t : Bool) → ahead (at k) (at b) ≡ t → First ahead at q (cond t k b)
      by_ahead b f true t = record {
        is_offered = here;
        leads = λ j o ne. elim (ℕ_discrete j b) [
          | yes z ↦ rw z t
          | no away ↦ laws.transitive (at k) (at b) (at j)
              (apart q numbered k b here (still b f.is_offered) (λ z. other b f.is_offered (sym z)))
              (apart q numbered b j (still b f.is_offered) o (λ z. away (sym z)))
              (apart q numbered k j here o (λ z. ne (sym z)))
              t (f.leads j (was j o ne) away)
        ];
      }
      by_ahead b f false t = record {
        is_offered = still b f.is_offered;
        leads = λ j o ne. elim (ℕ_discrete j k) [
          | yes z ↦ rw z (laws.one_way (at k) (at b) (apart q numbered k b here (still b f.is_offered) (λ z. other b f.is_offered (sym z))) ∙ ap not t)
          | no away ↦ f.leads j (was j o away) ne
        ];
      }

      by_best : (r : Option ℕ) → Chosen ahead at p r → First ahead at q (leader ahead at r k)
      by_best None f = record { is_offered = here; leads = λ j o ne. absurd (other_none j o ne) }
        where
          other_none : (j : ℕ) → q j ≡ true → j ≢ k → ⊥
          other_none j o ne = let t : p j ≡ true = was j o ne in let n : p j ≡ false = f j in let c : ◌≡◌ {A = ℕ} 0 1 = cc in omega arith
      by_best (Some b) f = by_ahead b f (ahead (at k) (at b)) refl

  pub chosen_once : (p : ℕ → Bool) → Numbered at p → (r s : Option ℕ) → Chosen ahead at p r → Chosen ahead at p s → r ≡ s
  chosen_once p numbered None None f g = refl
  chosen_once p numbered None (Some b) f g = let n : p b ≡ false = f b in let t : p b ≡ true = g.is_offered in let c : ◌≡◌ {A = ℕ} 0 1 = cc in absurd (omega arith)
  chosen_once p numbered (Some a) None f g = let n : p a ≡ false = g a in let t : p a ≡ true = f.is_offered in let c : ◌≡◌ {A = ℕ} 0 1 = cc in absurd (omega arith)
  chosen_once p numbered (Some a) (Some b) f g =
      elim (ℕ_discrete a b) [
        | yes e ↦ ap Some e
        | no ne ↦
            let ab : ahead (at a) (at b) ≡ true = f.leads b g.is_offered (λ e. ne (sym e)) in
            let ba : ahead (at b) (at a) ≡ true = g.leads a f.is_offered ne in
            let way : ahead (at b) (at a) ≡ not (ahead (at a) (at b)) = laws.one_way (at a) (at b) (apart p numbered a b f.is_offered g.is_offered ne) in
            let z : not true ≡ true = cc in
            let c : ◌≡◌ {A = ℕ} 0 1 = cc in absurd (omega arith)
      ]

  pub choice_chosen : (p : ℕ → Bool) (m n : ℕ) → n ≤ m → Numbered at (below m p) → Chosen ahead at (below n p) (choice_below n ahead at p)
  unfolding choice_below
  choice_chosen p m zero h numbered = λ k. grind (arith, nat_tests)
  choice_chosen p m (suc n) h numbered = by_offered (p n) refl (choice_chosen p m n (omega (arith, h)) numbered)
    where
      by_offered : (t : Bool) → p n ≡ t → Chosen ahead at (below n p) (choice_below n ahead at p)
          → Chosen ahead at (below (suc n) p) (cond t (Some (leader ahead at (choice_below n ahead at p) n)) (choice_below n ahead at p))
      by_offered true e f = chosen_more (below n p) (below (suc n) p) n (choice_below n ahead at p) (λ k o. numbered k (grind (arith, nat_tests))) (grind (arith, nat_tests)) (λ j. elim (ℕ_discrete j n) [ yes z ↦ rw (z, e) (grind (arith, nat_tests)) | no ne ↦ grind (arith, nat_tests) ]) f
      by_offered false e f = chosen_same ahead at (below n p) (below (suc n) p) (choice_below n ahead at p) (λ j. elim (ℕ_discrete j n) [ yes z ↦ rw (z, e) (grind (arith, nat_tests)) | no ne ↦ grind (arith, nat_tests) ]) f

  -- what is chosen is what `first_choice` finds
  pub chosen_computed : (p : ℕ → Bool) (r : Option ℕ) → ((k : ℕ) → 32 ≤ k → p k ≡ false) → Numbered at p → Chosen ahead at p r → r ≡ first_choice ahead at p
  chosen_computed p r high numbered f =
      let few : (k : ℕ) → below 32 p k ≡ p k = λ k. elim (dec_le 32 k) [ yes h ↦ rw (high k h, le-ltb k 32 h) | no h ↦ rw (lt-ltb k 32 (omega arith)) ] in
      let all : Numbered at (below 32 p) = λ k o. numbered k (sym (few k) ∙ o) in
      chosen_once (below 32 p) all r (first_choice ahead at p) (chosen_same ahead at p (below 32 p) r few f) (choice_chosen p 32 32 (omega arith) all)

  -- the first one's deadline is the earliest
  pub first_earliest : (p : ℕ → Bool) (k : ℕ) → Numbered at p → First ahead at p k → (j : ℕ) → p j ≡ true → (at k).deadline.0 ≤ (at j).deadline.0
  first_earliest p k numbered f j o = elim (ℕ_discrete j k) [
    | yes e ↦ rw e (omega arith)
    | no ne ↦ elim (dec_le (at k).deadline.0 (at j).deadline.0) [
      | yes h ↦ h
      | no h ↦
          let jk : ahead (at j) (at k) ≡ true = laws.refines_deadlines (at j) (at k) (apart p numbered j k o f.is_offered ne) (omega arith) in
          let kj : ahead (at k) (at j) ≡ true = f.leads j o ne in
          let way : ahead (at k) (at j) ≡ not (ahead (at j) (at k)) = laws.one_way (at j) (at k) (apart p numbered j k o f.is_offered ne) in
          let z : not true ≡ true = cc in
          let c : ◌≡◌ {A = ℕ} 0 1 = cc in absurd (omega arith)
    ]
  ]

-- what `choice_below` finds is offered and below n
pub choice_within : (n : ℕ) (ahead : Ahead) (at : ℕ → Candidate) (p : ℕ → Bool) (b : ℕ) → choice_below n ahead at p ≡ Some b → (b < n) × (p b ≡ true)
unfolding choice_below
choice_within zero ahead at p b e = let z : ◌≡◌ {A = ℕ} 0 1 = cc in absurd (omega arith)
choice_within (suc n) ahead at p b e = by_offered (p n) refl (choice_below n ahead at p) (choice_within n ahead at p) e
  where
    higher : (b : ℕ) → (b < n) × (p b ≡ true) → (b < suc n) × (p b ≡ true)
    higher b w = (omega (arith, w.0), w.1)

    by_ahead : (c : ℕ) (t : Bool) → p n ≡ true → (c < n) × (p c ≡ true) → cond t n c ≡ b → (b < suc n) × (p b ≡ true)
    by_ahead c true o w e = rw (← e) (omega arith, o)
    by_ahead c false o w e = rw e at (higher c w)

    by_offered : (t : Bool) → p n ≡ t → (c : Option ℕ) → ((b : ℕ) → c ≡ Some b → (b < n) × (p b ≡ true))
        → cond t (Some (leader ahead at c n)) c ≡ Some b → (b < suc n) × (p b ≡ true)
    by_offered true o None f e = let i : n ≡ b = cc in rw (← i) (omega arith, o)
    by_offered true o (Some c) f e = let i : cond (ahead (at n) (at c)) n c ≡ b = cc in by_ahead c (ahead (at n) (at c)) o (f c refl) i
    by_offered false o c f e = higher b (f b e)

-- it depends on the offered slots below n only
pub choice_same : (n : ℕ) (ahead : Ahead) (at to : ℕ → Candidate) (p q : ℕ → Bool) → ((k : ℕ) → k < n → q k ≡ p k) → ((k : ℕ) → k < n → p k ≡ true → to k ≡ at k)
    → choice_below n ahead to q ≡ choice_below n ahead at p
unfolding choice_below
choice_same zero ahead at to p q e f = refl
choice_same (suc n) ahead at to p q e f =
    rw (e n (omega arith), choice_same n ahead at to p q (λ k h. e k (omega (arith, h))) (λ k h. f k (omega (arith, h))))
    (by_offered (p n) refl (choice_below n ahead at p) (choice_within n ahead at p))
  where
    by_offered : (t : Bool) → p n ≡ t → (c : Option ℕ) → ((b : ℕ) → c ≡ Some b → (b < n) × (p b ≡ true))
        → cond t (Some (leader ahead to c n)) c ≡ cond t (Some (leader ahead at c n)) c
    by_offered true o None w = refl
    by_offered true o (Some c) w = rw (f n (omega arith) o, f c (omega (arith, (w c refl).0)) (w c refl).1)
    by_offered false o c w = refl
