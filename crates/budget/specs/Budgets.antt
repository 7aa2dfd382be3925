-- The shared rule's yes set is the runs below its budget.
use Rattle.std.specs.Prelude.{◌≡◌, ℕ, zero, suc, ◌+◌, ◌-◌, ◌*◌, ◌/◌, ◌<◌, ◌≤◌, max, Bool, true, false, cond, ltb, leb, ◌==◌, nat_eq, nat_le, nat_lt, refl}
use Rattle.std.proofs.Common.{sym, ap, ◌∙◌, div-mul-le_self, div-lt_iff_lt-mul, mul_comm, mul-le-mul_left, arith}
use Rattle.std.proofs.Math.Decide.{dec_le}
use Rattle.std.proofs.Math.Nat.{max-eq_left, max-eq_right, le-max_right}
use Rattle.std.proofs.lemmas.Bool.{leb-true, ltb-true, eq-eqb, ne_eqb, le-leb, lt-leb, lt-ltb, le-ltb, cond-true, cond-false}
use Rattle.budget.specs.Meaning.{load, raised, SharedYes}
use Rattle.budget.specs.Rules.{shared_says, shared_meaning, shared_budget, fixed_says, others}
use Rattle.budget.specs.Loads.{load_kept, load_raised, load_below, raised_within}

-- beside others o of a total b, the task with weight w and longest run l may run to (b - o) / w
top : (w l b o r : ℕ) → o + w * l ≤ b → r < (b - o) / w → o + w * max l (r + 1) ≤ b
top w l b o r fit h =
    let q : (b - o) / w * w ≤ b - o = div-mul-le_self (b - o) w in
    let up : w * (r + 1) ≤ w * ((b - o) / w) = mul-le-mul_left w (omega (arith, h)) in
    let turn : w * ((b - o) / w) ≡ (b - o) / w * w = mul_comm w ((b - o) / w) in
    let low : o ≤ b = omega arith in
    elim (dec_le (r + 1) l) [
      | yes a ↦ let e : max l (r + 1) ≡ l = max-eq_left a in rw e fit
      | no a ↦ let e : max l (r + 1) ≡ r + 1 = max-eq_right (omega arith) in rw e (omega arith)
    ]

over : (w l b o r : ℕ) → 0 < w → o ≤ b → (b - o) / w ≤ r → b < o + w * max l (r + 1)
over w l b o r pos low h =
    let a : b - o < (r + 1) * w = (div-lt_iff_lt-mul pos).0 (omega arith) in
    let m : w * (r + 1) ≤ w * max l (r + 1) = mul-le-mul_left w (le-max_right l (r + 1)) in
    let turn : w * (r + 1) ≡ (r + 1) * w = mul_comm w (r + 1) in
    omega arith

fills : (w l b o r : ℕ) → 0 < w → o + w * l ≤ b → nat_le (o + w * max l (r + 1)) b ≡ nat_lt r ((b - o) / w)
fills w l b o r pos fit =
    elim (dec_le ((b - o) / w) r) [
      | yes h ↦ lt-leb (o + w * max l (r + 1)) b (over w l b o r pos (omega arith) h) ∙ sym (le-ltb r ((b - o) / w) h)
      | no h ↦ le-leb (o + w * max l (r + 1)) b (top w l b o r fit (omega arith)) ∙ sym (lt-ltb r ((b - o) / w) (omega arith))
    ]

-- for a task of 1 to 32; one without weight gets nothing
pub budgeted : (w : ℕ → ℕ) (b : ℕ) (l : ℕ → ℕ) (i r : ℕ) → (i ≡ 0 → w i ≡ 0) → (32 < i → w i ≡ 0) → load w l ≤ b → shared_says w b l i r ≡ nat_lt r (shared_budget w b l i)
budgeted w b l i r z big fit = by (w i) refl
  where
    none : w i ≡ 0 → shared_says w b l i r ≡ nat_lt r (shared_budget w b l i)
    none e =
        cond-true (w i == 0) false _ (eq-eqb (w i) 0 e)
        ∙ sym (le-ltb r 0 (omega arith))
        ∙ ap (ltb r) (sym (cond-true (w i == 0) 0 _ (eq-eqb (w i) 0 e)))

    some : (t : ℕ) → i ≡ suc t → t < 32 → 0 < w i → shared_says w b l i r ≡ nat_lt r (shared_budget w b l i)
    some t e low pos =
        let off : nat_eq (w i) 0 ≡ false = ne_eqb (w i) 0 (λ q. omega arith) in
        let room : others w l i + w i * l i ≤ b = rw e (omega (arith, load_kept w l t low)) in
        cond-false (w i == 0) false _ off
        ∙ ap (λ x. leb x b) (rw e (load_raised w l t r low))
        ∙ fills (w i) (l i) b (others w l i) r pos room
        ∙ ap (ltb r) (sym (cond-false (w i == 0) 0 _ off))

    weighty : (j : ℕ) → i ≡ j → 0 < w i → shared_says w b l i r ≡ nat_lt r (shared_budget w b l i)
    weighty zero e pos = absurd (omega (arith, pos, z e))
    weighty (suc t) e pos =
        elim (dec_le 32 t) [
          | yes h ↦ absurd (omega (arith, pos, big (omega arith)))
          | no h ↦ some t e (omega arith) pos
        ]

    by : (v : ℕ) → w i ≡ v → shared_says w b l i r ≡ nat_lt r (shared_budget w b l i)
    by zero e = none e
    by (suc v) e = weighty i refl (omega (arith, e))

-- a yes of the shared rule fits
pub shared_fits : (w : ℕ → ℕ) (b : ℕ) (l : ℕ → ℕ) (i r : ℕ) → shared_says w b l i r ≡ true → load w (raised l i r) ≤ b
shared_fits w b l i r e = by (w i == 0) e
  where
    by : (z : Bool) → cond z false (nat_le (load w (raised l i r)) b) ≡ true → load w (raised l i r) ≤ b
    by true q = cc
    by false q = leb-true (load w (raised l i r)) b q

-- a yes of the fixed rule is below the budget
pub fixed_below : (w c : ℕ → ℕ) (i r : ℕ) → fixed_says w c i r ≡ true → r < c i
fixed_below w c i r e = by (w i == 0) e
  where
    by : (z : Bool) → cond z false (nat_lt r (c i)) ≡ true → r < c i
    by true q = cc
    by false q = ltb-true r (c i) q

-- a yes of the fixed rule fits
pub fixed_fits : (w : ℕ → ℕ) (b : ℕ) (l c : ℕ → ℕ) → ((i : ℕ) → l i ≤ c i) → load w c ≤ b → (i r : ℕ) → fixed_says w c i r ≡ true → load w (raised l i r) ≤ b
fixed_fits w b l c kept fit i r e = omega (arith, load_below w (raised l i r) c (raised_within l c i r kept (fixed_below w c i r e)))

-- the shared rule says yes exactly where the task has a weight and the raised load fits
pub shared_exact : (w : ℕ → ℕ) (b : ℕ) (l : ℕ → ℕ) → SharedYes (shared_meaning w b l)
shared_exact w b l i r = (shared_fits w b l i r, λ pos fit. cond-false (w i == 0) false _ (ne_eqb (w i) 0 (λ z. omega arith)) ∙ le-leb _ b fit)
