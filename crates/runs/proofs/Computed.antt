-- The examples, by computation.
use Rattle.std.proofs.Common.{◌≡◌, ℕ, ◌<◌, ◌≤◌, Bool, true, false, cond, not, eqb, ltb, ◌⊎◌, List, sym, refl, ap, ◌∙◌, inl, inr, ⊎_elim, arith, lit≤}
use native.Mathlib.Decide.{dec_le}
use Rattle.std.proofs.lemmas.Bool.{both_ways, lt-ltb, le-ltb, ltb-true, ltb-false, eq-eqb, cases_order, cond-true}
use Rattle.table.specs.Sums.{sum}
use Rattle.table.specs.Firsts.{first_below}
use Rattle.table.specs.Verdict.{Draft}
use Rattle.table.specs.Accepted.{Accepted}
use Rattle.table.proofs.Accepted.{accepted}
use Rattle.order.specs.Orders.{TieLaws}
use Rattle.order.specs.Ties.{by_number}
use Rattle.budget.specs.Meaning.{Meaning, load, raised, Bounded}
use Rattle.budget.specs.Rules.{fixed_says}
use Rattle.budget.specs.Budgets.{fixed_below}
use Rattle.budget.specs.Loads.{load_below, raised_within}
use Rattle.runs.specs.declared.call.Call.{Call}
use Rattle.runs.specs.States.{rule_weight}
use Rattle.runs.specs.Masks.{mask, in_mask}
use Rattle.runs.specs.Choices.{first_choice}
use Rattle.runs.specs.Logs.{clock, since, switched_in, before_switch, switch_clock}
use Rattle.runs.specs.Produced.{lawful, exact, Keeps}
use Rattle.runs.specs.Programs.{Played, play, shared_program, shared_rule}
use Rattle.runs.specs.Examples.{fixed_program, fixed_rule, whole, three_ticks, AgeMet, three, budgets, two_ticks, SharedOutlasts, assured, five_ticks, ShortEnd}
use Rattle.runs.proofs.Calls.{granted_by, play_good, total, shared_obeys, shared_stands}

-- the order

ahead_cases : (x y a b : ℕ) → cond (ltb x y) true (cond (ltb y x) false (ltb a b)) ≡ true → (x < y) ⊎ ((x ≡ y) × (a < b))
ahead_cases x y a b e = go (ltb x y) refl (ltb y x) refl e
  where
    go : (p : Bool) → ltb x y ≡ p → (q : Bool) → ltb y x ≡ q → cond p true (cond q false (ltb a b)) ≡ true → (x < y) ⊎ ((x ≡ y) × (a < b))
    go true ep q eq e = inl (ltb-true x y ep)
    go false ep true eq e = absurd (both_ways false refl e)
    go false ep false eq e = let le = ltb-false x y ep in let ge = ltb-false y x eq in inr (omega arith, ltb-true a b e)

ahead_from : (x y a b : ℕ) → (x < y) ⊎ ((x ≡ y) × (a < b)) → cond (ltb x y) true (cond (ltb y x) false (ltb a b)) ≡ true
ahead_from x y a b (inl h) = rw (lt-ltb x y h)
ahead_from x y a b (inr h) = let e = h.0 in let l = h.1 in rw (le-ltb x y (omega arith), le-ltb y x (omega arith)) (lt-ltb a b l)

ahead_not : (x y a b : ℕ) → (y < x) ⊎ ((x ≡ y) × (b ≤ a)) → cond (ltb x y) true (cond (ltb y x) false (ltb a b)) ≡ false
ahead_not x y a b (inl h) = rw (le-ltb x y (omega arith), lt-ltb y x h)
ahead_not x y a b (inr h) = let e = h.0 in let l = h.1 in rw (le-ltb x y (omega arith), le-ltb y x (omega arith)) (le-ltb a b l)

one_way : (x y a b : ℕ) → (a ≡ b → ⊥) → cond (ltb y x) true (cond (ltb x y) false (ltb b a)) ≡ not (cond (ltb x y) true (cond (ltb y x) false (ltb a b)))
one_way x y a b ne =
    ⊎_elim
    (λ (e : x ≡ y).
    elim (dec_le a b) [
      | yes l ↦ ahead_not y x b a (inr (sym e, l)) ∙ ap not (sym (ahead_from x y a b (inr (e, omega arith))))
      | no l ↦ ahead_from y x b a (inr (sym e, omega arith)) ∙ ap not (sym (ahead_not x y a b (inr (e, omega arith))))
    ])
    (λ o. ⊎_elim
    (λ (h : x < y). ahead_not y x b a (inl h) ∙ ap not (sym (ahead_from x y a b (inl h))))
    (λ (h : y < x). ahead_from y x b a (inl h) ∙ ap not (sym (ahead_not x y a b (inl h))))
    o)
    (cases_order x y)

through : (x y z a b c : ℕ) → (x < y) ⊎ ((x ≡ y) × (a < b)) → (y < z) ⊎ ((y ≡ z) × (b < c)) → (x < z) ⊎ ((x ≡ z) × (a < c))
through x y z a b c (inl h) (inl k) = inl (omega arith)
through x y z a b c (inl h) (inr k) = let e = k.0 in inl (omega arith)
through x y z a b c (inr h) (inl k) = let e = h.0 in inl (omega arith)
through x y z a b c (inr h) (inr k) = let e = h.0 in let f = k.0 in let l = h.1 in let m = k.1 in inr (omega arith, omega arith)

pub by_number_laws : TieLaws by_number
by_number_laws = record {
  one_way = λ a b ne. one_way a.deadline.0 b.deadline.0 a.number b.number ne;
  transitive = λ a b c _ _ _ p q.
      ahead_from a.deadline.0 c.deadline.0 a.number c.number
      (through a.deadline.0 b.deadline.0 c.deadline.0 a.number b.number c.number
      (ahead_cases a.deadline.0 b.deadline.0 a.number b.number p) (ahead_cases b.deadline.0 c.deadline.0 b.number c.number q));
  refines_deadlines = λ a b _ h. ahead_from a.deadline.0 b.deadline.0 a.number b.number (inl h);
}

-- the fixed rule

record Holds (budget : ℕ → ℕ) (m : Meaning) : Type 0 where
  bounded : Bounded m
  yes_is : (i run : ℕ) → m.yes i run ≡ fixed_says m.weight budget i run
  within : (i : ℕ) → m.longest i ≤ budget i
  funded : load m.weight budget ≤ m.total

holds_law : (budget : ℕ → ℕ) (m : Meaning) → Holds budget m → Keeps lawful m
holds_law budget m h = record {
  law = record {
    bounded = h.bounded;
    silent = λ i run e. h.yes_is i run ∙ cond-true (eqb (m.weight i) 0) false _ (eq-eqb (m.weight i) 0 e);
    fits = λ i run e.
        let lt = fixed_below m.weight budget i run (sym (h.yes_is i run) ∙ e) in
        omega (arith, h.funded, load_below m.weight (raised m.longest i run) budget (raised_within m.longest budget i run h.within lt));
  };
  exactly = tt;
}

grant_holds : (budget : ℕ → ℕ) (m : Meaning) (i run : ℕ) → Holds budget m → (b : Bool) → m.yes i run ≡ b
    → Holds budget (cond b (record { weight = m.weight; total = m.total; longest = raised m.longest i run; yes = m.yes }) m)
grant_holds budget m i run h true e =
    record {
      bounded = record { zeroth = h.bounded.zeroth; above = h.bounded.above };
      yes_is = h.yes_is;
      within = raised_within m.longest budget i run h.within (fixed_below m.weight budget i run (sym (h.yes_is i run) ∙ e));
      funded = h.funded;
    }
grant_holds budget m i run h false e = h

rest_holds : (budget : ℕ → ℕ) (m : Meaning) → Holds budget m → Holds budget (record { weight = m.weight; total = m.total; longest = λ i. 0; yes = m.yes })
rest_holds budget m h = record {
  bounded = record { zeroth = h.bounded.zeroth; above = h.bounded.above };
  yes_is = h.yes_is;
  within = λ i. omega arith;
  funded = h.funded;
}

fixed_holds : (d : Draft) → Accepted d → (budget : ℕ → ℕ) → load (rule_weight d) budget ≤ d.total.0 → Holds budget (fixed_rule d budget)
fixed_holds d ok budget funds =
    let k = (shared_stands d ok).keeps.law.bounded in
    record { bounded = record { zeroth = k.zeroth; above = k.above }; yes_is = λ i run. refl; within = λ i. omega arith; funded = funds }

pub fixed_played : (d : Draft) → Accepted d → (budget : ℕ → ℕ) → load (rule_weight d) budget ≤ d.total.0 → (calls : List Call) → Played lawful d by_number calls (play d by_number fixed_program (fixed_rule d budget) calls)
fixed_played d ok budget funds calls =
    (play_good lawful d ok by_number by_number_laws fixed_program (Holds budget) (holds_law budget)
    (λ k m h i run. granted_by m (record { weight = m.weight; total = m.total; longest = raised m.longest i run; yes = m.yes }) i run (m.yes i run) refl (λ k. refl) refl (λ k. refl)) (λ k m h i run. grant_holds budget m i run h (m.yes i run) refl)
    (λ k m h. record { weights = λ i. refl; total = refl; longest = λ i. refl }) (λ k m h. rest_holds budget m h)
    (fixed_rule d budget) (fixed_holds d ok budget funds) (λ i. refl) calls).played

pub shared_played : (d : Draft) → Accepted d → (calls : List Call) → Played exact d by_number calls (play d by_number shared_program (shared_rule d) calls)
shared_played d ok calls = total exact d ok by_number by_number_laws shared_program shared_obeys (shared_rule d) (shared_stands d ok).keeps (λ i. refl) calls

-- accepted, by computation

whole_ok : Accepted whole
unfolding first_below sum
whole_ok = accepted whole refl

three_ok : Accepted three
unfolding first_below sum
three_ok = accepted three refl

assured_ok : Accepted assured
unfolding first_below sum
assured_ok = accepted assured refl

pub age_met : AgeMet
unfolding play first_choice first_below sum mask in_mask since clock
age_met = record {
  accepted = whole_ok;
  order = by_number_laws;
  produced = (shared_played whole whole_ok three_ticks).produced;
  old = refl;
  limit = refl;
}

funded : load (rule_weight three) budgets ≤ three.total.0
unfolding sum
funded = lit≤ tt

pub shared_outlasts : SharedOutlasts
unfolding play first_choice first_below sum mask in_mask switched_in before_switch
shared_outlasts = record {
  accepted = three_ok;
  order = by_number_laws;
  by_shared = (shared_played three three_ok two_ticks).produced;
  by_fixed = (fixed_played three three_ok budgets funded two_ticks).produced;
  own = (record { weights = λ i lo hi. refl; total = refl }, record { weights = λ i lo hi. refl; total = refl });
  calls = (shared_played three three_ok two_ticks).calls_are ∙ sym (fixed_played three three_ok budgets funded two_ticks).calls_are;
  counts = (refl, refl);
}

pub short_end : ShortEnd
unfolding play first_choice first_below sum mask in_mask since clock switched_in switch_clock
short_end = record {
  accepted = assured_ok;
  order = by_number_laws;
  produced = (shared_played assured assured_ok five_ticks).produced;
  low = refl;
  switched = refl;
  pending = refl;
  short = refl;
}
