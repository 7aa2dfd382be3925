-- What the tests of a list of budgets or ceilings show.
use Rattle.std.proofs.Common.{◌≡◌, ℕ, zero, suc, ◌<◌, ◌≤◌, false, leb, List, [], ◌∷◌, length, Some, None, Option, sym, refl, ap, ◌∙◌, arith}
use native.Mathlib.Decide.{dec_le}
use Rattle.std.proofs.lemmas.Bool.{leb-true, le-leb, lt-leb}
use Rattle.tasks.specs.declared.units.Ticks.{Ticks}
use Rattle.tasks.specs.declared.units.Shares.{Shares}
use Rattle.table.specs.Firsts.{or_else, first_of}
use Rattle.table.specs.Verdict.{Draft}
use Rattle.table.proofs.Accepted.{unless_none, none_unless}
use Rattle.table.proofs.Firsts.{none_first, none_second, first_below_at, first_of_append}
use Rattle.budget.specs.declared.refusal.FixedRefusal.{FixedRefusal}
use Rattle.budget.specs.declared.refusal.FixedRefusal.TheVariants.{LowTask, TooLarge, OverTotal}
use Rattle.budget.specs.Making.{mapped, at_slot, budgets_fault, low_budget, too_large, over_total_fault, fixed_fault}
use Rattle.budget.specs.Meaning.{load}
use Rattle.budget.specs.Slots.{ticks_in}
use Rattle.budget.specs.Weights.{rule_weight}
use Rattle.budget.proofs.Slots.{ticks_past}

pub mapped_none : {A B : Type 0} (f : A → B) (x : Option A) → mapped f x ≡ None → x ≡ None
mapped_none f None e = refl
mapped_none f (Some a) e = cc

-- a list without a number above 100,000
pub all_small : (cs : List Ticks) → too_large cs ≡ None → (i : ℕ) → ticks_in cs i ≤ 100000
all_small cs e zero = omega arith
all_small cs e (suc k) =
    elim (dec_le (length cs) k) [
      | yes h ↦ omega (arith, ticks_past cs (suc k) (omega arith))
      | no h ↦ leb-true (ticks_in cs (suc k)) 100000 (unless_none _ (at_slot cs k) (first_below_at (length cs) _ e k (omega arith)))
    ]

-- 15 and 16
abbrev pub list_fault : Draft → List Ticks → Option FixedRefusal
list_fault d cs = first_of (budgets_fault d cs ∷ mapped LowTask (low_budget d cs) ∷ mapped TooLarge (too_large cs) ∷ [])

pub list_small : (d : Draft) (cs : List Ticks) → list_fault d cs ≡ None → (i : ℕ) → ticks_in cs i ≤ 100000
list_small d cs e =
    let rest = none_second (budgets_fault d cs) _ e in
    all_small cs (mapped_none TooLarge (too_large cs) (none_first _ None (none_second (mapped LowTask (low_budget d cs)) _ rest)))

-- where 15 and 16 pass, 17 decides
pub fixed_after : (d : Draft) (cs : List Ticks) → list_fault d cs ≡ None → fixed_fault d cs ≡ over_total_fault d cs
fixed_after d cs e =
    first_of_append (budgets_fault d cs ∷ mapped LowTask (low_budget d cs) ∷ mapped TooLarge (too_large cs) ∷ []) (over_total_fault d cs ∷ [])
    ∙ ap (λ x. or_else x (or_else (over_total_fault d cs) None)) e ∙ alone (over_total_fault d cs)
  where
    alone : (x : Option FixedRefusal) → or_else x None ≡ x
    alone None = refl
    alone (Some r) = refl

pub fixed_refused : (d : Draft) (cs : List Ticks) (r : FixedRefusal) → Some r ≡ list_fault d cs → Some r ≡ fixed_fault d cs
fixed_refused d cs r e =
    sym (first_of_append (budgets_fault d cs ∷ mapped LowTask (low_budget d cs) ∷ mapped TooLarge (too_large cs) ∷ []) (over_total_fault d cs ∷ [])
    ∙ ap (λ x. or_else x (or_else (over_total_fault d cs) None)) (sym e))

-- 17 by the sum and the total as the code has them
pub over_total : (d : Draft) (cs : List Ticks) (s b : Shares) → s.0 ≡ load (rule_weight d) (ticks_in cs) → b ≡ d.total → b.0 < s.0 → Some (OverTotal s b) ≡ over_total_fault d cs
over_total d cs s b e f h =
    let L = load (rule_weight d) (ticks_in cs) in
    let out : leb L d.total.0 ≡ false = lt-leb L d.total.0 (omega (arith, e, h, ap (λ x. x.0) f)) in
    rw out (shown s b L e f)
  where
    shown : (s b : Shares) (n : ℕ) → s.0 ≡ n → b ≡ d.total → ◌≡◌ {A = Option FixedRefusal} (Some (OverTotal s b)) (Some (OverTotal (record { 0 = n }) d.total))
    shown s b n e f = rw (← e, f)

pub in_total : (d : Draft) (cs : List Ticks) (s b : ℕ) → s ≡ load (rule_weight d) (ticks_in cs) → b ≡ d.total.0 → s ≤ b → over_total_fault d cs ≡ None
in_total d cs s b e f h = none_unless _ _ (le-leb _ _ (omega (arith, e, f, h)))
