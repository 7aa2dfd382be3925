-- Which lists are fixed budgets of a table, and which are ceilings: the tests in their order, and the first refusal.
use Rattle.std.specs.Prelude.{ℕ, ◌+◌, Bool, true, List, [], ◌∷◌, length, Some, None, Option, ◌==◌, nat_le, slice_index_or}
use Rattle.tasks.specs.declared.units.Ticks.{Ticks}
use Rattle.tasks.specs.declared.task.Criticality.{Criticality}
use Rattle.tasks.specs.declared.task.Criticality.TheVariants.{High, Low}
use Rattle.table.specs.Firsts.{first_of, first_below, unless}
use Rattle.table.specs.Tasks.{ticks, shares}
use Rattle.table.specs.Verdict.{Draft}
use Rattle.budget.specs.declared.refusal.Excess.{Excess}
use Rattle.budget.specs.declared.refusal.FixedRefusal.{FixedRefusal}
use Rattle.budget.specs.declared.refusal.FixedRefusal.TheVariants.{Count, LowTask, TooLarge, OverTotal}
use Rattle.budget.specs.declared.refusal.CeilingRefusal.{CeilingRefusal}
use Rattle.budget.specs.declared.refusal.CeilingRefusal.TheVariants.{Count as CeilingCount, TooLarge as CeilingLarge}
use Rattle.budget.specs.Meaning.{load}
use Rattle.budget.specs.Slots.{ticks_in}
use Rattle.budget.specs.Weights.{rule_weight}

abbrev pub mapped : {A B : Type 0} → (A → B) → Option A → Option B
mapped f None = None
mapped f (Some a) = Some (f a)

-- the number at a slot, with its task
abbrev pub at_slot : List Ticks → ℕ → Excess
at_slot xs k = record { task = k + 1; ticks = slice_index_or xs k (ticks 0) }

-- a high task may have any budget, a low one only 0
abbrev pub may_have : Criticality → ℕ → Bool
may_have High c = true
may_have (Low g) c = c == 0

-- the first budget that is not 0 at a low task
abbrev pub low_budget : Draft → List Ticks → Option Excess
low_budget d cs = first_below (length cs) (λ k. unless (may_have (d.task k).criticality (at_slot cs k).ticks.0) (at_slot cs k))

-- the first number above 100,000
abbrev pub too_large : List Ticks → Option Excess
too_large cs = first_below (length cs) (λ k. unless (nat_le (at_slot cs k).ticks.0 100000) (at_slot cs k))

-- how many numbers and tasks there are, where that is not one for each
abbrev pub counts : Draft → List Ticks → Option (ℕ × ℕ)
counts d cs = unless (length cs == d.count) (length cs, d.count)

-- 15: not one number for each task
abbrev pub budgets_fault : Draft → List Ticks → Option FixedRefusal
budgets_fault d cs = unless (length cs == d.count) (Count (length cs) d.count)

-- 17: the sum of weight * budget over the high tasks exceeds the total
abbrev pub over_total_fault : Draft → List Ticks → Option FixedRefusal
over_total_fault d cs = unless (nat_le (load (rule_weight d) (ticks_in cs)) d.total.0) (OverTotal (shares (load (rule_weight d) (ticks_in cs))) d.total)

-- 15, 16 and 17 in their order
abbrev pub fixed_fault : Draft → List Ticks → Option FixedRefusal
fixed_fault d cs = first_of (budgets_fault d cs ∷ mapped LowTask (low_budget d cs) ∷ mapped TooLarge (too_large cs) ∷ over_total_fault d cs ∷ [])

-- 18: not one number for each task
abbrev pub ceilings_fault : Draft → List Ticks → Option CeilingRefusal
ceilings_fault d cs = unless (length cs == d.count) (CeilingCount (length cs) d.count)

-- 18, for either reason
abbrev pub ceiling_fault : Draft → List Ticks → Option CeilingRefusal
ceiling_fault d cs = first_of (ceilings_fault d cs ∷ mapped CeilingLarge (too_large cs) ∷ [])
