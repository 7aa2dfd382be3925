-- An example whose test passes says the truth; the checker computes the test of each.
use Rattle.std.proofs.Common.{◌≡◌, ℕ, true, false, ◌&&◌, eqb, List, [], ◌∷◌, Some, None, Option, refl, ap, arith}
use Rattle.std.proofs.lemmas.Bool.{eqb-true, and_parts}
use Rattle.tasks.specs.declared.task.Comparison.{Comparison}
use Rattle.tasks.specs.declared.refusal.TableRefusal.{TableRefusal}
use Rattle.budget.specs.declared.refusal.FixedRefusal.{FixedRefusal}
use Rattle.budget.specs.Refusals.{fixed_number}
use Rattle.table.specs.Firsts.{first_below}
use Rattle.tasks.specs.Refusals.{number_of, task_of}
use Rattle.table.specs.Sums.{sum}
use Rattle.table.specs.Verdict.{tests_of, verdict}
use Rattle.runs.specs.Choices.{first_choice}
use Rattle.runs.specs.Masks.{mask, in_mask}
use Rattle.runs.specs.Programs.{play}
use Rattle.worked.specs.Examples.{Example, passes, refused, shared_budget_is, fixed_rule, fixed_refused, plays_shared, plays_fixed, Told, arrived, turned_down, ticked, switched, shared_run, fixed_run, budget_after, fixed_verdict, examples, RefusedBy, FixedBy, Says, Each, none, same_number, same_comparison, refused_by, fixed_by, same_told, same_run, test, every}

none_true : {A : Type 0} (x : Option A) → none x ≡ true → x ≡ None
none_true None e = refl
none_true (Some a) e = let z : ◌≡◌ {A = ℕ} 0 1 = cc in absurd (omega arith)

number_true : (x y : Option ℕ) → same_number x y ≡ true → x ≡ y
number_true None None e = refl
number_true None (Some n) e = let z : ◌≡◌ {A = ℕ} 0 1 = cc in absurd (omega arith)
number_true (Some m) None e = let z : ◌≡◌ {A = ℕ} 0 1 = cc in absurd (omega arith)
number_true (Some m) (Some n) e = ap Some (eqb-true m n e)

comparison_true : (a b : Comparison) → same_comparison a b ≡ true → a ≡ b
comparison_true a b e =
    let parts = and_parts (eqb a.demand.0 b.demand.0) (eqb a.supply.0 b.supply.0) e in
    let d : a.demand.0 ≡ b.demand.0 = eqb-true _ _ parts.0 in
    let s : a.supply.0 ≡ b.supply.0 = eqb-true _ _ parts.1 in
    rw (d, s)

refusal_true : (v : Option TableRefusal) (n : ℕ) (i : Option ℕ) → refused_by v n i ≡ true → RefusedBy v n i
refusal_true None n i e = let z : ◌≡◌ {A = ℕ} 0 1 = cc in absurd (omega arith)
refusal_true (Some r) n i e =
    let parts = and_parts (eqb (number_of r) n) (same_number (task_of r) i) e in
    (eqb-true _ _ parts.0, number_true _ _ parts.1)

fixed_true : (v : Option FixedRefusal) (n : ℕ) → fixed_by v n ≡ true → FixedBy v n
fixed_true None n e = let z : ◌≡◌ {A = ℕ} 0 1 = cc in absurd (omega arith)
fixed_true (Some r) n e = eqb-true (fixed_number r) n e

never : {A : Type 0} → false ≡ true → A
never e = let z : ◌≡◌ {A = ℕ} 0 1 = cc in absurd (omega arith)

-- four numbers that are tested alike are alike
four_true : (t u i j m n e f : ℕ) → (eqb t u && (eqb i j && (eqb m n && eqb e f))) ≡ true → (t ≡ u) × (i ≡ j) × (m ≡ n) × (e ≡ f)
four_true t u i j m n e f h =
    let a = and_parts (eqb t u) _ h in
    let b = and_parts (eqb i j) _ a.1 in
    let c = and_parts (eqb m n) (eqb e f) b.1 in
    (eqb-true t u a.0, eqb-true i j b.0, eqb-true m n c.0, eqb-true e f c.1)

told_true : (x y : Told) → same_told x y ≡ true → x ≡ y
told_true arrived arrived e = refl
told_true arrived (turned_down n) e = never e
told_true arrived (ticked t i m k) e = never e
told_true arrived (switched t i x k) e = never e
told_true (turned_down n) arrived e = never e
told_true (turned_down n) (turned_down k) e = ap turned_down (eqb-true n k e)
told_true (turned_down n) (ticked t i m k) e = never e
told_true (turned_down n) (switched t i x k) e = never e
told_true (ticked t i m k) arrived e = never e
told_true (ticked t i m k) (turned_down n) e = never e
told_true (ticked t i m k) (ticked u j n f) e = let p = four_true t u i j m n k f e in rw (p.0, p.1, p.2, p.3)
told_true (ticked t i m k) (switched u j x f) e = never e
told_true (switched t i x k) arrived e = never e
told_true (switched t i x k) (turned_down n) e = never e
told_true (switched t i x k) (ticked u j m f) e = never e
told_true (switched t i x k) (switched u j y f) e = let p = four_true t u i j x y k f e in rw (p.0, p.1, p.2, p.3)

run_true : (xs ys : List Told) → same_run xs ys ≡ true → xs ≡ ys
run_true [] [] e = refl
run_true [] (y ∷ ys) e = never e
run_true (x ∷ xs) [] e = never e
run_true (x ∷ xs) (y ∷ ys) e =
    let p = and_parts (same_told x y) (same_run xs ys) e in
    let first = told_true x y p.0 in
    let rest = run_true xs ys p.1 in
    rw (first, rest)

-- the rule of each example, from its test
says : (x : Example) → test x ≡ true → Says x
says (passes d low high) e =
    let first = and_parts (none (verdict d)) _ e in
    let rest = and_parts (same_comparison (tests_of d).low low) (same_comparison (tests_of d).high high) first.1 in
    (none_true (verdict d) first.0, comparison_true _ low rest.0, comparison_true _ high rest.1)
says (refused d n i) e = refusal_true (verdict d) n i e
says (shared_budget_is d grants i b) e = eqb-true (budget_after d grants i) b e
says (fixed_rule d budgets) e = none_true (fixed_verdict d budgets) e
says (fixed_refused d budgets n) e = fixed_true (fixed_verdict d budgets) n e
says (plays_shared d calls told) e = run_true (shared_run d calls) told e
says (plays_fixed d budgets calls told) e = run_true (fixed_run d budgets calls) told e

-- a test that passes at every entry gives the rule at each
each : (xs : List Example) → every test xs ≡ true → Each Says xs
each [] e = tt
each (x ∷ xs) e = let parts = and_parts (test x) (every test xs) e in (says x parts.0, each xs parts.1)

computed : every test examples ≡ true
unfolding sum first_below play first_choice mask in_mask
computed = refl

pub all_hold : Each Says examples
all_hold = each examples computed
