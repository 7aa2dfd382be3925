-- What each line does to a course.
use Rattle.std.proofs.Common.{◌≡◌, ℕ, zero, suc, ◌+◌, ◌^◌, ◌<◌, ◌≤◌, Bool, true, false, List, length, Some, None, Err, Option, Result, sym, refl, ap, ◌∙◌, subst, arith, lit<, lit≤}
use Rattle.tasks.specs.declared.refusal.TableRefusal.{TableRefusal}
use Rattle.tasks.specs.declared.task.Factor.{Factor}
use Rattle.tasks.specs.declared.task.Task.{Task}
use Rattle.tasks.specs.declared.units.Shares.{Shares}
use Rattle.tasks.specs.declared.units.Ticks.{Ticks}
use Rattle.table.specs.Firsts.{or_else, first_below, unless}
use Rattle.tasks.specs.Refusals.{task_of}
use Rattle.table.specs.Verdict.{Draft, drafted, verdict, period_fault, deadline_fault, service_fault, task_fault, tasks_fault, count_fault, scale_fault, factor_fault, total_fault, low_fault, high_fault, tests_of}
use Rattle.budget.specs.declared.refusal.FixedRefusal.{FixedRefusal}
use Rattle.budget.specs.Making.{fixed_fault, ceiling_fault}
use Rattle.budget.specs.Refusals.{fixed_number}
use Rattle.budget.specs.Rules.{policy_under}
use Rattle.budget.specs.Slots.{ticks_in}
use Rattle.output.specs.declared.fault.Fault.{Fault}
use Rattle.transcript.specs.Policies.{Policy, fixed_policy}
use Rattle.transcript.specs.Shows.{Show as Shown, new_show}
use Rattle.transcript.specs.Stages.{Stage, opening, tabling, ruled, showing}
use Rattle.transcript.specs.Steps.{Step, silent, on_rule, on_show, make_ceiling, if_ceiling, accepting, if_accepted, make_fixed, if_fixed, rule_fault, line_of_task}
use Rattle.play.specs.Courses.{started}
use Rattle.play.specs.Stops.{BlamesNear}

-- lines that make a rule

pub capped : (n : ℕ) (cs : List Ticks) (s : Stage) (d : Draft) (p : Policy) (w : Shown) → s ≡ ruled d p → None ≡ ceiling_fault d cs → w ≡ new_show d (policy_under p (ticks_in cs))
    → silent (showing w) ≡ on_rule n (make_ceiling n cs) s
capped n cs s d p w es ef ew =
    ap (λ x. silent (showing x)) ew
    ∙ ap (λ f. if_ceiling n f (silent (showing (new_show d (policy_under p (ticks_in cs)))))) ef
    ∙ ap (on_rule n (make_ceiling n cs)) (sym es)

module _ (n : ℕ) (bs : List Ticks) (s : Stage) (h b : Shares) (f : Factor) (ts : List Task) (es : s ≡ tabling h b f ts) (passed : None ≡ verdict (drafted h b f (length ts) ts)) where
  at_table : make_fixed n bs (drafted h b f (length ts) ts) ≡ accepting n (make_fixed n bs) s
  at_table = ap (λ v. if_accepted v (make_fixed n bs (drafted h b f (length ts) ts))) passed ∙ ap (accepting n (make_fixed n bs)) (sym es)

  pub fixed_made : (d : Draft) (p : Policy) → d ≡ drafted h b f (length ts) ts → None ≡ fixed_fault d bs → p ≡ fixed_policy d bs → silent (ruled d p) ≡ accepting n (make_fixed n bs) s
  fixed_made d p ed ef ep =
      ap (λ x. silent (ruled d x)) ep
      ∙ ap (λ x. if_fixed n x (silent (ruled d (fixed_policy d bs)))) ef
      ∙ ap (make_fixed n bs) ed
      ∙ at_table

  pub fixed_refused : (d : Draft) (e : FixedRefusal) → d ≡ drafted h b f (length ts) ts → Some e ≡ fixed_fault d bs → ◌≡◌ {A = Result Step Fault} (Err (rule_fault n (fixed_number e))) (accepting n (make_fixed n bs) s)
  fixed_refused d e ed ef =
      ap (λ x. if_fixed n x (silent (ruled d (fixed_policy d bs)))) ef
      ∙ ap (make_fixed n bs) ed
      ∙ at_table

-- the line of a refused table's fault is a small number

near_or : (x y : Option TableRefusal) → BlamesNear x → BlamesNear y → BlamesNear (or_else x y)
near_or None y sx sy = sy
near_or (Some e) y sx sy = sx

near_unless : (b : Bool) (e : TableRefusal) → line_of_task (task_of e) < 2 ^ 32 → BlamesNear (unless b e)
near_unless true e h = tt
near_unless false e h = h

near_below : (n : ℕ) (f : ℕ → Option TableRefusal) → ((k : ℕ) → k < n → BlamesNear (f k)) → BlamesNear (first_below n f)
unfolding first_below
near_below zero f each = tt
near_below (suc n) f each = near_or (first_below n f) (f n) (near_below n f (λ k l. each k (omega (arith, l)))) (each n (omega arith))

near_deadline : (f : Option Factor) (i : ℕ) (t : Task) → i + 1 < 2 ^ 32 → BlamesNear (deadline_fault f i t)
near_deadline None i t h = tt
near_deadline (Some f) i t h = near_unless _ _ h

near_task : (h : Shares) (f : Option Factor) (i : ℕ) (t : Task) → i + 1 < 2 ^ 32 → BlamesNear (task_fault h f i t)
near_task h f i t l =
    near_or (period_fault h i t) _ (near_unless _ _ l)
    (near_or (deadline_fault f i t) _ (near_deadline f i t l)
    (near_or (service_fault i t) None (near_unless _ _ l) tt))

near_verdict : (d : Draft) → d.count ≤ 33 → BlamesNear (verdict d)
near_verdict d few =
    near_or (count_fault d.count) _ (near_unless _ _ (lit< tt))
    (near_or (scale_fault d.scale) _ (near_unless _ _ (lit< tt))
    (near_or (factor_fault d.factor) _ (near_unless _ _ (lit< tt))
    (near_or (total_fault d.total) _ (near_unless _ _ (lit< tt))
    (near_or (tasks_fault d.scale (Some d.factor) d.count d.task) _ (near_below d.count _ (λ k l. near_task d.scale (Some d.factor) (k + 1) (d.task k) (omega (arith, l, few))))
    (near_or (low_fault (tests_of d)) _ (near_unless _ _ (lit< tt))
    (near_or (high_fault (tests_of d)) None (near_unless _ _ (lit< tt)) tt))))))

pub verdict_near : (d : Draft) (o : Option TableRefusal) → d.count ≤ 33 → o ≡ verdict d → BlamesNear o
verdict_near d o few is = subst BlamesNear (sym is) (near_verdict d few)

-- and at most 40

abbrev Small : Option TableRefusal → Type 0
Small None = Unit {0}
Small (Some e) = line_of_task (task_of e) ≤ 40

small_or : (x y : Option TableRefusal) → Small x → Small y → Small (or_else x y)
small_or None y sx sy = sy
small_or (Some e) y sx sy = sx

small_unless : (b : Bool) (e : TableRefusal) → line_of_task (task_of e) ≤ 40 → Small (unless b e)
small_unless true e h = tt
small_unless false e h = h

small_below : (n : ℕ) (f : ℕ → Option TableRefusal) → ((k : ℕ) → k < n → Small (f k)) → Small (first_below n f)
unfolding first_below
small_below zero f each = tt
small_below (suc n) f each = small_or (first_below n f) (f n) (small_below n f (λ k l. each k (omega (arith, l)))) (each n (omega arith))

small_deadline : (f : Option Factor) (i : ℕ) (t : Task) → i + 1 ≤ 40 → Small (deadline_fault f i t)
small_deadline None i t h = tt
small_deadline (Some f) i t h = small_unless _ _ h

small_task : (h : Shares) (f : Option Factor) (i : ℕ) (t : Task) → i + 1 ≤ 40 → Small (task_fault h f i t)
small_task h f i t l =
    small_or (period_fault h i t) _ (small_unless _ _ l)
    (small_or (deadline_fault f i t) _ (small_deadline f i t l)
    (small_or (service_fault i t) None (small_unless _ _ l) tt))

small_verdict : (d : Draft) → d.count ≤ 33 → Small (verdict d)
small_verdict d few =
    small_or (count_fault d.count) _ (small_unless _ _ (lit≤ tt))
    (small_or (scale_fault d.scale) _ (small_unless _ _ (lit≤ tt))
    (small_or (factor_fault d.factor) _ (small_unless _ _ (lit≤ tt))
    (small_or (total_fault d.total) _ (small_unless _ _ (lit≤ tt))
    (small_or (tasks_fault d.scale (Some d.factor) d.count d.task) _ (small_below d.count _ (λ k l. small_task d.scale (Some d.factor) (k + 1) (d.task k) (omega (arith, l, few))))
    (small_or (low_fault (tests_of d)) _ (small_unless _ _ (lit≤ tt))
    (small_or (high_fault (tests_of d)) None (small_unless _ _ (lit≤ tt)) tt))))))

pub small_line : (d : Draft) (e : TableRefusal) → d.count ≤ 33 → Some e ≡ verdict d → line_of_task (task_of e) < 2 ^ 32
small_line d e few is = omega (arith, subst Small (sym is) (small_verdict d few))

-- an event finds the dispatcher made
pub started_same : (n : ℕ) (f : Shown → Result Step Fault) (s : Stage) → on_show n f (started s) ≡ on_show n f s
started_same n f opening = refl
started_same n f (tabling h b k ts) = refl
started_same n f (ruled d p) = refl
started_same n f (showing w) = refl
