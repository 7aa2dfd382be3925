-- The rules of a scenario are lawful at all longest runs that they let come about.
use Rattle.std.proofs.Common.{◌≡◌, ℕ, ◌≤◌, Bool, true, false, cond, eqb, ltb, leb, List, Some, None, Option, refl, arith}
use Rattle.std.proofs.lemmas.Bool.{lt-leb, leb-true, eq-eqb, and_left, and_right, and_parts, cond-true}
use Rattle.tasks.specs.declared.units.Ticks.{Ticks}
use Rattle.table.specs.Verdict.{Draft}
use Rattle.table.specs.Accepted.{Accepted}
use Rattle.table.proofs.Accepted.{unless_none}
use Rattle.table.proofs.Firsts.{none_first, none_second}
use Rattle.order.specs.Ties.{by_number}
use Rattle.budget.specs.declared.refusal.FixedRefusal.TheVariants.{LowTask, TooLarge}
use Rattle.budget.specs.Making.{mapped, low_budget, too_large, budgets_fault, over_total_fault, fixed_fault}
use Rattle.budget.specs.Meaning.{Meaning, load, raised, Bounded, Granted}
use Rattle.budget.specs.Slots.{ticks_in}
use Rattle.budget.specs.Weights.{rule_weight}
use Rattle.budget.specs.Budgets.{shared_fits, fixed_below}
use Rattle.budget.specs.Loads.{load_below, raised_within}
use Rattle.runs.specs.declared.call.Mark.{Mark}
use Rattle.runs.specs.declared.refusal.TickRefusal.{TickRefusal}
use Rattle.runs.specs.Choices.{Turn}
use Rattle.runs.specs.Produced.{lawful, Keeps}
use Rattle.runs.specs.Programs.{asked_meaning, rested_meaning, meaning_by, meaning_after}
use Rattle.runs.specs.States.{State}
use Rattle.runs.specs.Ticking.{tick_fault, asked, outcome, Asked, LetRest, Consulted, rule_after_by, RuleAfter}
use Rattle.budget.specs.Rules.{policy_under}
use Rattle.runs.proofs.Calls.{granted_by, rule_weight_none}
use Rattle.transcript.specs.Policies.{Policy, shared_policy, fixed_policy, by_policy}

-- the policies that a scenario can make for a table
pub data Made (d : Draft) : Policy → Type 0 where
  shared : Made d (shared_policy d)
  fixed : (budgets : List Ticks) → fixed_fault d budgets ≡ None → Made d (fixed_policy d budgets)
  under : {policy : Policy} (ceiling : ℕ → ℕ) → Made d policy → Made d (policy_under policy ceiling)

-- the longest runs that come about: under fixed budgets, none above its budget
abbrev pub Reach : {d : Draft} {policy : Policy} → Made d policy → (ℕ → ℕ) → Type 0
Reach shared longest = Unit {0}
Reach (fixed budgets e) longest = (i : ℕ) → longest i ≤ ticks_in budgets i
Reach (under ceiling made) longest = Reach made longest

-- a table's rule at given longest runs
abbrev pub meaning_at : Draft → Policy → (ℕ → ℕ) → Meaning
meaning_at d policy longest = record { weight = rule_weight d; total = d.total.0; longest = longest; yes = policy longest }

pub rest_reach : {d : Draft} {policy : Policy} (made : Made d policy) → Reach made (λ i. 0)
rest_reach shared = tt
rest_reach (fixed budgets e) = λ i. omega arith
rest_reach (under ceiling made) = rest_reach made

pub grow_reach : {d : Draft} {policy : Policy} (made : Made d policy) (longest : ℕ → ℕ) (i run : ℕ) → Reach made longest → policy longest i run ≡ true → Reach made (raised longest i run)
grow_reach shared longest i run r e = tt
grow_reach {d = d} (fixed budgets q) longest i run r e = raised_within longest (ticks_in budgets) i run r (fixed_below (rule_weight d) (ticks_in budgets) i run e)
grow_reach (under {policy = policy} ceiling made) longest i run r e = grow_reach made longest i run r (and_parts (policy longest i run) (ltb run (ceiling i)) e).0

-- fixed budgets fit the total
fixed_total : (d : Draft) (budgets : List Ticks) → fixed_fault d budgets ≡ None → load (rule_weight d) (ticks_in budgets) ≤ d.total.0
fixed_total d budgets e =
    let e₁ = none_second (budgets_fault d budgets) _ e in
    let e₂ = none_second (mapped LowTask (low_budget d budgets)) _ e₁ in
    let e₃ = none_second (mapped TooLarge (too_large budgets)) _ e₂ in
    leb-true _ _ (unless_none _ _ (none_first (over_total_fault d budgets) None e₃))

pub silent_at : {d : Draft} {policy : Policy} (made : Made d policy) (longest : ℕ → ℕ) (i run : ℕ) → rule_weight d i ≡ 0 → policy longest i run ≡ false
silent_at {d = d} shared longest i run e = cond-true (eqb (rule_weight d i) 0) false _ (eq-eqb (rule_weight d i) 0 e)
silent_at {d = d} (fixed budgets q) longest i run e = cond-true (eqb (rule_weight d i) 0) false _ (eq-eqb (rule_weight d i) 0 e)
silent_at (under {policy = policy} ceiling made) longest i run e = and_left (policy longest i run) (ltb run (ceiling i)) (silent_at made longest i run e)

pub fits_at : {d : Draft} {policy : Policy} (made : Made d policy) (longest : ℕ → ℕ) (i run : ℕ) → Reach made longest → policy longest i run ≡ true
    → load (rule_weight d) (raised longest i run) ≤ d.total.0
fits_at {d = d} shared longest i run r e = shared_fits (rule_weight d) d.total.0 longest i run e
fits_at {d = d} (fixed budgets q) longest i run r e =
    omega (arith, load_below (rule_weight d) (raised longest i run) (ticks_in budgets) (raised_within longest (ticks_in budgets) i run r (fixed_below (rule_weight d) (ticks_in budgets) i run e)), fixed_total d budgets q)
fits_at (under {policy = policy} ceiling made) longest i run r e = fits_at made longest i run r (and_parts (policy longest i run) (ltb run (ceiling i)) e).0

pub bounded_at : (d : Draft) → Accepted d → (policy : Policy) (longest : ℕ → ℕ) → Bounded (meaning_at d policy longest)
bounded_at d ok policy longest = record {
  zeroth = rule_weight_none d 0 (and_left (leb 1 0) (leb 0 d.count) refl);
  above = λ i l. rule_weight_none d i (and_right (leb 1 i) (leb i d.count) (lt-leb i d.count (omega (arith, ok.few))));
}

-- a meaning of this policy, at longest runs that come about
pub data Holds {d : Draft} {policy : Policy} (made : Made d policy) : Meaning → Type 0 where
  at : (longest : ℕ → ℕ) → Reach made longest → Holds made (meaning_at d policy longest)

module _ (d : Draft) (ok : Accepted d) (policy : Policy) (made : Made d policy) where
  pub holds_keeps : (m : Meaning) → Holds made m → Keeps lawful m
  holds_keeps m (Holds.at longest r) = record {
    law = record {
      bounded = bounded_at d ok policy longest;
      silent = silent_at made longest;
      fits = λ i run. fits_at made longest i run r;
    };
    exactly = tt;
  }

  pub holds_rest : Holds made (meaning_at d policy (λ i. 0))
  holds_rest = Holds.at (λ i. 0) (rest_reach made)

  granted_is : (m : Meaning) → Holds made m → (i run : ℕ) → Granted m ((by_policy policy).grant 0 m i run) i run (m.yes i run)
  granted_is m (Holds.at longest r) i run =
      granted_by (meaning_at d policy longest) (meaning_at d policy (raised longest i run)) i run (policy longest i run) refl (λ k. refl) refl (λ k. refl)

  grant_by : (longest : ℕ → ℕ) (i run : ℕ) → Reach made longest → (b : Bool) → policy longest i run ≡ b → Holds made (cond b (meaning_at d policy (raised longest i run)) (meaning_at d policy longest))
  grant_by longest i run r true e = Holds.at (raised longest i run) (grow_reach made longest i run r e)
  grant_by longest i run r false e = Holds.at longest r

  grant_holds : (m : Meaning) → Holds made m → (i run : ℕ) → Holds made ((by_policy policy).grant 0 m i run)
  grant_holds m (Holds.at longest r) i run = grant_by longest i run r (policy longest i run) refl

  asked_is : (m : Meaning) → Holds made m → (t : Option Turn) → Asked t m (asked_meaning (by_policy policy) 0 m t)
  asked_is m h None = refl
  asked_is m h (Some t) = granted_is m h t.number t.job.run.0

  asked_holds : (m : Meaning) → Holds made m → (t : Option Turn) → Holds made (asked_meaning (by_policy policy) 0 m t)
  asked_holds m h None = h
  asked_holds m h (Some t) = grant_holds m h t.number t.job.run.0

  rested_is : (b : Bool) (m : Meaning) → LetRest b m (rested_meaning (by_policy policy) 0 b m)
  rested_is true m = record { weights = λ i. refl; total = refl; longest = λ i. refl }
  rested_is false m = refl

  rested_holds : (b : Bool) (m : Meaning) → Holds made m → Holds made (rested_meaning (by_policy policy) 0 b m)
  rested_holds true m (Holds.at longest r) = holds_rest
  rested_holds false m h = h

  consulted : (s : State) (mark : Mark) (m : Meaning) → Holds made m → (f : Option TickRefusal)
      → rule_after_by f (Consulted d by_number s mark m (meaning_by f m (rested_meaning (by_policy policy) 0 (outcome d by_number m.yes s mark).rests (asked_meaning (by_policy policy) 0 m (asked d by_number s))))) m
      (meaning_by f m (rested_meaning (by_policy policy) 0 (outcome d by_number m.yes s mark).rests (asked_meaning (by_policy policy) 0 m (asked d by_number s))))
  consulted s mark m h None = record {
    mid = asked_meaning (by_policy policy) 0 m (asked d by_number s);
    grant = asked_is m h (asked d by_number s);
    rest = rested_is (outcome d by_number m.yes s mark).rests (asked_meaning (by_policy policy) 0 m (asked d by_number s));
  }
  consulted s mark m h (Some e) = refl

  meaning_holds : (m n : Meaning) → Holds made m → Holds made n → (f : Option TickRefusal) → Holds made (meaning_by f m n)
  meaning_holds m n h h' None = h'
  meaning_holds m n h h' (Some e) = h

  -- a tick
  pub tick_rule : (s : State) (mark : Mark) (m : Meaning) → Holds made m → RuleAfter d by_number s mark m (meaning_after d by_number (by_policy policy) 0 s mark m)
  tick_rule s mark m h = consulted s mark m h (tick_fault s)

  pub tick_holds : (s : State) (mark : Mark) (m : Meaning) → Holds made m → Holds made (meaning_after d by_number (by_policy policy) 0 s mark m)
  tick_holds s mark m h = meaning_holds m _ h (rested_holds (outcome d by_number m.yes s mark).rests _ (asked_holds m h (asked d by_number s))) (tick_fault s)
