-- An arrival that passes the tests one by one.
use Rattle.std.proofs.Common.{◌≡◌, ℕ, ◌^◌, ◌<◌, ◌≤◌, true, false, not, Some, None, Ok, Err, Option, Result, refl, ap, ◌∙◌, arith}
use Rattle.std.proofs.lemmas.Bool.{le-leb}
use Rattle.tasks.specs.declared.units.Ticks.{Ticks}
use Rattle.table.specs.Firsts.{or_else}
use Rattle.table.specs.Tasks.{ticks}
use Rattle.table.specs.Verdict.{Draft}
use Rattle.runs.specs.declared.refusal.ArrivalRefusal.TheVariants.{ForeignRule, NoSuchTask, TooEarly}
use Rattle.runs.specs.States.{State, known, period}
use Rattle.table.specs.Firsts.{unless}
use Rattle.runs.specs.Arrivals.{next_arrival, unknown_fault, early_fault, pending_by, pending_fault, unassured_fault, arrival_fault}

pub next_small : (T : ℕ) (o : Option Ticks) → ((r : Ticks) → o ≡ Some r → r.0 ≤ 2 ^ 40) → T ≤ 100000 → next_arrival T o < 2 ^ 64
next_small T None f h = omega arith
next_small T (Some r) f h = omega (arith, f r refl)

or_none : {A : Type 0} (o : Option A) → or_else o None ≡ o
or_none None = refl
or_none (Some a) = refl

pub last_fault : (d : Draft) (s : State) (i : ℕ) → s.foreign ≡ false → known d i ≡ true → next_arrival (period d i) (s.last i) ≤ s.clock → s.job i ≡ None → arrival_fault d s i ≡ unassured_fault d s i
last_fault d s i own k h free =
    ap (λ b. or_else (unless (not b) ForeignRule) (or_else (unknown_fault d i) (or_else (early_fault d s i) (or_else (pending_fault s i) (or_else (unassured_fault d s i) None))))) own
    ∙ ap (λ b. or_else (unless b (NoSuchTask i)) (or_else (early_fault d s i) (or_else (pending_fault s i) (or_else (unassured_fault d s i) None)))) k
    ∙ ap (λ b. or_else (unless b (TooEarly i (ticks (next_arrival (period d i) (s.last i))))) (or_else (pending_fault s i) (or_else (unassured_fault d s i) None))) (le-leb (next_arrival (period d i) (s.last i)) s.clock h)
    ∙ ap (λ o. or_else (pending_by i o) (or_else (unassured_fault d s i) None)) free
    ∙ or_none (unassured_fault d s i)

pub where_ok : {A E : Type 0} (P : Type 0) (r : Result A E) → P → elim r as (λ x. Type 0) [ Ok v ↦ P | Err e ↦ Unit {0} ]
where_ok P (Ok v) p = p
where_ok P (Err e) p = tt
