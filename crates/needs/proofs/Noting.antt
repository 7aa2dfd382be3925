-- One need more.
use Rattle.std.proofs.Common.{◌≡◌, ℕ, zero, suc, ◌-◌, ◌<◌, ◌≤◌, true, cond, eqb, List, length, set, sym, refl, ap, ◌∙◌, arith, get_or-set_other, get_or-set_same}
use native.Mathlib.Decide.{ℕ_discrete}
use Rattle.std.proofs.lemmas.Bool.{ne_eqb, eq-eqb, le-leb}
use Rattle.tasks.specs.declared.units.Ticks.{Ticks}
use Rattle.table.specs.Tasks.{ticks}
use Rattle.table.specs.Verdict.{in_range}
use Rattle.budget.specs.Slots.{ticks_in}
use Rattle.needs.specs.Noted.{noted}

module _ (xs : List Ticks) (k : ℕ) (v : Ticks) (h : k < length xs) where
  written : (i : ℕ) → ticks_in (set xs k v) i ≡ cond (eqb i (suc k)) v.0 (ticks_in xs i)
  written zero = ap (λ b. cond b v.0 0) (sym (ne_eqb 0 (suc k) (λ q. omega (arith, q))))
  written (suc j) = elim (ℕ_discrete j k) [
    | yes e ↦ rw e (ap (λ x. x.0) (get_or-set_same xs k v (ticks 0) h) ∙ ap (λ b. cond b v.0 (ticks_in xs (suc k))) (sym (eq-eqb (suc k) (suc k) refl)))
    | no ne ↦ ap (λ x. x.0) (get_or-set_other xs k j v (ticks 0) (λ q. ne q)) ∙ ap (λ b. cond b v.0 (ticks_in xs (suc j))) (sym (ne_eqb (suc j) (suc k) (λ q. ne (omega (arith, q)))))
  ]

pub noted_slot : (xs : List Ticks) (task : ℕ) (v : Ticks) → 1 ≤ task → task ≤ 32 → length xs ≡ 32 → (i : ℕ) → ticks_in (set xs (task - 1) v) i ≡ noted (ticks_in xs) task v.0 i
noted_slot xs zero v low high long i = absurd (omega arith)
noted_slot xs (suc k) v low high long i =
    let inside : in_range 1 32 (suc k) ≡ true = rw (le-leb 1 (suc k) low, le-leb (suc k) 32 high) in
    let at : suc k - 1 ≡ k = omega arith in
    rw (inside, at) (written xs k v (omega (arith, long)) i)
