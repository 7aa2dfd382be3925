-- Slots by task number: one slot written, and none filled.
use Rattle.std.proofs.Common.{◌≡◌, ℕ, zero, suc, ◌-◌, ◌<◌, ◌≤◌, cond, List, length, get_or, set, replicate, None, Option, sym, refl, ap, ◌∙◌, arith, get_or-set_other, get_or-set_same}
use mathlib.Core.Path.{fun_ext}
use native.Mathlib.Decide.{ℕ_discrete}
use Rattle.std.proofs.lemmas.Bool.{eq-eqb, ne_eqb}
use Rattle.runs.specs.States.{put}
use Rattle.runs.specs.Slots.{seat}

seat_put_at : {A : Type 0} (xs : List (Option A)) (k : ℕ) (v : Option A) → k < length xs → (i : ℕ) → seat (set xs k v) i ≡ put (seat xs) (suc k) v i
seat_put_at xs k v l zero = ap (λ b. cond b v None) (sym (ne_eqb 0 (suc k) (λ e. omega arith)))
seat_put_at xs k v l (suc i) =
    elim (ℕ_discrete i k) [
      | yes e ↦ rw (e, eq-eqb (suc k) (suc k) refl) (get_or-set_same xs k v None l)
      | no ne ↦ get_or-set_other xs k i v None ne ∙ ap (λ b. cond b v (get_or xs i None)) (sym (ne_eqb (suc i) (suc k) (λ e. ne (omega arith))))
    ]

-- slot i - 1 written is number i put
pub seat_put : {A : Type 0} (xs : List (Option A)) (i : ℕ) (v : Option A) → 1 ≤ i → i ≤ length xs → seat (set xs (i - 1) v) ≡ put (seat xs) i v
seat_put xs zero v lo hi = absurd (omega arith)
seat_put xs (suc k) v lo hi = let e : suc k - 1 ≡ k = omega arith in rw e (fun_ext (seat_put_at xs k v hi))

seat_none_at : {A : Type 0} (n k : ℕ) → get_or {A = Option A} (replicate n None) k None ≡ None
seat_none_at zero k = refl
seat_none_at (suc n) zero = refl
seat_none_at (suc n) (suc k) = seat_none_at n k

seat_none_by : {A : Type 0} (n i : ℕ) → seat {A = A} (replicate n None) i ≡ None
seat_none_by n zero = refl
seat_none_by n (suc k) = seat_none_at n k

pub seat_none : {A : Type 0} (n : ℕ) → seat {A = A} (replicate n None) ≡ (λ i. None)
seat_none n = fun_ext (seat_none_by n)

pub seat_at : {A : Type 0} (xs : List (Option A)) (i : ℕ) → 1 ≤ i → seat xs i ≡ get_or xs (i - 1) None
seat_at xs zero lo = absurd (omega arith)
seat_at xs (suc k) lo = let e : suc k - 1 ≡ k = omega arith in rw e
