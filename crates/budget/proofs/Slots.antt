-- Laws of what rules keep for each task.
use Rattle.std.proofs.Common.{◌≡◌, ℕ, zero, suc, ◌<◌, ◌≤◌, List, length, replicate, unwrap_or, refl, ap, arith}
use Rattle.std.proofs.lemmas.List.{get_or_past}
use Rattle.std.proofs.lemmas.Option.{unwrap_or-slice_get}
use Rattle.tasks.specs.declared.units.Shares.{Shares}
use Rattle.tasks.specs.declared.units.Ticks.{Ticks}
use Rattle.tasks.specs.Slots.{at_number}
use Rattle.tasks.proofs.Blanks.{blanks}
use Rattle.table.specs.Tasks.{ticks, shares}
use Rattle.budget.specs.Slots.{weight_in, ticks_in}

pub ticks_none : (k : ℕ) → ticks_in (replicate 32 (ticks 0)) k ≡ 0
ticks_none zero = refl
ticks_none (suc k) = ap (λ t. t.0) (blanks (ticks 0) 32 k)

-- what is read by a task's number
pub ticks_read : (xs : List Ticks) (i : ℕ) → (unwrap_or (at_number xs i) (ticks 0)).0 ≡ ticks_in xs i
ticks_read xs zero = refl
ticks_read xs (suc k) = ap (λ t. t.0) (unwrap_or-slice_get xs k (ticks 0))

-- nothing is kept past the last slot
pub weight_past : (ws : List Shares) (k : ℕ) → length ws ≤ k → weight_in ws (suc k) ≡ 0
weight_past ws k h = ap (λ w. w.0) (get_or_past ws k (shares 0) h)

pub ticks_past : (xs : List Ticks) (i : ℕ) → length xs < i → ticks_in xs i ≡ 0
ticks_past xs zero h = refl
ticks_past xs (suc k) h = ap (λ t. t.0) (get_or_past xs k (ticks 0) (omega (arith, h)))
