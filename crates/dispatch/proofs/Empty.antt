-- The parts of a new dispatcher.
use Rattle.std.proofs.Common.{◌≡◌, ℕ, zero, suc, Bool, get_or, replicate, is_some, Some, None, Option, sym, refl, ap, ◌∙◌, arith}
use Rattle.order.proofs.Bits.{bit_none}
use Rattle.table.specs.Verdict.{Draft}
use Rattle.table.specs.Tasks.{ticks}
use Rattle.runs.specs.declared.answer.Mode.TheVariants.{Low}
use Rattle.runs.specs.States.{new_state}
use Rattle.runs.proofs.Slots.{seat_none}
use Rattle.dispatch.specs.declared.state.Core.{Core}
use Rattle.dispatch.specs.Cores.{Fine, state_of}
use Rattle.dispatch.proofs.Seats.{state_is}

getD_none : {A : Type 0} (n k : ℕ) → get_or {A = Option A} (replicate n None) k None ≡ None
getD_none zero k = refl
getD_none (suc n) zero = refl
getD_none (suc n) (suc k) = getD_none n k

never : {A : Type 0} (n k : ℕ) (a : A) → get_or {A = Option A} (replicate n None) k None ≡ Some a → ⊥
never {A} n k a e = let q : get_or {A = Option A} (replicate n None) k None ≡ None = getD_none n k in let z : ◌≡◌ {A = ℕ} 0 1 = cc in omega arith

abbrev pub empty : Bool → Core
empty foreign = record { foreign = foreign; clock = ticks 0; mode = Low; pending = 0; jobs = replicate 32 None; last = replicate 32 None }

pub empty_state : (foreign : Bool) → state_of (empty foreign) ≡ new_state foreign
empty_state foreign = state_is (state_of (empty foreign)) (new_state foreign) refl refl refl (seat_none 32) (seat_none 32)

pub empty_fine : (foreign : Bool) (d : Draft) → Fine d (empty foreign)
empty_fine foreign d = record {
  agrees = λ k. bit_none k ∙ ap is_some (sym (getD_none 32 k));
  owned = λ k j e. absurd (never 32 k j e);
  arrived = λ k j e. absurd (never 32 k j e);
  run = λ k j e. absurd (never 32 k j e);
  lasts = λ k r e. absurd (never 32 k r e);
  clocked = omega arith;
  slots = refl;
  seats = refl;
}
