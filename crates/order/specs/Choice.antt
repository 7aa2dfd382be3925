-- The first of the candidates that are offered. Task number k + 1 stands at slot k.
use Rattle.std.specs.Prelude.{◌≡◌, ℕ, zero, suc, ◌+◌, Bool, true, false, cond, not, ◌&&◌, ◌≢◌, is_some, Some, None, Option, ◌==◌, nat_lt}
use Rattle.order.specs.declared.candidate.Candidate.{Candidate}
use Rattle.order.specs.Bits.{bit}
use Rattle.order.specs.Orders.{Ahead}

-- the candidate of each offered slot has the slot's number
abbrev pub Numbered : (ℕ → Candidate) → (ℕ → Bool) → Type 0
Numbered at offered = (k : ℕ) → offered k ≡ true → (at k).number ≡ k + 1

-- slot k is offered, and its candidate goes ahead of that of every other offered slot
pub record First (ahead : Ahead) (at : ℕ → Candidate) (offered : ℕ → Bool) (k : ℕ) : Type 0 where
  pub is_offered : offered k ≡ true
  pub leads : (j : ℕ) → offered j ≡ true → j ≢ k → ahead (at k) (at j) ≡ true

-- r is the first offered slot, or none where none is offered
abbrev pub Chosen : Ahead → (ℕ → Candidate) → (ℕ → Bool) → Option ℕ → Type 0
Chosen ahead at offered None = (k : ℕ) → offered k ≡ false
Chosen ahead at offered (Some k) = First ahead at offered k

-- the offered slots below n
abbrev pub below : ℕ → (ℕ → Bool) → ℕ → Bool
below n offered k = nat_lt k n && offered k

-- of the slot chosen so far and one more, the one whose candidate goes ahead
abbrev pub leader : Ahead → (ℕ → Candidate) → Option ℕ → ℕ → ℕ
leader ahead at None k = k
leader ahead at (Some b) k = cond (ahead (at k) (at b)) k b

-- the first offered slot below n, found slot by slot
unfoldable pub choice_below : ℕ → Ahead → (ℕ → Candidate) → (ℕ → Bool) → Option ℕ
choice_below zero ahead at offered = None
choice_below (suc n) ahead at offered = cond (offered n) (Some (leader ahead at (choice_below n ahead at offered) n)) (choice_below n ahead at offered)

-- the first offered of the 32 slots
abbrev pub first_choice : Ahead → (ℕ → Candidate) → (ℕ → Bool) → Option ℕ
first_choice ahead at offered = choice_below 32 ahead at offered

-- what is chosen from the slots of a 32-bit mask: the first one, which nothing else is, and none only from an empty mask
pub record ChosenFrom (ahead : Ahead) (at : ℕ → Candidate) (mask : ℕ) (r : Option ℕ) : Type 0 where
  pub chosen : Chosen ahead at (bit mask) r
  pub only : (s : Option ℕ) → Chosen ahead at (bit mask) s → s ≡ r
  pub some : is_some r ≡ not (mask == 0)
  pub computed : r ≡ first_choice ahead at (bit mask)
