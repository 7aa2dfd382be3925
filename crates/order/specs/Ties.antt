-- What each tie order means.
use Rattle.std.specs.Prelude.{ℕ, Bool, true, false, cond, nat_lt}
use Rattle.tasks.specs.declared.task.Level.{Level}
use Rattle.tasks.specs.declared.task.Level.TheVariants.{High, Low}
use Rattle.order.specs.Orders.{Ahead}

-- the smaller key goes first; at equal keys it is as the tie is decided
abbrev pub smaller_or : ℕ → ℕ → Bool → Bool
smaller_or x y tie = cond (nat_lt x y) true (cond (nat_lt y x) false tie)

-- high before low
abbrev pub rank : Level → ℕ
rank High = 0
rank Low = 1

-- by deadline, then number
abbrev pub by_number : Ahead
by_number a b = smaller_or a.deadline.0 b.deadline.0 (nat_lt a.number b.number)

-- high before low, then number
abbrev pub high_then_number : Ahead
high_then_number a b = smaller_or (rank a.level) (rank b.level) (nat_lt a.number b.number)

-- by deadline, then high before low, then number
abbrev pub high_first : Ahead
high_first a b = smaller_or a.deadline.0 b.deadline.0 (high_then_number a b)
