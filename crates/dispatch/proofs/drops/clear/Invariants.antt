use Rattle.std.proofs.Common.{◌≡◌, ℕ, cond, length, get_or, None}
use Rattle.order.specs.Bits.{bit}
use Rattle.order.specs.Slots.{slots_left}
use Rattle.order.proofs.Listed.{has}
use Rattle.dispatch.proofs.drops.clear.Given as goal

-- with the slots that are left cleared too, those of the mask are clear
abbrev pub invariant-loop-slot : goal.invariant-loop-slot
invariant-loop-slot l = (length l.jobs ≡ 32)
    × ((k : ℕ) → cond (has k (slots_left l.slot-iterator)) None (get_or l.jobs k None) ≡ cond (bit l.mask k) None (get_or l.initial.jobs k None))
