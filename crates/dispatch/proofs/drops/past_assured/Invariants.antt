use Rattle.std.proofs.Common.{◌≡◌, ℕ, ◌^◌, ◌<◌, ◌&&◌, ◌||◌}
use Rattle.table.specs.Tables.{draft_of}
use Rattle.order.specs.Bits.{bit}
use Rattle.order.specs.Slots.{slots_left}
use Rattle.order.proofs.Listed.{has}
use Rattle.dispatch.specs.Cores.{drops_at}
use Rattle.dispatch.proofs.drops.past_assured.Given as goal

-- with the slots that are left, the mask has all that are dropped
abbrev pub invariant-loop-slot : goal.invariant-loop-slot
invariant-loop-slot l = (l.past < 2 ^ 32)
    × ((k : ℕ) → (bit l.past k || (has k (slots_left l.slot-iterator) && drops_at (draft_of l.table) l.jobs k)) ≡ drops_at (draft_of l.table) l.jobs k)
