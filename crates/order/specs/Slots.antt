-- An iterator over the slots of a mask.
use Rattle.std.specs.Prelude.{ℕ, List}
use Rattle.order.specs.declared.slots.Slots.{Slots}
use Rattle.order.specs.Bits.{slots_of}

-- the slots that it has left
abbrev pub slots_left : Slots → List ℕ
slots_left s = slots_of s.0
