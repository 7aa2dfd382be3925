use Rattle.std.proofs.Common.{◌≡◌, ◌+◌, ◌++◌, length, take}
use Rattle.scenario.specs.Left.{to_come}
use Rattle.transcript.specs.Steps.{amounts}
use Rattle.play.proofs.fields.tick_list.Given as goal

-- what was taken and what is to come make up the whole
abbrev pub invariant-loop-slot : goal.invariant-loop-slot
invariant-loop-slot l =
    let taken = l.slot-iterator.count in
    let left = to_come l.slot-iterator.iter in
    (length l.slots ≡ 32) × (taken + length left ≡ length (to_come l.fields)) × (take taken l.slots ++ amounts left ≡ amounts (to_come l.fields))
