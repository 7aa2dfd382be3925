use Rattle.std.proofs.Common.{◌≡◌, ℕ, ◌∙◌, ap, ◌&&◌, arith}
use Rattle.std.proofs.lemmas.Grind.{common_steps}
use Rattle.table.specs.Tables.{draft_of}
use Rattle.order.specs.Bits.{bit}
use Rattle.order.proofs.Bits.{bit_none}
use Rattle.order.proofs.Listed.{has_first, slot_below}
use Rattle.runs.specs.Slots.{seat}
use Rattle.runs.specs.Ticking.{drops}
use Rattle.dispatch.specs.Cores.{drops_at}
use Rattle.dispatch.proofs.Masks.{mask_is, drops_seat, drops_pending}
use Rattle.dispatch.proofs.drops.past_assured.Goals as goal

pub loop-slot-init : goal.loop-slot-init
loop-slot-init c =
    let d = draft_of c.args.table.now in
    let jobs = c.args.jobs.now in
    (omega arith, λ k. rw (bit_none k) (ap (λ b. b && drops_at d jobs k) (has_first c.into_iter-slot-iterator.result c.of-slot-items.result c.args.pending k (omega arith) c.into_iter-slot-iterator.ensures.into_iter_gives c.of-slot-items.ensures ∙ c.requires.agrees k) ∙ drops_pending d jobs k))

pub is_past-requires-clause-low : goal.is_past-requires-clause-low
is_past-requires-clause-low c = slot_below c.loop-slot.slot-iterator.0 c.in-Some.slot _ c.in-Some.ensures.steps

pub returns-clause-is : goal.returns-clause-is
returns-clause-is c =
    let d = draft_of c.args.table.now in
    let jobs = c.args.jobs.now in
    let all : (k : ℕ) → bit c.loop-slot.past k ≡ drops_at d jobs k = λ k. grind (arith, common_steps, c.loop-slot.invariant.1 k, c.in-None.ensures.steps.0) in
    mask_is c.loop-slot.past (drops d (seat jobs)) (omega arith) (λ k. all k ∙ drops_seat d jobs k)
