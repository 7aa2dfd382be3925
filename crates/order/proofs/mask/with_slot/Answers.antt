use Rattle.std.proofs.Common.{◌≡◌, true, ltb}
use Rattle.std.proofs.lemmas.Nat.{one_shl}
use Rattle.std.proofs.lemmas.Bool.{lt-ltb}
use Rattle.order.proofs.Bits.{bit_with}
use Rattle.order.proofs.mask.with_slot.Goals as goal

pub returns-then-slot-lt32 : goal.returns-then-slot-lt32
returns-then-slot-lt32 c k =
    let m = c.args.mask in
    let s = c.args.slot in
    let low : ltb s 32 ≡ true = lt-ltb s 32 c.if-slot-lt32.true in
    rw (one_shl s 32 c.if-slot-lt32.true, low) (bit_with m s k)
