use Rattle.std.proofs.Common.{rules, arith, ◌≡◌, ◌∷◌, ◌<◌, length, ap}
use Rattle.order.specs.Bits.{lowest, slots_of}
use Rattle.order.proofs.Listed.{slots_none, slots_more}
use Rattle.order.proofs.slots.SlotsIterator.next.Goals as goal

pub returns-then-self-eq0-clause-steps : goal.returns-then-self-eq0-clause-steps
returns-then-self-eq0-clause-steps c = let none = slots_none c.args.self.now.0 c.if-self-eq0.true in (none, none)

pub returns-clause-steps : goal.returns-clause-steps
returns-clause-steps c = slots_more c.args.self.now.0 c.without_lowest-self.result (omega arith) c.if-self-eq0.false c.without_lowest-self.ensures.bits

pub returns-clause-goes : goal.returns-clause-goes
returns-clause-goes c =
    let more : slots_of c.args.self.now.0 ≡ lowest c.args.self.now.0 ∷ slots_of c.without_lowest-self.result = slots_more c.args.self.now.0 c.without_lowest-self.result (omega arith) c.if-self-eq0.false c.without_lowest-self.ensures.bits in
    let less : length (slots_of c.without_lowest-self.result) < length (slots_of c.args.self.now.0) = omega (arith, ap length more) in
    search rules
