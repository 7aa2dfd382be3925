use Rattle.order.specs.Slots.{slots_left}
use Rattle.order.proofs.Looked.{Looked}
use Rattle.order.proofs.chooser.first.Given as goal

-- going on from the best slot over those that are left gives the first choice
abbrev pub invariant-loop-slot : goal.invariant-loop-slot
invariant-loop-slot g l = Looked (g.O.TieOrder.ahead l.order) (g.C.Candidates.at l.candidates) l.mask (slots_left l.slot-iterator) l.best l.leader
