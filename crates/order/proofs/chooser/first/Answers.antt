use Rattle.std.proofs.Common.{ℕ, ◌+◌, ◌<◌, ◌≡◌, ◌∷◌, [], true, false, sym, ap, ◌∙◌, arith}
use Rattle.order.specs.declared.candidate.Candidate.{Candidate}
use Rattle.order.specs.Orders.{TieLaws}
use Rattle.order.specs.Bits.{slots_of}
use Rattle.order.specs.Slots.{slots_left}
use Rattle.order.proofs.Listed.{no_slots}
use Rattle.order.proofs.Looked.{none_offered, looked_first, looked_more, looked_all}
use Rattle.order.proofs.chooser.first.Given as given
use Rattle.order.proofs.chooser.first.Goals as goal

laws : (g : given.Over) (x : g.row.O.Denot) → TieLaws (g.O.TieOrder.ahead x)
laws g x = record { one_way = g.met.O.TieOrder.one_way x; transitive = g.met.O.TieOrder.transitive x; refines_deadlines = g.met.O.TieOrder.refines_deadlines x }

numbered : (g : given.Over) (x : g.row.C.Denot) (slot : ℕ) (made : Candidate) → made ≡ g.C.Candidates.at x slot → slot < 32 → made.number ≡ slot + 1
numbered g x slot made is low = rw is (g.met.C.Candidates.numbered x slot low)

pub returns-in_err-best : goal.returns-in_err-best
returns-in_err-best g c =
    let none : slots_of c.args.mask ≡ [] = sym c.of-slots.ensures ∙ c.in_err-best.ensures.steps.0 in
    rw c.from_residual.ensures (none_offered (g.O.TieOrder.ahead c.args.order.now) (g.C.Candidates.at c.args.candidates.now) (laws g c.args.order.now) c.args.mask (no_slots c.args.mask (omega arith) none))

pub loop-slot-init : goal.loop-slot-init
loop-slot-init g c =
    let first : slots_of c.args.mask ≡ c.in_ok-best.best ∷ slots_left c.into_iter-slot-iterator.result = sym c.of-slots.ensures ∙ c.in_ok-best.ensures.steps ∙ ap (λ s. c.in_ok-best.best ∷ slots_left s) (sym c.into_iter-slot-iterator.ensures.into_iter_gives) in
    looked_first (g.O.TieOrder.ahead c.args.order.now) (g.C.Candidates.at c.args.candidates.now) c.args.mask _ _ _ (omega arith) first c.candidate-leader.ensures (numbered g _ _ _ c.candidate-leader.ensures)

pub loop-slot-preserved-then-goes_ahead : goal.loop-slot-preserved-then-goes_ahead
loop-slot-preserved-then-goes_ahead g c = looked_more (g.O.TieOrder.ahead c.args.order.now) (g.C.Candidates.at c.args.candidates.now) c.args.mask _ _ _ _ _ _ true c.in-Some.ensures.steps c.candidate-rival.ensures (numbered g _ _ _ c.candidate-rival.ensures) (sym c.if-goes_ahead.true ∙ c.goes_ahead.ensures) c.loop-slot.invariant

pub loop-slot-preserved : goal.loop-slot-preserved
loop-slot-preserved g c = looked_more (g.O.TieOrder.ahead c.args.order.now) (g.C.Candidates.at c.args.candidates.now) c.args.mask _ _ _ _ _ _ false c.in-Some.ensures.steps c.candidate-rival.ensures (numbered g _ _ _ c.candidate-rival.ensures) (sym c.if-goes_ahead.false ∙ c.goes_ahead.ensures) c.loop-slot.invariant

pub returns : goal.returns
returns g c =
    let some : slots_of c.args.mask ≡ c.in_ok-best.best ∷ slots_left c.next.new.self = sym c.of-slots.ensures ∙ c.in_ok-best.ensures.steps in
    looked_all (g.O.TieOrder.ahead c.args.order.now) (g.C.Candidates.at c.args.candidates.now) (laws g c.args.order.now) c.args.mask (omega arith) c.loop-slot.best _ _ _ c.loop-slot.leader some c.in-None.ensures.steps.0 c.loop-slot.invariant
