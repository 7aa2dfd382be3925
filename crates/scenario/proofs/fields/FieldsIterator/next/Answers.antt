use Rattle.std.proofs.Common.{length, ap, ◌∙◌, arith}
use Rattle.scenario.specs.Left.{left}
use Rattle.scenario.proofs.Pieces.{fields_behind}
use Rattle.scenario.proofs.fields.FieldsIterator.next.Goals as goal

pub returns-clause-steps : goal.returns-clause-steps
returns-clause-steps c = ap left c.in_ok-rest.was ∙ fields_behind _ _ _ c.before-field.ensures c.get-self.ensures.lookup

pub returns-clause-goes : goal.returns-clause-goes
returns-clause-goes c =
    let e = ap left c.in_ok-rest.was ∙ fields_behind _ _ _ c.before-field.ensures c.get-self.ensures.lookup in
    record { on = λ _. (tt, tt, omega (arith, ap length e)); keeps = tt; rests = λ _. tt }
