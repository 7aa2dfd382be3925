use Rattle.std.proofs.Common.{is_some, ap, ◌∙◌}
use Rattle.scenario.specs.Readers.{text_of, place_of}
use Rattle.scenario.specs.Whole.{fault_from}
use Rattle.scenario.proofs.Whole.{answer_same}
use Rattle.scenario.proofs.reader.check_text.Goals as goal

pub loop-preserved : goal.loop-preserved
loop-preserved c =
    let r = c.loop.reader in
    let answer = c.in_ok-next_line.ensures in
    let same = answer_same (text_of r) (place_of r) c.in_ok-next_line.field-0 (ap is_some c.in-Some.is) answer.item in (
      answer.text ∙ c.loop.invariant.0,
      rw (← c.loop.invariant.0) (ap (fault_from (text_of r)) answer.place ∙ same ∙ rw c.loop.invariant.0 c.loop.invariant.1),
    )
