use Rattle.std.proofs.Common.{◌≡◌, Ok, sym, ap, ◌∙◌, rules}
use Rattle.std.proofs.lemmas.Result.{err_from_is_err_and}
use Rattle.scenario.specs.Readers.{text_of, place_of, lines_left}
use Rattle.scenario.specs.Reading.{moved, lines_after, shown_next}
use Rattle.scenario.specs.Shown.{shown}
use Rattle.play.specs.Courses.{stage_of}
use Rattle.play.proofs.Boarding.{ends, faults, told, carries_on}
use Rattle.play.proofs.pulling.carry_on.Goals as goal

pub returns-in_err-line : goal.returns-in_err-line
returns-in_err-line c =
    let r = c.args.reader.now in
    let p = err_from_is_err_and c.from_residual.result c.from_residual.ensures.1 in
    rw (p.1, p.2) (faults (text_of r) (place_of r) (stage_of c.args.course.now) c.in_err-line.field-0.0 c.in_err-line.ensures.item)

pub returns-in_default : goal.returns-in_default
returns-in_default c =
    let r = c.args.reader.now in
    ends (text_of r) (place_of r) (stage_of c.args.course.now) (ap (λ o. shown_next (Ok o)) (sym c.in_default.is) ∙ c.in_ok-line.ensures.item)

pub returns : goal.returns
returns c =
    let r = c.args.reader.now in
    let r' = c.next_line.new.self in
    let e = c.in_ok-line.ensures in
    let is = c.in-Some.is in
    let same : c.map.result ≡ told c.carry_out.result = search rules in
    carries_on r r' c.args.course.now c.carry_out.new.self (shown c.in-Some.line) c.line_number-number.result c.carry_out.result c.map.result
    (ap (λ o. shown_next (Ok o)) (sym is) ∙ e.item)
    c.line_number-number.ensures
    e.text
    (e.place ∙ ap (λ o. moved (text_of r) (place_of r) (shown_next (Ok o))) is)
    (e.lines ∙ ap (λ o. lines_after (shown_next (Ok o)) (lines_left r)) is)
    c.carry_out.ensures
    same
