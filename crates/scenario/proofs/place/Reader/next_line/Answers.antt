use Rattle.std.proofs.Common.{◌+◌, length, drop, sym, ap, ◌∙◌, arith}
use Rattle.std.proofs.lemmas.Grind.{common_steps}
use Rattle.std.proofs.lemmas.List.{take_rest}
use Rattle.output.specs.Lines.{lines, before}
use Rattle.scenario.specs.Left.{others}
use Rattle.scenario.specs.Shown.{shown}
use Rattle.scenario.proofs.Good.{read_good}
use Rattle.scenario.proofs.Reading.{next_line, lines_at}
use Rattle.scenario.proofs.place.Reader.next_line.Goals as goal

pub returns-in-Err-clause-item : goal.returns-in-Err-clause-item
returns-in-Err-clause-item c =
    let s = c.args.self.now in
    let e = next_line s.text.now s.place (omega arith) (omega arith) in
    grind (arith, common_steps)

pub returns-clause-item : goal.returns-clause-item
returns-clause-item c =
    let s = c.args.self.now in
    let e = next_line s.text.now s.place (omega arith) (omega arith) in
    grind (arith, common_steps)

pub returns-clause-lines : goal.returns-clause-lines
returns-clause-lines c =
    let s = c.args.self.now in
    let line = c.before-bytes.ensures ∙ ap (before 10) (take_rest s.text.now s.place.at) in
    ap (λ n. lines (drop (s.place.at + n + 1) s.text.now)) (ap length line) ∙ sym (ap others (lines_at s.text.now s.place.at (omega arith)))

pub returns-clause-good : goal.returns-clause-good
returns-clause-good c =
    let s = c.args.self.now in
    read_good s.place.phase (before 10 (drop s.place.at s.text.now)) (shown c.in-Ok.read) (grind (arith, common_steps))
