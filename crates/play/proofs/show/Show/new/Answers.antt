use Rattle.std.proofs.Common.{◌≡◌, ap, ◌∙◌}
use mathlib.Core.Path.{fun_ext}
use Rattle.table.specs.Tables.{draft_of}
use Rattle.runs.specs.States.{OfTable, new_state}
use Rattle.any_rule.specs.Any.{meaning_of_any, policy_of_any}
use Rattle.play.proofs.Showings.{show_is, told, not_foreign, rested_is}
use Rattle.play.proofs.show.Show.new.Goals as goal

pub returns : goal.returns
returns c =
    let d = draft_of c.args.table.now in
    let rule = c.args.rule in
    let e = c.new.ensures in
    let made = c.new.result.rule in
    let own : OfTable d (meaning_of_any rule) = record { weights = λ i l h. c.requires.weights i; total = c.requires.total } in
    let says : (meaning_of_any made).yes ≡ policy_of_any rule (meaning_of_any made).longest = told made ∙ ap (λ p. p (meaning_of_any made).longest) e.policy in
    show_is _ _ (ap draft_of e.fixed.0) e.policy (rested_is (policy_of_any rule) d (meaning_of_any rule) (meaning_of_any made) c.requires.weights c.requires.total e.rested says) (e.state ∙ ap new_state (not_foreign c.new.result.core.foreign d (meaning_of_any rule) e.judged own)) (fun_ext c.new-2.ensures)
