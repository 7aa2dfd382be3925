use Rattle.std.proofs.Common.{ap, ◌∙◌}
use Rattle.table.specs.Tables.{draft_of}
use Rattle.transcript.specs.Shows.{new_show}
use Rattle.play.proofs.ruled.Ruled.start_under.Goals as goal

pub returns-clause-made : goal.returns-clause-made
returns-clause-made c = c.new.ensures ∙ ap (new_show (draft_of c.args.self.now.table)) c.in_ok-rule.ensures.policy
