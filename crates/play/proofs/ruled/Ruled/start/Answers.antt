use Rattle.std.proofs.Common.{ap, ◌∙◌}
use Rattle.table.specs.Tables.{draft_of}
use Rattle.transcript.specs.Shows.{new_show}
use Rattle.play.proofs.ruled.Ruled.start.Goals as goal

pub returns : goal.returns
returns c = c.new.ensures ∙ ap (new_show (draft_of c.args.self.now.table)) c.plain.ensures.policy
