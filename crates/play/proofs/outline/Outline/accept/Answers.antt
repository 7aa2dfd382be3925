use Rattle.std.proofs.Common.{length, ap, ◌∙◌}
use Rattle.table.specs.Firsts.{refusal}
use Rattle.table.specs.Verdict.{drafted, verdict}
use Rattle.play.specs.Views.{draft_in}
use Rattle.play.proofs.Coursing.{verdict_near}
use Rattle.play.proofs.outline.Outline.accept.Goals as goal

pub returns-clause-near : goal.returns-clause-near
returns-clause-near c =
    let x = c.args.self.now in
    verdict_near (draft_in x) (refusal c.accept.result) c.as_slice.ensures.few (c.accept.ensures.verdict ∙ ap (λ ts. verdict (drafted x.scale x.total x.factor (length ts) ts)) c.as_slice.ensures.tasks)
