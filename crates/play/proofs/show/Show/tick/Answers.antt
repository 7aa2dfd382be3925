use Rattle.std.proofs.Common.{◌≡◌, refl, ap, ◌∙◌}
use Rattle.table.specs.Tables.{draft_of}
use Rattle.order.specs.Ties.{by_number}
use Rattle.runs.specs.Programs.{meaning_after}
use Rattle.runs.specs.Ticking.{tick, after_tick}
use Rattle.any_rule.specs.Any.{meaning_of_any, policy_of_any}
use Rattle.dispatch.specs.Cores.{state_of}
use Rattle.transcript.specs.Policies.{by_policy}
use Rattle.play.proofs.Showings.{show_is, told, after_is}
use Rattle.play.proofs.show.Show.tick.Goals as goal

pub returns : goal.returns
returns c =
    let x = c.args.self.now.dispatcher in
    let d = draft_of x.table in
    let s = state_of x.core in
    let m = meaning_of_any x.rule in
    let policy = policy_of_any x.rule in
    let e = c.tick.ensures in
    let marked = c.mark-mark.ensures in
    let after = c.tick.new.self.rule in
    let says : (meaning_of_any after).yes ≡ policy (meaning_of_any after).longest = told after ∙ ap (λ p. p (meaning_of_any after).longest) e.policy in
    record {
      answer = e.answer ∙ ap (tick d by_number m.yes s) marked;
      show = show_is _ _ (ap draft_of e.fixed.0) e.policy (after_is policy d by_number s c.mark-mark.result m (meaning_of_any after) e.rule says ∙ ap (λ k. meaning_after d by_number (by_policy policy) 0 s k m) marked) (e.state ∙ ap (after_tick d by_number m.yes s) marked) refl;
    }
