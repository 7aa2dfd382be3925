use Rattle.std.proofs.Common.{◌≡◌, ◌<◌, length, take, refl, ◌∙◌, ap, arith}
use Rattle.std.proofs.lemmas.List.{take_all}
use Rattle.runs.specs.Numbers.{call_of}
use Rattle.trials.specs.Comparing.{is_over}
use Rattle.trials.proofs.Listed.{call_of_unanswered, count_none, count_more}
use Rattle.trials.proofs.playing.ticks_before_switch.Goals as goal

pub loop-call-init : goal.loop-call-init
loop-call-init g c = (refl, refl, omega arith, λ kind keeps p own. count_none kind _ _ _ _ c.args.calls.now p own)

pub loop-call-preserved : goal.loop-call-preserved
loop-call-preserved g c =
    let inv = c.loop-call.invariant in
    let e = c.answer.ensures in
    let lt : c.loop-call.call-index < length c.args.calls.now = omega arith in (
      e.fixed.0 ∙ inv.0,
      e.fixed.1 ∙ inv.1,
      omega (arith, c.after-count.ensures.slow, inv.2),
      λ kind keeps p own.
          let ext = simp (inv.0, inv.1) at (e.log kind (keeps c.answer.new.dispatcher.rule)) in
          count_more kind _ _ _ _ _ _ c.args.calls.now c.loop-call.call-index _ _ _ _ _ c.answer.result lt (inv.3 kind keeps p own) ext e.alike (e.call ∙ ap call_of c.from.ensures ∙ call_of_unanswered _) c.after-count.ensures.ticks c.after-count.ensures.over,
    )

pub returns : goal.returns
returns g c kind keeps p own =
    let all : take c.loop-call.call-index c.args.calls.now ≡ c.args.calls.now = take_all c.loop-call.call-index c.args.calls.now (omega arith) in
    (is_over c.loop-call.count, rw (c.ticks_of.ensures, ← all) (c.loop-call.invariant.3 kind keeps p own))
