use Rattle.std.proofs.Common.{◌≡◌, ◌<◌, reverse, length, take, refl, ◌∙◌, arith}
use lib.Seq.{map-set_same}
use Rattle.std.proofs.lemmas.List.{take_all}
use Rattle.table.specs.Tables.{draft_of}
use Rattle.runs.specs.Numbers.{call_of}
use Rattle.runs.specs.Produced.{lawful, Keeps}
use Rattle.trials.proofs.Alikes.{alike_rested, alike_then}
use Rattle.trials.proofs.Listed.{log_more, young_more, young_none}
use Rattle.trials.proofs.replay.replay.Given as given
use Rattle.trials.proofs.replay.replay.Goals as goal

keeps : (g : given.Over) (x : g.row.R.Denot) → Keeps lawful (g.R.Rule.meaning x)
keeps g x = record { law = record { bounded = g.met.R.Rule.bounded x; silent = g.met.R.Rule.silent x; fits = g.met.R.Rule.fits x }; exactly = tt }

pub loop-entry-init : goal.loop-entry-init
loop-entry-init g c =
    let e = c.new-dispatcher.ensures in
    (e.fixed.0, e.fixed.1, refl, young_none (draft_of c.args.table.now) c.args.entries.now, e.log, record { weights = λ i. refl; total = refl })

pub loop-entry-preserved : goal.loop-entry-preserved
loop-entry-preserved g c =
    let xs = c.loop-entry.entries in
    let i = c.loop-entry.entry-index in
    let r = c.answer.result in
    let inv = c.loop-entry.invariant in
    let d = draft_of c.args.table.now in
    let lt : i < length xs = omega arith in
    let e = c.answer.ensures in
    let ext = simp (inv.0, inv.1) at (e.log lawful (keeps g c.answer.new.dispatcher.rule)) in
    let new = ext (reverse (take i xs)) inv.4 in (
      e.fixed.0 ∙ inv.0,
      e.fixed.1 ∙ inv.1,
      map-set_same call_of xs i r _ e.call ∙ inv.2,
      young_more d xs i r lt inv.3 new.1,
      rw (log_more xs i r lt) new.0,
      alike_then _ _ _ inv.5 e.alike,
    )

pub returns : goal.returns
returns g c =
    let xs = c.loop-entry.entries in
    let inv = c.loop-entry.invariant in
    let all : take c.loop-entry.entry-index xs ≡ xs = take_all c.loop-entry.entry-index xs (omega arith) in
    record {
      calls = inv.2;
      log = (c.loop-entry.dispatcher.rule, record { state = _; produced = rw all at inv.4 }, alike_then _ _ _ (alike_rested _ _ c.new-dispatcher.ensures.rested) inv.5);
      young = λ n l. inv.3 n (omega arith);
    }
