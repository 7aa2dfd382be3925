use Rattle.std.proofs.Common.{refl}
use Rattle.table.specs.Tables.{draft_of}
use Rattle.runs.specs.declared.answer.Mode.TheVariants.{High}
use Rattle.dispatch.specs.declared.state.Core.{Core}
use Rattle.dispatch.proofs.Fines.{fine_switched}
use Rattle.dispatch.proofs.dispatcher.Dispatcher.switch.Goals as goal

pub invariant_of-self : goal.invariant_of-self
invariant_of-self g c =
    let x = c.args.self.now in
    let s = x.core in
    let s' : Core = record { foreign = s.foreign; clock = s.clock; mode = High; pending = c.without-self.result; jobs = c.clear.new.jobs; last = s.last } in
    record { fine = fine_switched (draft_of x.table) s s' c.past_assured-dropped.result c.past_assured-dropped.ensures.bits c.clear.ensures.at x.fine refl refl c.clear.ensures.long c.without-self.ensures }
