use Rattle.std.proofs.Common.{ap, ◌∙◌, arith}
use mathlib.Core.Path.{fun_ext}
use Rattle.table.specs.Tables.{draft_of}
use Rattle.runs.specs.Masks.{mask}
use Rattle.runs.proofs.Ties.{ties_stand}
use Rattle.dispatch.specs.Cores.{state_of}
use Rattle.dispatch.specs.Questions.{is_pending}
use Rattle.dispatch.proofs.Asked.{pending_mask}
use Rattle.dispatch.proofs.dispatcher.Dispatcher.pending.Goals as goal

pub returns : goal.returns
returns g c =
    let x = c.args.self.now in
    let is = pending_mask x.core.pending x.core.jobs (omega arith) x.fine.agrees in
    record {
      is = is;
      log = λ kind log p. is ∙ ap (λ jobs. mask 32 (is_pending jobs)) (fun_ext (ties_stand kind (draft_of x.table) (g.O.TieOrder.ahead x.order.now) log (g.R.Rule.meaning x.rule) (state_of x.core) p).job_is);
    }
