use Rattle.std.proofs.Common.{◌≡◌, None}
use Rattle.table.specs.Tasks.{slot}
use Rattle.table.specs.Verdict.{tasks_fault}
use Rattle.table.proofs.draft_tasks.DraftTasks.check.Given as goal

abbrev pub invariant-loop-i : goal.invariant-loop-i
invariant-loop-i l = tasks_fault l.self.scale l.self.factor l.i (slot l.self.tasks.now) ≡ None
