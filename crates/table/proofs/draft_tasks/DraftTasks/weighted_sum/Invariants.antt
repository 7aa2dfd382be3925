use Rattle.std.proofs.Common.{◌≡◌, ◌*◌, ◌≤◌}
use Rattle.table.specs.Tasks.{slot, weighted}
use Rattle.table.proofs.draft_tasks.DraftTasks.weighted_sum.Given as goal

abbrev pub invariant-loop-i : goal.invariant-loop-i
invariant-loop-i g l = (l.sum ≡ weighted l.self.scale l.i (slot l.self.tasks.now) g.part_of) × (l.sum ≤ l.i * 1000000)
