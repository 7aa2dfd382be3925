use Rattle.table.specs.Tasks.{low_assured, low_rest, high_worst}
use Rattle.table.proofs.draft_tasks.DraftTasks.figures.Given as goal

abbrev pub ghost-weighted_sum : goal.ghost-weighted_sum
ghost-weighted_sum a = low_assured

abbrev pub ghost-weighted_sum-2 : goal.ghost-weighted_sum-2
ghost-weighted_sum-2 a = low_rest

abbrev pub ghost-weighted_sum-3 : goal.ghost-weighted_sum-3
ghost-weighted_sum-3 a = high_worst
