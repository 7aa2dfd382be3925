-- How far a scenario has come.
use Rattle.std.specs.Prelude.{ℕ, List, []}
use Rattle.tasks.specs.declared.task.Factor.{Factor}
use Rattle.tasks.specs.declared.task.Task.{Task}
use Rattle.tasks.specs.declared.units.Shares.{Shares}
use Rattle.table.specs.Verdict.{Draft}
use Rattle.output.specs.declared.output.OutputLine.{OutputLine}
use Rattle.transcript.specs.Policies.{Policy}
use Rattle.transcript.specs.Shows.{Show, run_lines, run_show}

pub data Stage : Type 0 where
  -- before the S line
  opening : Stage
  -- behind it, with the tasks so far
  tabling : Shares → Shares → Factor → List Task → Stage
  -- the table is accepted and the rule is made; a ceiling may follow
  ruled : Draft → Policy → Stage
  -- the dispatcher is at work
  showing : Show → Stage

-- what n ticks that are still to run print
abbrev pub left_lines : ℕ → Stage → List OutputLine
left_lines n opening = []
left_lines n (tabling h b f ts) = []
left_lines n (ruled d policy) = []
left_lines n (showing w) = run_lines n w

abbrev pub left_stage : ℕ → Stage → Stage
left_stage n opening = opening
left_stage n (tabling h b f ts) = tabling h b f ts
left_stage n (ruled d policy) = ruled d policy
left_stage n (showing w) = showing (run_show n w)
