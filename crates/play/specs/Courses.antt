-- The stage that a course stands for.
use Rattle.std.specs.Prelude.{◌≡◌, ℕ, suc, [], ◌++◌, Some, None, Ok, Err, Option, Result}
use Rattle.table.specs.Tables.{draft_of}
use Rattle.any_rule.specs.Any.{policy_of_base}
use Rattle.runs.specs.declared.answer.Answer.{Answer}
use Rattle.output.specs.declared.fault.Fault.{Fault}
use Rattle.transcript.specs.Shows.{new_show, answer_lines}
use Rattle.transcript.specs.Stages.{Stage, opening, tabling, ruled, showing, left_lines, left_stage}
use Rattle.transcript.specs.Steps.{Step}
use Rattle.play.specs.declared.course.Course.{Course}
use Rattle.play.specs.declared.course.Course.TheVariants.{Opening, Table, Rule, Work}
use Rattle.play.specs.declared.course.Printed.{Printed}
use Rattle.play.specs.declared.stop.Stop.{Stop}
use Rattle.play.specs.Shown.{show_of}
use Rattle.play.specs.Stops.{fault_of, IsNear}

abbrev pub stage_of : Course → Stage
stage_of Opening = opening
stage_of (Table o) = tabling o.scale o.total o.factor o.tasks
stage_of (Rule u) = ruled (draft_of u.table) (policy_of_base u.rule)
stage_of (Work w) = showing (show_of w)

-- the first event makes the dispatcher
abbrev pub started : Stage → Stage
started opening = opening
started (tabling h b f ts) = tabling h b f ts
started (ruled d policy) = showing (new_show d policy)
started (showing w) = showing w

-- what a line led to, with the stage behind it
abbrev pub result_of : Result Printed Fault → Stage → Result Step Fault
result_of (Ok p) stage = Ok (record { printed = p.line; left = p.left; stage = stage })
result_of (Err f) stage = Err f

-- the same as line n, a stop being a fault there
abbrev pub on_line : ℕ → Result Printed Stop → Result Printed Fault
on_line n (Ok p) = Ok p
on_line n (Err e) = Err (fault_of n e)

abbrev pub StopsNear : Result Printed Stop → Type 0
StopsNear (Ok p) = Unit {0}
StopsNear (Err e) = IsNear e

-- what a line led to is what is meant for it, whatever its number
pub record Leads (r : Result Printed Stop) (behind : Stage) (meant : ℕ → Result Step Fault) : Type 0 where
  pub to : (n : ℕ) → result_of (on_line n r) behind ≡ meant n
  pub near : StopsNear r

-- a tick, and how it leads on those behind it; without one, those behind it print nothing either
pub record Goes_on (s s' : Stage) (a : Answer) : Type 0 where
  pub lines : (k : ℕ) → left_lines (suc k) s ≡ answer_lines a ++ left_lines k s'
  pub stage : (k : ℕ) → left_stage (suc k) s ≡ left_stage k s'

pub record Halts (s s' : Stage) : Type 0 where
  pub lines : (k : ℕ) → left_lines (suc k) s ≡ []
  pub stage : (k : ℕ) → left_stage (suc k) s ≡ s'

abbrev pub TicksOn : Option Answer → Stage → Stage → Type 0
TicksOn (Some a) s s' = Goes_on s s' a
TicksOn None s s' = Halts s s'
