-- Candidates of slots, and the turn that is taken.
use Rattle.std.specs.Prelude.{ℕ, ◌+◌, cond, List, Some, None, Option, nat_lt, slice_index_or}
use Rattle.std.specs.Option.{option_map}
use Rattle.tasks.specs.declared.task.Level.TheVariants.{High as HighLevel}
use Rattle.table.specs.Verdict.{Draft}
use Rattle.order.specs.declared.candidate.Candidate.{Candidate}
use Rattle.order.specs.Orders.{Ahead, candidate}
use Rattle.runs.specs.declared.answer.Mode.{Mode}
use Rattle.runs.specs.declared.answer.Mode.TheVariants.{High, Low}
use Rattle.runs.specs.declared.answer.Job.{Job}
use Rattle.runs.specs.States.{the_task, is_high}
use Rattle.runs.specs.Slots.{seat}
use Rattle.runs.specs.Choices.{contender, Turn, turn}
use Rattle.dispatch.specs.declared.state.Core.{Core}
use Rattle.dispatch.specs.declared.turn.Taken.{Taken}

-- the job of a slot below 32
abbrev pub slot_of : List (Option Job) → ℕ → Option Job
slot_of jobs k = cond (nat_lt k 32) (slice_index_or jobs k None) None

-- the candidate of slot k; a slot without a job is never offered
abbrev pub rival : Mode → Draft → ℕ → Option Job → Candidate
rival mode d k None = candidate 0 HighLevel (cond (nat_lt k 32) (k + 1) 0)
rival mode d k (Some j) = contender mode d (k + 1) j

abbrev pub turn_of_taken : Taken → Turn
turn_of_taken t = record { number = t.number; job = t.job }

-- a turn with its task
abbrev pub taken_of : Draft → Turn → Taken
taken_of d t = record { number = t.number; task = the_task d t.number; job = t.job }

-- the turn in a mode, with its task
abbrev pub first_taken : Draft → Ahead → Mode → Core → Option Taken
first_taken d ahead mode c = option_map (taken_of d) (turn ahead mode d (seat c.jobs))

-- the turn that the rule is asked about: in low mode that of a high task
abbrev pub asked_of : Mode → Taken → Option Turn
asked_of High t = None
asked_of Low t = cond (is_high t.task.criticality) (Some (turn_of_taken t)) None
