-- One tick: its refusals, its six steps, its answer, the state after it, and what the rule was asked.
use Rattle.std.specs.Prelude.{◌≡◌, ℕ, suc, ◌+◌, ◌^◌, Bool, true, false, cond, not, [], ◌∷◌, Some, None, Ok, Err, Option, Result, ◌==◌, nat_lt}
use Rattle.tasks.specs.declared.task.Task.{Task}
use Rattle.tasks.specs.declared.task.Criticality.{Criticality}
use Rattle.tasks.specs.declared.task.Criticality.TheVariants.{High as HighTask, Low as LowTask}
use Rattle.table.specs.Firsts.{first_of, first_below, unless}
use Rattle.table.specs.Tasks.{ticks}
use Rattle.table.specs.Verdict.{Draft}
use Rattle.order.specs.Orders.{Ahead}
use Rattle.budget.specs.Meaning.{Meaning, Granted, Rested}
use Rattle.runs.specs.declared.answer.Mode.{Mode}
use Rattle.runs.specs.declared.answer.Mode.TheVariants.{High, Low}
use Rattle.runs.specs.declared.answer.Ending.{Ending}
use Rattle.runs.specs.declared.answer.Ending.TheVariants.{Done, Limit, Short}
use Rattle.runs.specs.declared.answer.Job.{Job}
use Rattle.runs.specs.declared.answer.Answer.{Answer}
use Rattle.runs.specs.declared.call.Mark.{Mark}
use Rattle.runs.specs.declared.call.Mark.TheVariants.{Done as MarkDone, NotDone}
use Rattle.runs.specs.declared.refusal.TickRefusal.{TickRefusal}
use Rattle.runs.specs.declared.refusal.TickRefusal.TheVariants.{ForeignRule, ClockEnd}
use Rattle.runs.specs.States.{State, job_of, put, the_task, rank, is_high, within, is_none}
use Rattle.runs.specs.Masks.{mask}
use Rattle.runs.specs.Choices.{Turn, turn}

-- refusals

-- 19
abbrev pub foreign_fault : State → Option TickRefusal
foreign_fault s = unless (not s.foreign) ForeignRule

-- 14
abbrev pub end_fault : State → Option TickRefusal
end_fault s = unless (nat_lt s.clock (2 ^ 40)) (ClockEnd (ticks s.clock))

abbrev pub tick_fault : State → Option TickRefusal
tick_fault s = first_of (foreign_fault s ∷ end_fault s ∷ [])

-- step 2: in low mode the rule is asked about the first candidate, if that is high

abbrev pub asked_by : Draft → Mode → Option Turn → Option Turn
asked_by d High t = None
asked_by d Low None = None
asked_by d Low (Some t) = cond (is_high (rank d t.number)) (Some t) None

abbrev pub asked : Draft → Ahead → State → Option Turn
asked d ahead s = asked_by d s.mode (turn ahead Low d s.job)

abbrev pub denied : (ℕ → ℕ → Bool) → Option Turn → Bool
denied says None = false
denied says (Some t) = not (says t.number t.job.run.0)

-- step 3: on a denial the mode becomes high, and every pending low job with run ≥ g is dropped

abbrev pub switches : Draft → Ahead → (ℕ → ℕ → Bool) → State → Bool
switches d ahead says s = denied says (asked d ahead s)

abbrev pub drops_by : Criticality → Option Job → Bool
drops_by c None = false
drops_by c (Some j) = not (within c j.run.0)

-- whether a switch drops the job of task i
abbrev pub drops : Draft → (ℕ → Option Job) → ℕ → Bool
drops d jobs i = drops_by (rank d i) (jobs i)

abbrev pub kept : Draft → (ℕ → Option Job) → ℕ → Option Job
kept d jobs i = cond (drops d jobs i) None (jobs i)

abbrev pub running_mode : Bool → Mode → Mode
running_mode true mode = High
running_mode false mode = mode

abbrev pub running_jobs : Bool → Draft → (ℕ → Option Job) → ℕ → Option Job
running_jobs true d jobs = kept d jobs
running_jobs false d jobs = jobs

-- step 5: how the served job ends, if it does, at the run that it has now had

abbrev pub falls_short : Mode → Criticality → ℕ → Bool
falls_short Low c run = false
falls_short High HighTask run = false
falls_short High (LowTask g) run = run == g.0

abbrev pub ending : Task → Mode → Mark → ℕ → Option Ending
ending t mode MarkDone run = Some Done
ending t mode NotDone run = cond (run == t.worst.0) (Some Limit) (cond (falls_short mode t.criticality run) (Some Short) None)

abbrev pub served : Option Ending → Job → Option Job
served (Some e) j = None
served None j = Some (job_of j.arrival.0 (j.run.0 + 1))

-- step 6: with no job pending the mode is low, and the rule is set to rest

abbrev pub none_pending : (ℕ → Option Job) → Bool
none_pending jobs = is_none (first_below 32 (λ k. jobs (suc k)))

-- what an accepted tick leads to
pub record Outcome : Type 0 where
  pub answer : Answer
  pub state : State
  pub rests : Bool

abbrev pub settled_mode : Bool → Mode → Mode
settled_mode true mode = Low
settled_mode false mode = mode

-- the jobs after a turn
abbrev pub jobs_after : Draft → Mode → Mark → (ℕ → Option Job) → Turn → ℕ → Option Job
jobs_after d mode mark jobs t = put jobs t.number (served (ending (the_task d t.number) mode mark (t.job.run.0 + 1)) t.job)

-- step 1 where nothing is pending, else steps 5 and 6; the mode and the jobs are those after step 3
abbrev pub outcome_by : Draft → State → Mark → Bool → Mode → (ℕ → Option Job) → Option Turn → Outcome
outcome_by d s mark switched mode jobs None = record {
  answer = record { clock = ticks s.clock; task = None; mode = s.mode; switched = false; dropped = 0; ending = None };
  state = record { foreign = s.foreign; clock = s.clock + 1; mode = s.mode; job = s.job; last = s.last };
  rests = false;
}
outcome_by d s mark switched mode jobs (Some t) = record {
  answer = record {
    clock = ticks s.clock;
    task = Some t.number;
    mode = mode;
    switched = switched;
    dropped = cond switched (mask 32 (drops d s.job)) 0;
    ending = ending (the_task d t.number) mode mark (t.job.run.0 + 1);
  };
  state = record {
    foreign = s.foreign;
    clock = s.clock + 1;
    mode = settled_mode (none_pending (jobs_after d mode mark jobs t)) mode;
    job = jobs_after d mode mark jobs t;
    last = s.last;
  };
  rests = none_pending (jobs_after d mode mark jobs t);
}

-- step 4: the choice in the mode of the run, made afresh after a switch
abbrev pub outcome_at : Draft → Ahead → State → Mark → Bool → Outcome
outcome_at d ahead s mark switched =
    outcome_by d s mark switched (running_mode switched s.mode) (running_jobs switched d s.job)
    (turn ahead (running_mode switched s.mode) d (running_jobs switched d s.job))

abbrev pub outcome : Draft → Ahead → (ℕ → ℕ → Bool) → State → Mark → Outcome
outcome d ahead says s mark = outcome_at d ahead s mark (switches d ahead says s)

abbrev pub tick_result : Option TickRefusal → Answer → Result Answer TickRefusal
tick_result None a = Ok a
tick_result (Some e) a = Err e

abbrev pub tick_state : Option TickRefusal → State → State → State
tick_state None s s' = s'
tick_state (Some e) s s' = s

-- what a tick answers, under a rule with this yes set
abbrev pub tick : Draft → Ahead → (ℕ → ℕ → Bool) → State → Mark → Result Answer TickRefusal
tick d ahead says s mark = tick_result (tick_fault s) (outcome d ahead says s mark).answer

-- the state after it: as it was where it is refused
abbrev pub after_tick : Draft → Ahead → (ℕ → ℕ → Bool) → State → Mark → State
after_tick d ahead says s mark = tick_state (tick_fault s) s (outcome d ahead says s mark).state

-- what a tick does to its rule: it is asked for a grant at most once, and then set to rest or let be

abbrev pub Asked : Option Turn → Meaning → Meaning → Type 0
Asked None m n = n ≡ m
Asked (Some t) m n = Granted m n t.number t.job.run.0 (m.yes t.number t.job.run.0)

abbrev pub LetRest : Bool → Meaning → Meaning → Type 0
LetRest true m n = Rested m n
LetRest false m n = n ≡ m

pub record Consulted (d : Draft) (ahead : Ahead) (s : State) (mark : Mark) (m n : Meaning) : Type 0 where
  pub mid : Meaning
  pub grant : Asked (asked d ahead s) m mid
  pub rest : LetRest (outcome d ahead m.yes s mark).rests mid n

abbrev pub rule_after_by : Option TickRefusal → Type 0 → Meaning → Meaning → Type 0
rule_after_by None c m n = c
rule_after_by (Some e) c m n = n ≡ m

-- the rule's meanings before and after a tick
abbrev pub RuleAfter : Draft → Ahead → State → Mark → Meaning → Meaning → Type 0
RuleAfter d ahead s mark m n = rule_after_by (tick_fault s) (Consulted d ahead s mark m n) m n
