-- Turns: whose they are, who is asked, and that a switch leaves one.
use Rattle.std.proofs.Common.{◌≡◌, ℕ, ◌^◌, ◌<◌, Bool, true, false, cond, not, [], ◌∷◌, Some, None, Ok, Err, Option, sym, refl, ap, ◌∙◌, subst, arith}
use Rattle.std.specs.Option.{option_map}
use Rattle.std.proofs.lemmas.Bool.{lt-ltb}
use Rattle.tasks.specs.declared.units.Ticks.{Ticks}
use Rattle.tasks.specs.declared.task.Criticality.{Criticality}
use Rattle.tasks.specs.declared.task.Criticality.TheVariants.{High as HighTask, Low as LowTask}
use Rattle.table.specs.Firsts.{first_of, unless}
use Rattle.table.specs.Verdict.{Draft}
use Rattle.budget.specs.Meaning.{Meaning}
use Rattle.order.specs.declared.candidate.Candidate.{Candidate}
use Rattle.order.specs.Orders.{Ahead, TieLaws}
use Rattle.runs.specs.declared.answer.Mode.{Mode}
use Rattle.runs.specs.declared.answer.Mode.TheVariants.{High, Low}
use Rattle.runs.specs.declared.answer.Job.{Job}
use Rattle.runs.specs.declared.answer.Ending.{Ending}
use Rattle.runs.specs.declared.answer.Answer.{Answer}
use Rattle.runs.specs.declared.call.Mark.{Mark}
use Rattle.runs.specs.declared.refusal.TickRefusal.{TickRefusal}
use Rattle.runs.specs.declared.refusal.TickRefusal.TheVariants.{ForeignRule}
use Rattle.runs.specs.States.{State, the_task, rank, is_high, within}
use Rattle.runs.specs.Choices.{Turn, turn, turn_of, turn_by, chosen}
use Rattle.runs.specs.Ticking.{asked_by, asked, denied, switches, drops_by, kept, running_mode, running_jobs, tick_fault, outcome_by, outcome_at, outcome, Outcome, end_fault, tick_result, tick_state, tick, after_tick, Asked, LetRest, Consulted, rule_after_by, RuleAfter}
use Rattle.runs.specs.Slots.{seat}
use Rattle.dispatch.specs.declared.state.Core.{Core}
use Rattle.dispatch.specs.declared.turn.Taken.{Taken}
use Rattle.dispatch.specs.Turns.{turn_of_taken, taken_of, first_taken, asked_of}
use Rattle.runs.proofs.Choosing.{Seated, Turned, turn_is}

-- the turn's job is pending
pub turn_pending : (jobs : ℕ → Option Job) (o : Option Candidate) (t : Turn) → turn_of jobs o ≡ Some t → jobs t.number ≡ Some t.job
turn_pending jobs None t e = let z : ◌≡◌ {A = ℕ} 0 1 = cc in absurd (omega arith)
turn_pending jobs (Some c) t e = by (jobs c.number) refl e
  where
    by : (o : Option Job) → jobs c.number ≡ o → turn_by c.number o ≡ Some t → jobs t.number ≡ Some t.job
    by None q w = let z : ◌≡◌ {A = ℕ} 0 1 = cc in absurd (omega arith)
    by (Some j) q w =
        let is : record { number = c.number; job = j } ≡ t = cc in
        ap jobs (sym (ap (λ x. x.number) is)) ∙ q ∙ ap (λ x. Some x.job) is

-- who is asked, where the turn in the current mode is known
pub asked_is : (d : Draft) (ahead : Ahead) (jobs : ℕ → Option Job) (mode : Mode) (o : Option Turn) → turn ahead mode d jobs ≡ o → asked_by d mode (turn ahead Low d jobs) ≡ asked_by d mode o
asked_is d ahead jobs High o e = refl
asked_is d ahead jobs Low o e = ap (asked_by d Low) e

-- a turn that is taken with its task

pub turn_taken : (d : Draft) (o : Option Turn) (f : Taken) → Some f ≡ option_map (taken_of d) o → (o ≡ Some (turn_of_taken f)) × (f.task ≡ the_task d f.number)
turn_taken d None f e = let z : ◌≡◌ {A = ℕ} 0 1 = cc in absurd (omega arith)
turn_taken d (Some t) f e =
    let is : f ≡ taken_of d t = cc in
    (ap (λ x. Some (turn_of_taken x)) (sym is), ap (λ x. x.task) is ∙ ap (λ x. the_task d x.number) (sym is))

-- its job is pending
pub taken_pending : (d : Draft) (ahead : Ahead) (mode : Mode) (c : Core) (f : Taken) → Some f ≡ first_taken d ahead mode c → (seat c.jobs f.number ≡ Some f.job) × (f.task ≡ the_task d f.number)
taken_pending d ahead mode c f e =
    let is = turn_taken d (turn ahead mode d (seat c.jobs)) f e in
    (turn_pending (seat c.jobs) (chosen ahead mode d (seat c.jobs)) (turn_of_taken f) is.0, is.1)

pub none_taken : (d : Draft) (o : Option Turn) → None ≡ option_map (taken_of d) o → o ≡ None
none_taken d None e = refl
none_taken d (Some t) e = let z : ◌≡◌ {A = ℕ} 0 1 = cc in absurd (omega arith)

asked_taken : (d : Draft) (mode : Mode) (f : Taken) → f.task ≡ the_task d f.number → asked_by d mode (Some (turn_of_taken f)) ≡ asked_of mode f
asked_taken d High f e = refl
asked_taken d Low f e = ap (λ t. cond (is_high t.criticality) (Some (turn_of_taken f)) None) (sym e)

pub asked_first : (d : Draft) (ahead : Ahead) (s : State) (f : Taken) → Some f ≡ option_map (taken_of d) (turn ahead s.mode d s.job) → asked d ahead s ≡ asked_of s.mode f
asked_first d ahead s f e =
    let is = turn_taken d (turn ahead s.mode d s.job) f e in
    asked_is d ahead s.job s.mode (Some (turn_of_taken f)) is.0 ∙ asked_taken d s.mode f is.1

pub none_asked : (d : Draft) (mode : Mode) → asked_by d mode None ≡ None
none_asked d High = refl
none_asked d Low = refl

-- a denied job is high
pub denied_high : (says : ℕ → ℕ → Bool) (mode : Mode) (f : Taken) → denied says (asked_of mode f) ≡ true → is_high f.task.criticality ≡ true
denied_high says High f e = let z : ◌≡◌ {A = ℕ} 0 1 = cc in absurd (omega arith)
denied_high says Low f e = by (is_high f.task.criticality) e
  where
    by : (b : Bool) → denied says (cond b (Some (turn_of_taken f)) None) ≡ true → b ≡ true
    by true q = refl
    by false q = q

high_within : (c : Criticality) (run : ℕ) → is_high c ≡ true → within c run ≡ true
high_within HighTask run e = refl
high_within (LowTask g) run e = let z : ◌≡◌ {A = ℕ} 0 1 = cc in absurd (omega arith)

-- a switch keeps every high job
pub high_kept : (d : Draft) (jobs : ℕ → Option Job) (i : ℕ) (j : Job) → jobs i ≡ Some j → is_high (rank d i) ≡ true → kept d jobs i ≡ Some j
high_kept d jobs i j e h =
    ap (λ o. cond (drops_by (rank d i) o) None o) e ∙ ap (λ b. cond (not b) None (Some j)) (high_within (rank d i) j.run.0 h)

-- an accepted tick

pub no_fault : (s : State) → s.foreign ≡ false → s.clock < 2 ^ 40 → tick_fault s ≡ None
no_fault s own early = rw (own, lt-ltb s.clock (2 ^ 40) early) refl

pub outcome_is : (d : Draft) (ahead : Ahead) (says : ℕ → ℕ → Bool) (s : State) (mark : Mark) (b : Bool) (o : Option Turn) → switches d ahead says s ≡ b
    → turn ahead (running_mode b s.mode) d (running_jobs b d s.job) ≡ o
    → outcome d ahead says s mark ≡ outcome_by d s mark b (running_mode b s.mode) (running_jobs b d s.job) o
outcome_is d ahead says s mark b o e f =
    ap (outcome_at d ahead s mark) e ∙ ap (outcome_by d s mark b (running_mode b s.mode) (running_jobs b d s.job)) f

pub idle_calm : (d : Draft) (ahead : Ahead) (says : ℕ → ℕ → Bool) (s : State) → turn ahead s.mode d s.job ≡ None → switches d ahead says s ≡ false
idle_calm d ahead says s e = ap (denied says) (asked_is d ahead s.job s.mode None e ∙ none_asked d s.mode)

pub idle_asks : (d : Draft) (ahead : Ahead) (s : State) (m : Meaning) → turn ahead s.mode d s.job ≡ None → Asked (asked d ahead s) m m
idle_asks d ahead s m e =
    let P : Option Turn → Type 0 = λ o. Asked o m m in
    subst P (sym (asked_is d ahead s.job s.mode None e ∙ none_asked d s.mode)) refl

pub foreign_fault : (s : State) → s.foreign ≡ true → tick_fault s ≡ Some ForeignRule
foreign_fault s e = ap (λ b. first_of (unless (not b) ForeignRule ∷ end_fault s ∷ [])) e

module _ (d : Draft) (ahead : Ahead) (s : State) (mark : Mark) (m : Meaning) where
  -- what a refused tick does
  pub refused : (e : TickRefusal) → tick_fault s ≡ Some e → (Err e ≡ tick d ahead m.yes s mark) × (s ≡ after_tick d ahead m.yes s mark) × RuleAfter d ahead s mark m m
  refused e q =
      let P : Option TickRefusal → Type 0 = λ f. rule_after_by f (Consulted d ahead s mark m m) m m in
      (ap (λ f. tick_result f (outcome d ahead m.yes s mark).answer) (sym q), ap (λ f. tick_state f s (outcome d ahead m.yes s mark).state) (sym q), subst P (sym q) refl)

  -- what an accepted one does
  pub accepted : (n : Meaning) → None ≡ tick_fault s → Consulted d ahead s mark m n
      → (Ok (outcome d ahead m.yes s mark).answer ≡ tick d ahead m.yes s mark) × ((outcome d ahead m.yes s mark).state ≡ after_tick d ahead m.yes s mark) × RuleAfter d ahead s mark m n
  accepted n q rule =
      let P : Option TickRefusal → Type 0 = λ f. rule_after_by f (Consulted d ahead s mark m n) m n in
      (ap (λ f. tick_result f (outcome d ahead m.yes s mark).answer) q, ap (λ f. tick_state f s (outcome d ahead m.yes s mark).state) q, subst P q rule)

  pub consulted : (o : Outcome) → outcome d ahead m.yes s mark ≡ o → (mid n : Meaning) → Asked (asked d ahead s) m mid → LetRest o.rests mid n → Consulted d ahead s mark m n
  consulted o is mid n grant rest =
      let R : Outcome → Type 0 = λ x. LetRest x.rests mid n in
      record { mid = mid; grant = grant; rest = subst R (sym is) rest }

pub answer_is : (clock : Ticks) (task : Option ℕ) (mode mode' : Mode) (switched switched' : Bool) (dropped dropped' : ℕ) (ending ending' : Option Ending)
    → mode ≡ mode' → switched ≡ switched' → dropped ≡ dropped' → ending ≡ ending'
    → ◌≡◌ {A = Answer} (record { clock = clock; task = task; mode = mode; switched = switched; dropped = dropped; ending = ending }) (record { clock = clock; task = task; mode = mode'; switched = switched'; dropped = dropped'; ending = ending' })
answer_is clock task mode mode' switched switched' dropped dropped' ending ending' em es ed ee =
    ap (λ x. record { clock = clock; task = task; mode = x; switched = switched; dropped = dropped; ending = ending }) em
    ∙ ap (λ x. record { clock = clock; task = task; mode = mode'; switched = x; dropped = dropped; ending = ending }) es
    ∙ ap (λ x. record { clock = clock; task = task; mode = mode'; switched = switched'; dropped = x; ending = ending }) ed
    ∙ ap (λ x. record { clock = clock; task = task; mode = mode'; switched = switched'; dropped = dropped'; ending = x }) ee

-- with no turn nothing is pending
pub turn_left : (d : Draft) (ahead : Ahead) → TieLaws ahead → (mode : Mode) (s : State) → Seated s.job → turn ahead mode d s.job ≡ None → (i : ℕ) → s.job i ≡ None
turn_left d ahead laws mode s seated e =
    let P : Option Turn → Type 0 = Turned d ahead mode s in
    subst P e (turn_is d ahead laws mode s seated)
