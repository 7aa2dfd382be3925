-- What a log shows is what its state has.
use Rattle.std.proofs.Common.{◌≡◌, ℕ, ◌+◌, ◌-◌, ◌%◌, ◌^◌, Bool, true, false, cond, not, ◌&&◌, ◌||◌, eqb, ◌≢◌, List, [], ◌∷◌, is_some, Some, None, Ok, Err, Option, Result, sym, refl, ap, ◌∙◌, arith}
use native.Mathlib.Nat.{zero-div}
use native.Mathlib.Decide.{ℕ_discrete}
use Rattle.std.proofs.lemmas.Bool.{eq-eqb, ne_eqb}
use Rattle.table.specs.Verdict.{Draft}
use Rattle.order.specs.Orders.{Ahead}
use Rattle.budget.specs.Meaning.{Meaning}
use Rattle.runs.specs.declared.answer.Mode.{Mode}
use Rattle.runs.specs.declared.answer.Ending.{Ending}
use Rattle.runs.specs.declared.answer.Job.{Job}
use Rattle.runs.specs.declared.answer.Answer.{Answer}
use Rattle.runs.specs.declared.call.Mark.{Mark}
use Rattle.runs.specs.declared.refusal.ArrivalRefusal.{ArrivalRefusal}
use Rattle.runs.specs.declared.refusal.TickRefusal.{TickRefusal}
use Rattle.runs.specs.declared.refusal.TickRefusal.TheVariants.{ForeignRule, ClockEnd}
use Rattle.runs.specs.declared.entry.Entry.{Entry}
use Rattle.runs.specs.declared.entry.Entry.TheVariants.{Arrive, Tick}
use Rattle.runs.specs.States.{State, job_of, rank, within}
use Rattle.runs.specs.Masks.{in_mask}
use Rattle.runs.specs.Ticking.{served}
use Rattle.runs.specs.Laws.{Arrived, Switches, Serves, Settles, Passes, Ticked}
use Rattle.runs.specs.Logs.{spans, clock, begins, leaves, names, ended, serves, since, raised_by, age, arrival, run, shown_by}
use Rattle.runs.specs.Produced.{Kind, Follows, Produced}
use Rattle.runs.specs.Bounds.{Ties}
use Rattle.runs.proofs.Keeps.{none≢some}

pub in_none : (i : ℕ) → in_mask 0 i ≡ false
unfolding in_mask
in_none i = ap (λ x. eqb (x % 2) 1) (zero-div (2 ^ (i - 1)))

-- a task's job beside its numbers
pub data Tie (o : Option Job) (t : ℕ) (a r u : Option ℕ) : Type 0 where
  gone : o ≡ None → a ≡ None → r ≡ None → u ≡ None → Tie o t a r u
  here : (j : Job) (x : ℕ) → o ≡ Some j → a ≡ Some x → r ≡ Some j.arrival.0 → u ≡ Some j.run.0 → j.arrival.0 + x ≡ t → Tie o t a r u

-- how an entry changes task i's job
pub data Change (i : ℕ) (e : Entry) (t : ℕ) (o o' : Option Job) : Type 0 where
  begun : begins i e ≡ true → o' ≡ Some (job_of t 0) → spans e ≡ 0 → Change i e t o o'
  left : begins i e ≡ false → leaves i e ≡ true → o' ≡ None → Change i e t o o'
  none : begins i e ≡ false → o ≡ None → o' ≡ None → Change i e t o o'
  on : (j j' : Job) → begins i e ≡ false → leaves i e ≡ false → o ≡ Some j → o' ≡ Some j' → j'.arrival.0 ≡ j.arrival.0 → j'.run.0 ≡ j.run.0 + serves i e → Change i e t o o'

raised_zero : (x : ℕ) → raised_by 0 (Some x) ≡ Some x
raised_zero x = let e : x + 0 ≡ x = omega arith in ap Some e

module _ (i : ℕ) (e : Entry) (log : List Entry) (start : List Entry → ℕ) (more : Entry → ℕ) where
  since_begun : begins i e ≡ true → since i start more (e ∷ log) ≡ Some (start log)
  unfolding since
  since_begun b = rw b

  since_left : begins i e ≡ false → leaves i e ≡ true → since i start more (e ∷ log) ≡ None
  unfolding since
  since_left b l = rw (b, l)

  none_cond : (l : Bool) (y : Option ℕ) → y ≡ None → cond l None (raised_by (more e) y) ≡ None
  none_cond true y q = refl
  none_cond false y q = rw q

  since_none : begins i e ≡ false → since i start more log ≡ None → since i start more (e ∷ log) ≡ None
  unfolding since
  since_none b q = ap (λ x. cond x (Some (start log)) (cond (leaves i e) None (raised_by (more e) (since i start more log)))) b ∙ none_cond (leaves i e) (since i start more log) q

  since_on : (x : ℕ) → begins i e ≡ false → leaves i e ≡ false → since i start more log ≡ Some x → since i start more (e ∷ log) ≡ Some (x + more e)
  unfolding since
  since_on x b l q = rw (b, l, q)

tie_step : (i : ℕ) (e : Entry) (log : List Entry) (t t' : ℕ) (o o' : Option Job) → t ≡ clock log → t' ≡ t + spans e → Change i e t o o'
    → Tie o t (age i log) (arrival i log) (run i log) → Tie o' t' (age i (e ∷ log)) (arrival i (e ∷ log)) (run i (e ∷ log))
tie_step i e log t t' o o' et et' (Change.begun b q z) tie =
    Tie.here (job_of t 0) 0 q (since_begun i e log _ _ b) (since_begun i e log _ _ b ∙ ap Some (sym et)) (since_begun i e log _ _ b) (omega arith)
tie_step i e log t t' o o' et et' (Change.left b l q) tie = Tie.gone q (since_left i e log _ _ b l) (since_left i e log _ _ b l) (since_left i e log _ _ b l)
tie_step i e log t t' o o' et et' (Change.none b q q') (Tie.gone a x y z) = Tie.gone q' (since_none i e log _ _ b x) (since_none i e log _ _ b y) (since_none i e log _ _ b z)
tie_step i e log t t' o o' et et' (Change.none b q q') (Tie.here j x a xa xr xu h) = absurd (none≢some j q a)
tie_step i e log t t' o o' et et' (Change.on j j' b l q q' er eu) (Tie.gone a x y z) = absurd (none≢some j a q)
tie_step i e log t t' o o' et et' (Change.on j j' b l q q' er eu) (Tie.here k x a xa xr xu h) =
    let same : j ≡ k = cc in
    let r' : j'.arrival.0 ≡ k.arrival.0 = er ∙ ap (λ (v : Job). v.arrival.0) same in
    let u' : j'.run.0 ≡ k.run.0 + serves i e = eu ∙ ap (λ (v : Job). v.run.0 + serves i e) same in
    Tie.here j' (x + spans e) q' (since_on i e log _ _ x b l xa)
    (since_on i e log _ _ k.arrival.0 b l xr ∙ raised_zero k.arrival.0 ∙ ap Some (sym r'))
    (since_on i e log _ _ k.run.0 b l xu ∙ ap Some (sym u'))
    (omega arith)

-- a job that stays as it was
keeps : (i : ℕ) (e : Entry) (t : ℕ) (o o' : Option Job) → begins i e ≡ false → leaves i e ≡ false → serves i e ≡ 0 → o' ≡ o → Change i e t o o'
keeps i e t None o' b l v q = Change.none b refl q
keeps i e t (Some j) o' b l v q = Change.on j j b l refl q refl (omega arith)

arrived_change : (d : Draft) (s s' : State) (k : ℕ) (r : Result (Unit {0}) ArrivalRefusal) → Arrived d s k r s' → (i : ℕ) → Change i (Arrive k (Some r)) s.clock (s.job i) (s'.job i)
arrived_change d s s' k (Ok v) h i =
    elim (ℕ_discrete i k) [
      | yes e ↦ Change.begun (eq-eqb k i (sym e)) (rw e h.job_own) refl
      | no ne ↦ keeps i (Arrive k (Some (Ok v))) s.clock (s.job i) (s'.job i) (ne_eqb k i (λ e. ne (sym e))) refl refl (h.job_other i ne)
    ]
arrived_change d s s' k (Err e) h i = keeps i (Arrive k (Some (Err e))) s.clock (s.job i) (s'.job i) refl refl refl (ap (λ (x : State). x.job i) h.1)

-- the jobs are let be where a tick settles
pub settles_job : {s s' : State} {m n : Meaning} → Settles s s' m n → (i : ℕ) → s'.job i ≡ s.job i
settles_job (Settles.busy k j e) i = refl
settles_job (Settles.rests h r) i = h.job' i

pub settles_clock : {s s' : State} {m n : Meaning} → Settles s s' m n → s'.clock ≡ s.clock
settles_clock (Settles.busy k j e) = refl
settles_clock (Settles.rests h r) = h.clock'

module _ (d : Draft) (mode : Mode) (mark : Mark) (a : Answer) (t : ℕ) (i k : ℕ) (j : Job) where
  leaves_own : (b c : Bool) (e : Option Ending) → b ≡ false → c ≡ true → (b || (c && ended e)) ≡ ended e
  leaves_own b c e p q = rw (p, q)

  leaves_other : (b c : Bool) (e : Option Ending) → b ≡ false → c ≡ false → (b || (c && ended e)) ≡ false
  leaves_other b c e p q = rw (p, q)

  -- the job of the task that ran
  served_own : (e : Option Ending) (o o' : Option Job) → a.task ≡ Some k → a.ending ≡ e → in_mask a.dropped i ≡ false → i ≡ k → o ≡ Some j → o' ≡ served e j
      → Change i (Tick mark (Some (Ok a))) t o o'
  served_own (Some e) o o' ta en un q p p' =
      Change.left refl
      (leaves_own (in_mask a.dropped i) (names i a.task) a.ending un (ap (names i) ta ∙ eq-eqb k i (sym q)) ∙ ap ended en)
      p'
  served_own None o o' ta en un q p p' =
      let ran : names i a.task ≡ true = ap (names i) ta ∙ eq-eqb k i (sym q) in
      Change.on j (job_of j.arrival.0 (j.run.0 + 1)) refl
      (leaves_own (in_mask a.dropped i) (names i a.task) a.ending un ran ∙ ap ended en)
      p p' refl (ap (λ b. j.run.0 + cond b 1 0) (sym ran))

  served_other : (o o' : Option Job) → a.task ≡ Some k → in_mask a.dropped i ≡ false → i ≢ k → o' ≡ o → Change i (Tick mark (Some (Ok a))) t o o'
  served_other o o' ta un ne q =
      let ran : names i a.task ≡ false = ap (names i) ta ∙ ne_eqb k i (λ e. ne (sym e)) in
      keeps i (Tick mark (Some (Ok a))) t o o' refl (leaves_other (in_mask a.dropped i) (names i a.task) a.ending un ran) (ap (λ b. cond b 1 0) ran) q

served_change : (d : Draft) (mode : Mode) (mark : Mark) (a : Answer) (t : ℕ) (s s' : State) (k : ℕ) (j : Job) (e : Option Ending) → a.task ≡ Some k → a.ending ≡ e
    → s.job k ≡ Some j → Serves d mode mark s s' k j e → (i : ℕ) (o o' : Option Job) → in_mask a.dropped i ≡ false → s.job i ≡ o → o' ≡ s'.job i → Change i (Tick mark (Some (Ok a))) t o o'
served_change d mode mark a t s s' k j e ta en p h i o o' un q q' =
    elim (ℕ_discrete i k) [
      | yes z ↦ served_own d mode mark a t i k j e o o' ta en un z (sym q ∙ rw z p) (q' ∙ rw z h.job_own)
      | no ne ↦ served_other d mode mark a t i k j o o' ta un ne (q' ∙ h.job_other i ne ∙ q)
    ]

switched_change : (d : Draft) (ahead : Ahead) (mark : Mark) (a : Answer) (t dropped : ℕ) (s s₁ s₂ : State) (k : ℕ) (j : Job) (e : Option Ending)
    → a.task ≡ Some k → a.ending ≡ e → a.dropped ≡ dropped → Switches d s s₁ dropped → s₁.job k ≡ Some j → Serves d Mode.High mark s₁ s₂ k j e
    → (i : ℕ) (o : Option Job) → s.job i ≡ o → (o' : Option Job) → o' ≡ s₂.job i → Change i (Tick mark (Some (Ok a))) t o o'
switched_change d ahead mark a t dropped s s₁ s₂ k j e ta en dr sw p h i None q o' q' =
    let gone = sw.none i q in
    Change.none refl refl
    (q' ∙ (elim (ℕ_discrete i k) [
      | yes z ↦ absurd (none≢some j gone (rw z p))
      | no ne ↦ h.job_other i ne ∙ gone
    ]))
switched_change d ahead mark a t dropped s s₁ s₂ k j e ta en dr sw p h i (Some b) q o' q' = go (within (rank d i) b.run.0) refl
  where
    go : (w : Bool) → within (rank d i) b.run.0 ≡ w → Change i (Tick mark (Some (Ok a))) t (Some b) o'
    go true w =
        served_change d Mode.High mark a t s₁ s₂ k j e ta en p h i (Some b) o' (ap (λ x. in_mask x i) dr ∙ sw.named i b q ∙ ap not w) (sw.stays i b q w) q'
    go false w =
        let gone = sw.goes i b q w in
        let marked : in_mask a.dropped i ≡ true = ap (λ x. in_mask x i) dr ∙ sw.named i b q ∙ ap not w in
        Change.left refl (ap (λ x. x || (names i a.task && ended a.ending)) marked)
        (q' ∙ (elim (ℕ_discrete i k) [
          | yes z ↦ absurd (none≢some j gone (rw z p))
          | no ne ↦ h.job_other i ne ∙ gone
        ]))

passes_change : (d : Draft) (ahead : Ahead) (m n : Meaning) (s s' : State) (mark : Mark) (a : Answer) → Passes d ahead m s mark a n s' → (i : ℕ) → Change i (Tick mark (Some (Ok a))) s.clock (s.job i) (s'.job i)
passes_change d ahead m n s s' mark a (Passes.idle h e says) i = Change.none refl (h.empty i) (h.job' i ∙ h.empty i)
passes_change d ahead m n s s' mark a (Passes.calm c) i =
    served_change d Mode.Low mark a s.clock s c.state c.number c.job c.end (ap (λ (x : Answer). x.task) c.says) (ap (λ (x : Answer). x.ending) c.says) c.first.pending c.serves
    i (s.job i) (s'.job i) (ap (λ (x : Answer). in_mask x.dropped i) c.says ∙ in_none i) refl (settles_job c.settles i)
passes_change d ahead m n s s' mark a (Passes.switching c) i =
    switched_change d ahead mark a s.clock c.dropped s c.after c.state c.number c.job c.end
    (ap (λ (x : Answer). x.task) c.says) (ap (λ (x : Answer). x.ending) c.says) (ap (λ (x : Answer). x.dropped) c.says) c.switches c.first.pending c.serves
    i (s.job i) refl (s'.job i) (settles_job c.settles i)
passes_change d ahead m n s s' mark a (Passes.steady c) i =
    served_change d Mode.High mark a s.clock s c.state c.number c.job c.end (ap (λ (x : Answer). x.task) c.says) (ap (λ (x : Answer). x.ending) c.says) c.first.pending c.serves
    i (s.job i) (s'.job i) (ap (λ (x : Answer). in_mask x.dropped i) c.says ∙ in_none i) refl (settles_job c.settles i)

ticked_change : (d : Draft) (ahead : Ahead) (m n : Meaning) (s s' : State) (mark : Mark) (r : Result Answer TickRefusal) → Ticked d ahead m s mark r n s' → (i : ℕ)
    → Change i (Tick mark (Some r)) s.clock (s.job i) (s'.job i)
ticked_change d ahead m n s s' mark (Ok a) h i = passes_change d ahead m n s s' mark a h.2 i
ticked_change d ahead m n s s' mark (Err ForeignRule) h i = keeps i _ s.clock (s.job i) (s'.job i) refl refl refl (ap (λ (x : State). x.job i) h.2)
ticked_change d ahead m n s s' mark (Err (ClockEnd t)) h i = keeps i _ s.clock (s.job i) (s'.job i) refl refl refl (ap (λ (x : State). x.job i) h.4)

-- clocks

arrived_clock : (d : Draft) (s s' : State) (i : ℕ) (r : Result (Unit {0}) ArrivalRefusal) → Arrived d s i r s' → s'.clock ≡ s.clock + 0
arrived_clock d s s' i (Ok v) h = let e = h.clock' in omega arith
arrived_clock d s s' i (Err x) h = let e = ap (λ (x : State). x.clock) h.1 in omega arith

passes_clock : (d : Draft) (ahead : Ahead) (m n : Meaning) (s s' : State) (mark : Mark) (a : Answer) → Passes d ahead m s mark a n s' → s'.clock ≡ s.clock + 1
passes_clock d ahead m n s s' mark a (Passes.idle h e says) = h.clock'
passes_clock d ahead m n s s' mark a (Passes.calm c) = settles_clock c.settles ∙ c.serves.clock'
passes_clock d ahead m n s s' mark a (Passes.switching c) = settles_clock c.settles ∙ c.serves.clock' ∙ ap (λ x. x + 1) c.switches.clock'
passes_clock d ahead m n s s' mark a (Passes.steady c) = settles_clock c.settles ∙ c.serves.clock'

ticked_clock : (d : Draft) (ahead : Ahead) (m n : Meaning) (s s' : State) (mark : Mark) (r : Result Answer TickRefusal) → Ticked d ahead m s mark r n s' → s'.clock ≡ s.clock + spans (Tick mark (Some r))
ticked_clock d ahead m n s s' mark (Ok a) h = passes_clock d ahead m n s s' mark a h.2
ticked_clock d ahead m n s s' mark (Err ForeignRule) h = let e = ap (λ (x : State). x.clock) h.2 in omega arith
ticked_clock d ahead m n s s' mark (Err (ClockEnd t)) h = let e = ap (λ (x : State). x.clock) h.4 in omega arith

-- along a log

pub record Tied (s : State) (log : List Entry) : Type 0 where
  pub clocks : s.clock ≡ clock log
  pub ties : (i : ℕ) → Tie (s.job i) s.clock (age i log) (arrival i log) (run i log)

clock_more : (e : Entry) (log : List Entry) → clock (e ∷ log) ≡ clock log + spans e
unfolding clock
clock_more e log = refl

step_tied : (s s' : State) (e : Entry) (log : List Entry) → Tied s log → s'.clock ≡ s.clock + spans e → ((i : ℕ) → Change i e s.clock (s.job i) (s'.job i)) → Tied s' (e ∷ log)
step_tied s s' e log was et change = record {
  clocks = et ∙ ap (λ x. x + spans e) was.clocks ∙ sym (clock_more e log);
  ties = λ i. tie_step i e log s.clock s'.clock (s.job i) (s'.job i) was.clocks et (change i) (was.ties i);
}

since_empty : (i : ℕ) (start : List Entry → ℕ) (more : Entry → ℕ) → since i start more [] ≡ None
unfolding since
since_empty i start more = refl

clock_empty : clock [] ≡ 0
unfolding clock
clock_empty = refl

module _ (kind : Kind) (d : Draft) (ahead : Ahead) (m₀ : Meaning) (s₀ : State) (start : s₀.clock ≡ 0) (empty : (i : ℕ) → s₀.job i ≡ None) where
  follows_tied : {log : List Entry} {m : Meaning} {s : State} → Follows kind d ahead m₀ s₀ log m s → Tied s log
  follows_tied Follows.still = record {
    clocks = start ∙ sym clock_empty;
    ties = λ i. Tie.gone (empty i) (since_empty i _ _) (since_empty i _ _) (since_empty i _ _);
  }
  follows_tied (Follows.arrival {log} {m} {s} {s'} i r f h) = step_tied s s' (Arrive i (Some r)) log (follows_tied f) (arrived_clock d s s' i r h) (arrived_change d s s' i r h)
  follows_tied (Follows.ticking {log} {m} {n} {s} {s'} mark r f h k) = step_tied s s' (Tick mark (Some r)) log (follows_tied f) (ticked_clock d ahead m n s s' mark r h) (ticked_change d ahead m n s s' mark r h)

pub produced_tied : (kind : Kind) (d : Draft) (ahead : Ahead) (log : List Entry) (m : Meaning) (s : State) → Produced kind d ahead log m s → Tied s log
produced_tied kind d ahead log m s p = follows_tied kind d ahead p.first_meaning p.first_state p.made.clock0 p.made.job0 p.course

-- in the words of the statement

shown_tie : (o : Option Job) (t : ℕ) (a r u : Option ℕ) → Tie o t a r u → o ≡ shown_by r u
shown_tie o t a r u (Tie.gone p pa pr pu) = rw (p, pr)
shown_tie o t a r u (Tie.here j x p pa pr pu h) = rw (p, pr, pu)

age_tie : (o : Option Job) (t : ℕ) (a r u : Option ℕ) → Tie o t a r u → (j : Job) → o ≡ Some j → (x : ℕ) × (a ≡ Some x) × (j.arrival.0 + x ≡ t)
age_tie o t a r u (Tie.gone p pa pr pu) j e = absurd (none≢some j p e)
age_tie o t a r u (Tie.here k x p pa pr pu h) j e = let same : j ≡ k = cc in (x, pa, ap (λ (v : Job). v.arrival.0 + x) same ∙ h)

none_tie : (o : Option Job) (t : ℕ) (a r u : Option ℕ) → Tie o t a r u → o ≡ None → a ≡ None
none_tie o t a r u (Tie.gone p pa pr pu) e = pa
none_tie o t a r u (Tie.here k x p pa pr pu h) e = absurd (none≢some k e p)

pending_tie : (o : Option Job) (t : ℕ) (a r u : Option ℕ) → Tie o t a r u → is_some o ≡ is_some a
pending_tie o t a r u (Tie.gone p pa pr pu) = rw (p, pa)
pending_tie o t a r u (Tie.here j x p pa pr pu h) = rw (p, pa)

pub ties_stand : Ties
ties_stand kind d ahead log m s p =
    let tied = produced_tied kind d ahead log m s p in
    record {
      clock_is = tied.clocks;
      pending_is = λ i. pending_tie _ _ _ _ _ (tied.ties i);
      job_is = λ i. shown_tie _ _ _ _ _ (tied.ties i);
      age_is = λ i j e. age_tie _ _ _ _ _ (tied.ties i) j e;
      idle_is = λ i e. none_tie _ _ _ _ _ (tied.ties i) e;
    }
