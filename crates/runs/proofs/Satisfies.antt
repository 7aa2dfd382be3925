-- The definitions of one arrival and one tick satisfy the laws.
use Rattle.std.proofs.Common.{◌≡◌, ℕ, ◌+◌, ◌^◌, ◌<◌, ◌≤◌, Bool, true, false, cond, not, ltb, leb, ◌≢◌, Some, None, Option, sym, refl, ap, ◌∙◌, arith}
use native.Mathlib.Decide.{ℕ_discrete, dec_le}
use Rattle.std.proofs.lemmas.Bool.{both_ways, not-true, not-false, leb-true, leb-false, ltb-true, ltb-false, eq-eqb, ne_eqb}
use Rattle.tasks.specs.declared.units.Ticks.{Ticks}
use Rattle.tasks.specs.declared.task.Criticality.{Criticality}
use Rattle.tasks.specs.declared.task.Criticality.TheVariants.{High as HighTask, Low as LowTask}
use Rattle.table.specs.Firsts.{or_else, unless}
use Rattle.table.specs.Tasks.{ticks}
use Rattle.table.specs.Verdict.{Draft}
use Rattle.order.specs.Orders.{Ahead, TieLaws}
use Rattle.budget.specs.Meaning.{Meaning, Granted}
use Rattle.runs.specs.declared.answer.Mode.{Mode}
use Rattle.runs.specs.declared.answer.Mode.TheVariants.{High, Low}
use Rattle.runs.specs.declared.answer.Ending.{Ending}
use Rattle.runs.specs.declared.answer.Job.{Job}
use Rattle.runs.specs.declared.call.Mark.{Mark}
use Rattle.runs.specs.declared.refusal.ArrivalRefusal.{ArrivalRefusal}
use Rattle.runs.specs.declared.refusal.ArrivalRefusal.TheVariants.{ForeignRule, NoSuchTask, TooEarly}
use Rattle.runs.specs.declared.refusal.TickRefusal.{TickRefusal}
use Rattle.runs.specs.declared.refusal.TickRefusal.TheVariants.{ForeignRule as TickForeign, ClockEnd}
use Rattle.runs.specs.States.{State, job_of, put, known, the_task, period, rank, is_high, within}
use Rattle.runs.specs.Masks.{mask}
use Rattle.runs.specs.Choices.{Turn, turn}
use Rattle.runs.specs.Arrivals.{next_arrival, early_fault, pending_by, pending_fault, unassured_by, unassured_fault, arrival_fault, arrival_result, arrival_state, arrived, arrival, after_arrival}
use Rattle.runs.specs.Ticking.{tick_fault, end_fault, asked_by, asked, denied, switches, drops_by, drops, kept, ending, none_pending, settled_mode, jobs_after, outcome_by, outcome_at, outcome, tick_result, tick_state, tick, after_tick, Asked, LetRest, Consulted, rule_after_by, RuleAfter}
use Rattle.runs.specs.Laws.{Known, Apart, Admitted, Arrives, Early, Refused, Arrived, First, Consents, Switches, Serves, Settles, answer_of, Passes, Ticked}
use Rattle.runs.proofs.Loads.{known_is, known_of}
use Rattle.runs.proofs.Keeps.{none≢some}
use Rattle.runs.proofs.Masks.{mask_small, in_mask_is, in_mask_above}
use Rattle.runs.proofs.Choosing.{Seated, Turned, turn_is, pending_none, pending_some}

-- one value put

pub put_own : {A : Type 0} (f : ℕ → A) (i : ℕ) (v : A) → put f i v i ≡ v
put_own f i v = ap (λ b. cond b v (f i)) (eq-eqb i i refl)

pub put_other : {A : Type 0} (f : ℕ → A) (i : ℕ) (v : A) (k : ℕ) → k ≢ i → put f i v k ≡ f k
put_other f i v k ne = ap (λ b. cond b v (f k)) (ne_eqb k i ne)

-- arrivals

pub record Allowed (d : Draft) (s : State) (i : ℕ) : Type 0 where
  pub own_rule : s.foreign ≡ false
  pub known : Known d i
  pub apart : Apart d s i
  pub free : s.job i ≡ None
  pub admitted : Admitted d s i

-- what the first fault says
abbrev Verdict : Draft → State → ℕ → Option ArrivalRefusal → Type 0
Verdict d s i None = Allowed d s i
Verdict d s i (Some e) = Refused d s i e

module _ (d : Draft) (s : State) (i : ℕ) where
  passes_13 : s.foreign ≡ false → Known d i → Apart d s i → s.job i ≡ None → (mode : Mode) → s.mode ≡ mode → (b : Bool) → within (rank d i) 0 ≡ b → Verdict d s i (or_else (unassured_by mode i b) None)
  passes_13 own k apart free Low em b eb = record { own_rule = own; known = k; apart = apart; free = free; admitted = λ e. absurd (low_high em e) }
    where
      low_high : {m : Mode} → m ≡ Low → m ≡ High → ⊥
      low_high {m} p q = let z : ◌≡◌ {A = ℕ} 0 1 = cc in omega arith
  passes_13 own k apart free High em true eb = record { own_rule = own; known = k; apart = apart; free = free; admitted = λ e. eb }
  passes_13 own k apart free High em false eb = (own, refl, k, apart, free, em, eb)

  passes_12 : s.foreign ≡ false → Known d i → Apart d s i → (o : Option Job) → s.job i ≡ o → Verdict d s i (or_else (pending_by i o) (or_else (unassured_fault d s i) None))
  passes_12 own k apart None e = passes_13 own k apart e s.mode refl (within (rank d i) 0) refl
  passes_12 own k apart (Some j) e = (own, refl, k, apart, e)

  apart_by : (L : Option Ticks) → s.last i ≡ L → next_arrival (period d i) L ≤ s.clock → Apart d s i
  apart_by None e h r q = absurd (none≢some r e q)
  apart_by (Some t) e h r q = let same : t ≡ r = cc in rw (← same) h

  early_by : (L : Option Ticks) → s.last i ≡ L → s.clock < next_arrival (period d i) L → Early d s i (next_arrival (period d i) L)
  early_by None e h = absurd (omega arith)
  early_by (Some t) e h = record { last = t; was = e; next_is = refl; early = h }

  passes_11 : s.foreign ≡ false → Known d i → (b : Bool) → leb (next_arrival (period d i) (s.last i)) s.clock ≡ b
      → Verdict d s i (or_else (unless b (TooEarly i (ticks (next_arrival (period d i) (s.last i))))) (or_else (pending_fault s i) (or_else (unassured_fault d s i) None)))
  passes_11 own k true e = passes_12 own k (apart_by (s.last i) refl (leb-true (next_arrival (period d i) (s.last i)) s.clock e)) (s.job i) refl
  passes_11 own k false e = (own, refl, k, early_by (s.last i) refl (leb-false (next_arrival (period d i) (s.last i)) s.clock e))

  passes_10 : s.foreign ≡ false → (b : Bool) → known d i ≡ b → Verdict d s i (or_else (unless b (NoSuchTask i)) (or_else (early_fault d s i) (or_else (pending_fault s i) (or_else (unassured_fault d s i) None))))
  passes_10 own true e = passes_11 own (known_of d i e) (leb (next_arrival (period d i) (s.last i)) s.clock) refl
  passes_10 own false e = (own, refl, λ k. both_ways (known d i) e (known_is d i k))

  passes_19 : (b : Bool) → s.foreign ≡ b → Verdict d s i (or_else (unless (not b) ForeignRule) (or_else (unless (known d i) (NoSuchTask i)) (or_else (early_fault d s i) (or_else (pending_fault s i) (or_else (unassured_fault d s i) None)))))
  passes_19 true e = e
  passes_19 false e = passes_10 e (known d i) refl

  verdict_is : Verdict d s i (arrival_fault d s i)
  verdict_is = passes_19 s.foreign refl

  arrives : Allowed d s i → Arrives d s (arrived s i) i
  arrives a = record {
    own_rule = a.own_rule;
    known = a.known;
    apart = a.apart;
    free = a.free;
    admitted = a.admitted;
    foreign' = refl;
    clock' = refl;
    mode' = refl;
    job_own = put_own s.job i (Some (job_of s.clock 0));
    job_other = put_other s.job i (Some (job_of s.clock 0));
    last_own = put_own s.last i (Some (ticks s.clock));
    last_other = put_other s.last i (Some (ticks s.clock));
  }

  by_fault : (f : Option ArrivalRefusal) → Verdict d s i f → Arrived d s i (arrival_result f) (arrival_state f s i)
  by_fault None v = arrives v
  by_fault (Some e) v = (v, refl)

  pub arrival_obeys : Arrived d s i (arrival d s i) (after_arrival d s i)
  arrival_obeys = by_fault (arrival_fault d s i) verdict_is

-- ticks

first_at : (d : Draft) (ahead : Ahead) (mode mode' : Mode) (s : State) (i : ℕ) (j : Job) → mode ≡ mode' → First d ahead mode s i j → First d ahead mode' s i j
first_at d ahead mode mode' s i j e f = rw (← e) f

serves_at : (d : Draft) (mode mode' : Mode) (mark : Mark) (s s' : State) (i : ℕ) (j : Job) (e : Option Ending) → mode ≡ mode' → Serves d mode mark s s' i j e → Serves d mode' mark s s' i j e
serves_at d mode mode' mark s s' i j e q h = rw (← q) h

-- steps 5 and 6
module _ (d : Draft) (mark : Mark) (mode : Mode) (σ : State) (t : Turn) where
  -- the state between the two steps
  abbrev pub served_state : State
  served_state = record { foreign = σ.foreign; clock = σ.clock + 1; mode = σ.mode; job = jobs_after d mode mark σ.job t; last = σ.last }

  pub serves_is : Serves d mode mark σ served_state t.number t.job (ending (the_task d t.number) mode mark (t.job.run.0 + 1))
  serves_is = record {
    ends = refl;
    foreign' = refl;
    clock' = refl;
    mode' = refl;
    job_own = put_own σ.job t.number _;
    job_other = put_other σ.job t.number _;
    last' = λ k. refl;
  }

  seated_after : Seated σ.job → σ.job t.number ≡ Some t.job → Seated (jobs_after d mode mark σ.job t)
  seated_after seated p i j e =
      elim (ℕ_discrete i t.number) [
        | yes q ↦ rw q (seated t.number t.job p)
        | no ne ↦ seated i j (sym (put_other σ.job t.number _ i ne) ∙ e)
      ]

  pub settles_is : (m n : Meaning) → Seated σ.job → σ.job t.number ≡ Some t.job → (b : Bool) → none_pending (jobs_after d mode mark σ.job t) ≡ b → LetRest b m n
      → Settles served_state (record { foreign = σ.foreign; clock = σ.clock + 1; mode = settled_mode b σ.mode; job = jobs_after d mode mark σ.job t; last = σ.last }) m n
  settles_is m n seated p true e r = Settles.rests (record {
    empty = pending_none (jobs_after d mode mark σ.job t) (seated_after seated p) e;
    foreign' = refl;
    clock' = refl;
    mode' = refl;
    job' = λ i. refl;
    last' = λ i. refl;
  }) r
  settles_is m n seated p false e r =
      let some = pending_some (jobs_after d mode mark σ.job t) e in
      rw r (Settles.busy some.0 some.1 some.2)

module _ (d : Draft) (ahead : Ahead) (laws : TieLaws ahead) (s : State) (seated : Seated s.job) (mark : Mark) (m n : Meaning) where
  -- the state after step 3
  abbrev switched : State
  switched = record { foreign = s.foreign; clock = s.clock; mode = High; job = kept d s.job; last = s.last }

  kept_by : (i : ℕ) (b : Bool) → drops d s.job i ≡ b → kept d s.job i ≡ cond b None (s.job i)
  kept_by i b e = ap (λ x. cond x None (s.job i)) e

  drops_is : (i : ℕ) (j : Job) → s.job i ≡ Some j → drops d s.job i ≡ not (within (rank d i) j.run.0)
  drops_is i j e = ap (drops_by (rank d i)) e

  pub switches_is : Switches d s switched (mask 32 (drops d s.job))
  switches_is = record {
    foreign' = refl;
    clock' = refl;
    mode' = refl;
    stays = λ i j e w. kept_by i false (drops_is i j e ∙ ap not w) ∙ e;
    goes = λ i j e w. kept_by i true (drops_is i j e ∙ ap not w);
    none = λ i e. kept_by i false (ap (drops_by (rank d i)) e) ∙ e;
    last' = λ i. refl;
    fits = mask_small 32 (drops d s.job);
    named = λ i j e. let at = seated i j e in in_mask_is 32 (drops d s.job) i at.0 at.1 ∙ drops_is i j e;
    unnamed = λ i lo e.
        elim (dec_le i 32) [
          | yes hi ↦ in_mask_is 32 (drops d s.job) i lo hi ∙ ap (drops_by (rank d i)) e
          | no hi ↦ in_mask_above 32 (mask 32 (drops d s.job)) i (mask_small 32 (drops d s.job)) (omega arith)
        ];
  }

  seated_kept : Seated (kept d s.job)
  seated_kept i j e = go (s.job i) refl
    where
      go : (o : Option Job) → s.job i ≡ o → (1 ≤ i) × (i ≤ 32)
      go None q = absurd (none≢some j (switches_is.none i q) e)
      go (Some b) q = seated i b q

  -- which rule is asked
  asked_high : s.mode ≡ High → asked d ahead s ≡ None
  asked_high e = ap (λ x. asked_by d x (turn ahead Low d s.job)) e

  asked_low : (t : Option Turn) → s.mode ≡ Low → turn ahead Low d s.job ≡ t → asked d ahead s ≡ asked_by d Low t
  asked_low t e q = ap (λ x. asked_by d x (turn ahead Low d s.job)) e ∙ ap (asked_by d Low) q

  consents_by : (c : Criticality) (t : Turn) (mid : Meaning) → Asked (cond (is_high c) (Some t) None) m mid → denied m.yes (cond (is_high c) (Some t) None) ≡ false → Consents c t.number t.job.run.0 m mid
  consents_by HighTask t mid g e = let yea : m.yes t.number t.job.run.0 ≡ true = not-false (m.yes t.number t.job.run.0) e in rw yea at g
  consents_by (LowTask x) t mid g e = g

  -- a tick that does not switch
  calm_at : (mode : Mode) → s.mode ≡ mode → (mid : Meaning) → Asked (asked d ahead s) m mid → switches d ahead m.yes s ≡ false → (t : Option Turn) → turn ahead s.mode d s.job ≡ t → Turned d ahead s.mode s t
      → LetRest (outcome_by d s mark false s.mode s.job t).rests mid n → Passes d ahead m s mark (outcome_by d s mark false s.mode s.job t).answer n (outcome_by d s mark false s.mode s.job t).state
  calm_at mode em mid g e None q none r =
      Passes.idle (record { empty = none; foreign' = refl; clock' = refl; mode' = refl; job' = λ i. refl; last' = λ i. refl }) (r ∙ same mode em) refl
    where
      same : (mode : Mode) → s.mode ≡ mode → mid ≡ m
      same High em = rw (asked_high em) at g
      same Low em = rw (asked_low None em (rw em at q)) at g
  calm_at Low em mid g e (Some t) q f r =
      let who = asked_low (Some t) em (rw em at q) in
      Passes.calm (record {
        number = t.number;
        job = t.job;
        end = ending (the_task d t.number) s.mode mark (t.job.run.0 + 1);
        mid = mid;
        state = served_state d mark s.mode s t;
        lowly = em;
        first = first_at d ahead s.mode _ s t.number t.job em f;
        consents = consents_by (rank d t.number) t mid (rw who at g) (ap (denied m.yes) (sym who) ∙ e);
        serves = serves_at d s.mode _ mark s _ t.number t.job _ em (serves_is d mark s.mode s t);
        settles = settles_is d mark s.mode s t mid n seated f.pending _ refl r;
        says = ap (λ x. answer_of s (Some t.number) x false 0 (ending (the_task d t.number) s.mode mark (t.job.run.0 + 1))) em;
      })
  calm_at High em mid g e (Some t) q f r =
      let same : mid ≡ m = rw (asked_high em) at g in
      Passes.steady (record {
        number = t.number;
        job = t.job;
        end = ending (the_task d t.number) s.mode mark (t.job.run.0 + 1);
        state = served_state d mark s.mode s t;
        highly = em;
        first = first_at d ahead s.mode _ s t.number t.job em f;
        serves = serves_at d s.mode _ mark s _ t.number t.job _ em (serves_is d mark s.mode s t);
        settles = settles_is d mark s.mode s t m n seated f.pending _ refl (rw same at r);
        says = ap (λ x. answer_of s (Some t.number) x false 0 (ending (the_task d t.number) s.mode mark (t.job.run.0 + 1))) em;
      })

  -- a denial
  denied_low : (t : Option Turn) → denied m.yes (asked_by d Low t) ≡ true → (u : Turn) × (t ≡ Some u) × (is_high (rank d u.number) ≡ true) × (m.yes u.number u.job.run.0 ≡ false)
  denied_low None e = absurd (both_ways false refl e)
  denied_low (Some u) e = go (is_high (rank d u.number)) refl e
    where
      go : (b : Bool) → is_high (rank d u.number) ≡ b → denied m.yes (cond b (Some u) None) ≡ true → (u' : Turn) × (Some u ≡ Some u') × (is_high (rank d u'.number) ≡ true) × (m.yes u'.number u'.job.run.0 ≡ false)
      go true q e = (u, refl, q, not-true (m.yes u.number u.job.run.0) e)
      go false q e = absurd (both_ways false refl e)

  high_within : (c : Criticality) (run : ℕ) → is_high c ≡ true → within c run ≡ true
  high_within HighTask run e = refl
  high_within (LowTask g) run e = absurd (both_ways false refl e)

  denied_grant : (u : Turn) (mid : Meaning) (b : Bool) → is_high (rank d u.number) ≡ true → m.yes u.number u.job.run.0 ≡ b → Asked (cond (is_high (rank d u.number)) (Some u) None) m mid
      → Granted m mid u.number u.job.run.0 b
  denied_grant u mid b hi e g = let g' : Asked (Some u) m mid = rw hi at g in rw e at g'

  switch_at : s.mode ≡ Low → (mid : Meaning) → Asked (asked d ahead s) m mid → (u : Turn) → turn ahead Low d s.job ≡ Some u → Turned d ahead Low s (turn ahead Low d s.job)
      → is_high (rank d u.number) ≡ true → m.yes u.number u.job.run.0 ≡ false → (t : Option Turn) → Turned d ahead High switched t
      → LetRest (outcome_by d s mark true High (kept d s.job) t).rests mid n
      → Passes d ahead m s mark (outcome_by d s mark true High (kept d s.job) t).answer n (outcome_by d s mark true High (kept d s.job) t).state
  switch_at em mid g u q first hi no_more None none r =
      let f : First d ahead Low s u.number u.job = rw q at first in
      absurd (none≢some u.job (none u.number) (switches_is.stays u.number u.job f.pending (high_within (rank d u.number) u.job.run.0 hi)))
  switch_at em mid g u q first hi no_more (Some t) f r =
      Passes.switching (record {
        asked = u.number;
        asked_job = u.job;
        dropped = mask 32 (drops d s.job);
        number = t.number;
        job = t.job;
        end = ending (the_task d t.number) High mark (t.job.run.0 + 1);
        mid = mid;
        after = switched;
        state = served_state d mark High switched t;
        lowly = em;
        asked_first = rw q at first;
        asked_high = hi;
        denied = denied_grant u mid false hi no_more (rw (asked_low (Some u) em q) at g);
        switches = switches_is;
        first = f;
        serves = serves_is d mark High switched t;
        settles = settles_is d mark High switched t mid n seated_kept f.pending _ refl r;
        says = refl;
      })

  outcome_obeys : (b : Bool) → switches d ahead m.yes s ≡ b → (mid : Meaning) → Asked (asked d ahead s) m mid → LetRest (outcome_at d ahead s mark b).rests mid n
      → Passes d ahead m s mark (outcome_at d ahead s mark b).answer n (outcome_at d ahead s mark b).state
  outcome_obeys false e mid g r = calm_at s.mode refl mid g e (turn ahead s.mode d s.job) refl (turn_is d ahead laws s.mode s seated) r
  outcome_obeys true e mid g r = go s.mode refl
    where
      go : (mode : Mode) → s.mode ≡ mode → Passes d ahead m s mark (outcome_at d ahead s mark true).answer n (outcome_at d ahead s mark true).state
      go High em = absurd (both_ways false refl (sym (ap (denied m.yes) (asked_high em)) ∙ e))
      go Low em =
          let b = denied_low (turn ahead Low d s.job) (sym (ap (denied m.yes) (asked_low (turn ahead Low d s.job) em refl)) ∙ e) in
          switch_at em mid g b.0 b.1 (turn_is d ahead laws Low s seated) b.2 b.3 (turn ahead High d (kept d s.job)) (turn_is d ahead laws High switched seated_kept) r

  -- refusals

  abbrev TickVerdict : Option TickRefusal → Type 0
  TickVerdict None = (s.foreign ≡ false) × (s.clock < 2 ^ 40)
  TickVerdict (Some TickForeign) = s.foreign ≡ true
  TickVerdict (Some (ClockEnd t)) = (s.foreign ≡ false) × (2 ^ 40 ≤ s.clock) × (t ≡ ticks s.clock)

  passes_14 : s.foreign ≡ false → (b : Bool) → ltb s.clock (2 ^ 40) ≡ b → TickVerdict (or_else (unless b (ClockEnd (ticks s.clock))) None)
  passes_14 own true e = (own, ltb-true s.clock (2 ^ 40) e)
  passes_14 own false e = (own, ltb-false s.clock (2 ^ 40) e, refl)

  passes_tick_19 : (b : Bool) → s.foreign ≡ b → TickVerdict (or_else (unless (not b) TickForeign) (or_else (end_fault s) None))
  passes_tick_19 true e = e
  passes_tick_19 false e = passes_14 e (ltb s.clock (2 ^ 40)) refl

  by_tick_fault : (f : Option TickRefusal) → TickVerdict f → rule_after_by f (Consulted d ahead s mark m n) m n
      → Ticked d ahead m s mark (tick_result f (outcome d ahead m.yes s mark).answer) n (tick_state f s (outcome d ahead m.yes s mark).state)
  by_tick_fault None v c = (v.0, v.1, outcome_obeys (switches d ahead m.yes s) refl c.mid c.grant c.rest)
  by_tick_fault (Some TickForeign) v e = (v, e, refl)
  by_tick_fault (Some (ClockEnd t)) v e = (v.0, v.1, v.2, e, refl)

  pub tick_obeys : RuleAfter d ahead s mark m n → Ticked d ahead m s mark (tick d ahead m.yes s mark) n (after_tick d ahead m.yes s mark)
  tick_obeys c = by_tick_fault (tick_fault s) (passes_tick_19 s.foreign refl) c
