-- Every arrival and every tick keeps the state sound: pending jobs are of known tasks, and the ledgers stand.
use Rattle.std.proofs.Common.{◌≡◌, ℕ, zero, suc, ◌+◌, ◌*◌, ◌<◌, ◌≤◌, max, Bool, true, false, cond, not, eqb, ltb, ◌≢◌, ◌⊎◌, Some, None, Ok, Err, Option, Result, sym, refl, ap, ◌∙◌, inl, inr, arith}
use native.Mathlib.Decide.{ℕ_discrete, dec_le}
use Rattle.std.proofs.lemmas.Bool.{both_ways, lt-ltb, le-ltb, ltb-true, eq-eqb, ne_eqb, eqb-false}
use Rattle.tasks.specs.declared.units.Ticks.{Ticks}
use Rattle.tasks.specs.declared.task.Task.{Task}
use Rattle.tasks.specs.declared.task.Criticality.{Criticality}
use Rattle.tasks.specs.declared.task.Criticality.TheVariants.{High as HighTask, Low as LowTask}
use Rattle.table.specs.Tasks.{assured_of}
use Rattle.table.specs.Verdict.{Draft}
use Rattle.table.specs.Accepted.{Accepted}
use Rattle.order.specs.declared.candidate.Candidate.{Candidate}
use Rattle.order.specs.Orders.{Ahead, TieLaws}
use Rattle.budget.specs.Meaning.{Meaning, Lawful, Granted, raised, raised_load}
use Rattle.runs.specs.declared.answer.Mode.{Mode}
use Rattle.runs.specs.declared.answer.Mode.TheVariants.{Low as low, High as high}
use Rattle.runs.specs.declared.answer.Ending.{Ending}
use Rattle.runs.specs.declared.answer.Job.{Job}
use Rattle.runs.specs.declared.answer.Answer.{Answer}
use Rattle.runs.specs.declared.call.Mark.{Mark}
use Rattle.runs.specs.declared.call.Mark.TheVariants.{Done as MarkDone, NotDone}
use Rattle.runs.specs.declared.refusal.ArrivalRefusal.{ArrivalRefusal}
use Rattle.runs.specs.declared.refusal.TickRefusal.{TickRefusal}
use Rattle.runs.specs.declared.refusal.TickRefusal.TheVariants.{ForeignRule, ClockEnd}
use Rattle.runs.specs.States.{State, OfTable, the_task, period, rank, is_high, within}
use Rattle.runs.specs.Choices.{deadline, contender}
use Rattle.runs.specs.Arrivals.{next_arrival}
use Rattle.runs.specs.Ticking.{ending, served, falls_short}
use Rattle.runs.specs.Laws.{Known, Apart, Arrives, Arrived, Idles, First, Consents, Switches, Serves, Settles, Calm, Passes, Ticked}
use Rattle.runs.proofs.Machine.{idle, live, assured, due}
use Rattle.runs.proofs.Machine as machine
use Rattle.runs.proofs.Sums.{sum_same}
use Rattle.runs.proofs.Ledgers.{Inv}
use Rattle.runs.proofs.LowKeeps.{low≢high, idle≢live, low_facts, low_ledger}
use Rattle.runs.proofs.HighKeeps.{high_facts, high_ledger}
use Rattle.runs.proofs.Rest.{empty_inv, idle_inv}
use Rattle.runs.proofs.Switch.{switch_facts, switch_high}
use Rattle.runs.proofs.Arrive.{free_of, arrive_inv}
use Rattle.runs.proofs.View.{plan, pend, view, sound, plan_ok}
use Rattle.runs.proofs.Loads.{load_is}

-- what every produced state has
pub record Sane (d : Draft) (m : Meaning) (s : State) : Type 0 where
  pub known : (i : ℕ) (j : Job) → s.job i ≡ Some j → Known d i
  pub judged : s.foreign ≡ false → OfTable d m
  pub inv : Inv (plan d) (view d m s)

pub none≢some : {A : Type 0} {x : Option A} (a : A) → x ≡ None → x ≡ Some a → ⊥
none≢some {x = x} a e h = let z : ◌≡◌ {A = ℕ} 0 1 = cc in omega arith

-- the job behind a view
pub behind : (o : Option Job) (r u : ℕ) → pend o ≡ live r u → (j : Job) × (o ≡ Some j) × (j.arrival.0 ≡ r) × (j.run.0 ≡ u)
behind None r u e = absurd (idle≢live r u refl e)
behind (Some j) r u e =
    let er : j.arrival.0 ≡ r = cc in
    let eu : j.run.0 ≡ u = cc in
    (j, refl, er, eu)

-- numbers by the kind of task

within_early : (c : Criticality) (u C : ℕ) → u < cond (is_high c) C (assured_of c) → within c u ≡ true
within_early HighTask u C h = refl
within_early (LowTask g) u C h = lt-ltb u g.0 h

within_late : (c : Criticality) (u C : ℕ) → u < C → cond (is_high c) C (assured_of c) ≤ u → within c u ≡ false
within_late HighTask u C short h = absurd (omega arith)
within_late (LowTask g) u C short h = le-ltb u g.0 h

within_assured : (c : Criticality) (u C : ℕ) → u < C → within c u ≡ true → u < cond (is_high c) C (assured_of c)
within_assured HighTask u C short e = short
within_assured (LowTask g) u C short e = ltb-true u g.0 e

due_of : (c : Criticality) (u x y : ℕ) → cond (within c u) x y ≡ cond (is_high c) x (cond (ltb u (assured_of c)) x y)
due_of HighTask u x y = refl
due_of (LowTask g) u x y = refl

pub due_is : (d : Draft) (k : ℕ) (j : Job) → deadline low d (suc k) j ≡ due (plan d) k j.arrival.0 j.run.0
due_is d k j = due_of (rank d (suc k)) j.run.0 _ _

-- what a job that goes on has not reached
goes_on : (t : Task) (mode : Mode) (mark : Mark) (v : ℕ) → None ≡ ending t mode mark v → (v ≡ t.worst.0 → ⊥) × (falls_short mode t.criticality v ≡ false)
goes_on t mode MarkDone v e = let z : ◌≡◌ {A = ℕ} 0 1 = cc in absurd (omega arith)
goes_on t mode NotDone v e = go (eqb v t.worst.0) refl (falls_short mode t.criticality v) refl e
  where
    go : (a : Bool) → eqb v t.worst.0 ≡ a → (b : Bool) → falls_short mode t.criticality v ≡ b → None ≡ cond a (Some Ending.Limit) (cond b (Some Ending.Short) None) → (v ≡ t.worst.0 → ⊥) × (falls_short mode t.criticality v ≡ false)
    go true ea b eb x = let z : ◌≡◌ {A = ℕ} 0 1 = cc in absurd (omega arith)
    go false ea true eb x = let z : ◌≡◌ {A = ℕ} 0 1 = cc in absurd (omega arith)
    go false ea false eb x = (eqb-false v t.worst.0 ea, eb)

short_of : (c : Criticality) (u C : ℕ) → u < cond (is_high c) C (assured_of c) → (u + 1 ≡ C → ⊥) → falls_short high c (u + 1) ≡ false → u + 1 < cond (is_high c) C (assured_of c)
short_of HighTask u C h limit e = omega arith
short_of (LowTask g) u C h limit e = let ne = eqb-false (u + 1) g.0 e in omega arith

module _ (d : Draft) (ok : Accepted d) (ahead : Ahead) (laws : TieLaws ahead) where
  ready_by : (T t : ℕ) (L : Option Ticks) → ((r : Ticks) → L ≡ Some r → r.0 + T ≤ t) → next_arrival T L ≤ t
  ready_by T t None h = omega arith
  ready_by T t (Some r) h = h r refl

  -- the first goes by deadline
  pub sooner : (a b : Candidate) → a.number ≢ b.number → ahead a b ≡ true → a.deadline.0 ≤ b.deadline.0
  sooner a b ne e =
      elim (dec_le a.deadline.0 b.deadline.0) [
        | yes h ↦ h
        | no h ↦
            let back : ahead b a ≡ true = laws.refines_deadlines b a (λ q. ne (sym q)) (omega arith) in
            let never : ahead b a ≡ false = laws.one_way a b ne ∙ ap not e in
            absurd (both_ways (ahead b a) never back)
      ]

  pub first_sooner : (mode : Mode) (s : State) (i : ℕ) (j : Job) → First d ahead mode s i j → (k : ℕ) (b : Job) → s.job k ≡ Some b → deadline mode d i j ≤ deadline mode d k b
  first_sooner mode s i j f k b e =
      elim (ℕ_discrete k i) [
        | yes q ↦
            let own = f.pending in
            let e' : s.job i ≡ Some b = rw q at e in
            let eb : j ≡ b = cc in
            rw (q, eb) (omega arith)
        | no ne ↦ sooner (contender mode d i j) (contender mode d k b) (λ q. ne (sym q)) (f.first k b ne e)
      ]

  -- arrivals

  arrives_view : (m : Meaning) (s s' : State) (k : ℕ) → Arrives d s s' (suc k) → machine.Arrives (plan d) (view d m s) (view d m s') k
  arrives_view m s s' k h = record {
    below = h.known.high;
    apart = ready_by (period d (suc k)) s.clock (s.last (suc k)) h.apart;
    admitted = λ e. within_assured (rank d (suc k)) 0 (the_task d (suc k)).worst.0 (sound d ok k h.known.high).worst_low (h.admitted e);
    clock' = h.clock';
    mode' = h.mode';
    job_own = ap pend h.job_own;
    job_other = λ j l ne. ap pend (h.job_other (suc j) (λ e. ne (omega arith)));
    next_own = ap (next_arrival (period d (suc k))) h.last_own;
    next_other = λ j l ne. ap (next_arrival (period d (suc j))) (h.last_other (suc j) (λ e. ne (omega arith)));
    longest' = λ j l. refl;
  }

  arrives_known : (s s' : State) (i : ℕ) → Arrives d s s' i → ((k : ℕ) (j : Job) → s.job k ≡ Some j → Known d k) → (k : ℕ) (j : Job) → s'.job k ≡ Some j → Known d k
  arrives_known s s' i h was k j e =
      elim (ℕ_discrete k i) [
        | yes q ↦ rw q h.known
        | no ne ↦ was k j (sym (h.job_other k ne) ∙ e)
      ]

  arrives_sane : (m : Meaning) (s s' : State) (i : ℕ) → Arrives d s s' i → Sane d m s → Sane d m s'
  arrives_sane m s s' zero h was = absurd (omega (arith, h.known.low))
  arrives_sane m s s' (suc k) h was = record {
    known = arrives_known s s' (suc k) h was.known;
    judged = λ e. was.judged (sym h.foreign' ∙ e);
    inv = arrive_inv (plan d) (plan_ok d ok) (view d m s) (view d m s') k (arrives_view m s s' k h) was.inv;
  }

  pub arrived_sane : (m : Meaning) (s s' : State) (i : ℕ) (r : Result (Unit {0}) ArrivalRefusal) → Arrived d s i r s' → Sane d m s → Sane d m s'
  arrived_sane m s s' i (Ok v) h was = arrives_sane m s s' i h was
  arrived_sane m s s' i (Err e) h was = rw h.1 was

  -- a known task that may arrive again has no job pending
  pub free_when_apart : (m : Meaning) (s : State) (i : ℕ) → Sane d m s → Known d i → Apart d s i → s.job i ≡ None
  free_when_apart m s zero was k apart = absurd (omega (arith, k.low))
  free_when_apart m s (suc k) was kn apart = go (s.job (suc k)) refl
    where
      go : (o : Option Job) → s.job (suc k) ≡ o → s.job (suc k) ≡ None
      go None e = e
      go (Some j) e =
          absurd (idle≢live j.arrival.0 j.run.0
          (free_of (plan d) (plan_ok d ok) (view d m s) was.inv k kn.high (ready_by (period d (suc k)) s.clock (s.last (suc k)) apart))
          (ap pend e))

  -- ticks

  -- the served job ends, or has not had its most
  low_own : (k : ℕ) (mark : Mark) (j : Job) (e : Option Ending) → j.run.0 < (the_task d (suc k)).worst.0 → e ≡ ending (the_task d (suc k)) low mark (j.run.0 + 1)
      → (pend (served e j) ≡ idle) ⊎ ((pend (served e j) ≡ live j.arrival.0 (j.run.0 + 1)) × (j.run.0 + 1 < (the_task d (suc k)).worst.0))
  low_own k mark j (Some e) short q = inl refl
  low_own k mark j None short q =
      let ne = (goes_on (the_task d (suc k)) low mark (j.run.0 + 1) q).0 in
      inr (refl, omega arith)

  high_own : (k : ℕ) (mark : Mark) (j : Job) (e : Option Ending) → j.run.0 < assured (plan d) k → e ≡ ending (the_task d (suc k)) high mark (j.run.0 + 1)
      → (pend (served e j) ≡ idle) ⊎ ((pend (served e j) ≡ live j.arrival.0 (j.run.0 + 1)) × (j.run.0 + 1 < assured (plan d) k))
  high_own k mark j (Some e) short q = inl refl
  high_own k mark j None short q =
      let both = goes_on (the_task d (suc k)) high mark (j.run.0 + 1) q in
      inr (refl, short_of (rank d (suc k)) j.run.0 (the_task d (suc k)).worst.0 short both.0 both.1)

  serves_known : (mode : Mode) (mark : Mark) (s s' : State) (i : ℕ) (j : Job) (e : Option Ending) → s.job i ≡ Some j → Serves d mode mark s s' i j e
      → ((k : ℕ) (b : Job) → s.job k ≡ Some b → Known d k) → (k : ℕ) (b : Job) → s'.job k ≡ Some b → Known d k
  serves_known mode mark s s' i j e own h was k b q =
      elim (ℕ_discrete k i) [
        | yes z ↦ rw z (was i j own)
        | no ne ↦ was k b (sym (h.job_other k ne) ∙ q)
      ]

  -- what a consenting rule leaves
  pub consents_weights : (c : Criticality) (i u : ℕ) (m n : Meaning) → Consents c i u m n → OfTable d m → OfTable d n
  consents_weights HighTask i u m n g of = record { weights = λ k lo hi. g.weights k ∙ of.weights k lo hi; total = g.total ∙ of.total }
  consents_weights (LowTask g) i u m n e of = rw e of

  longest_own : (c : Criticality) (i u : ℕ) (m n : Meaning) → Consents c i u m n → n.longest i ≡ cond (is_high c) (max (m.longest i) (u + 1)) (m.longest i)
  longest_own HighTask i u m n g = g.longest i ∙ ap (λ b. cond b (max (m.longest i) (u + 1)) (m.longest i)) (eq-eqb i i refl)
  longest_own (LowTask g) i u m n e = ap (λ (x : Meaning). x.longest i) e

  longest_other : (c : Criticality) (i u : ℕ) (m n : Meaning) → Consents c i u m n → (k : ℕ) → k ≢ i → n.longest k ≡ m.longest k
  longest_other HighTask i u m n g k ne = g.longest k ∙ ap (λ b. cond b (max (m.longest k) (u + 1)) (m.longest k)) (ne_eqb k i ne)
  longest_other (LowTask g) i u m n e k ne = ap (λ (x : Meaning). x.longest k) e

  granted : (c : Criticality) (i u : ℕ) (m n : Meaning) → Lawful m → OfTable d m → Consents c i u m n → is_high c ≡ true → machine.load (plan d) (λ k. n.longest (suc k)) ≤ d.total.0
  granted HighTask i u m n law of g e =
      let fits : raised_load m i u ≤ m.total = law.fits i u (sym g.said) in
      let same_Load = load_is d m ok.few of (raised m.longest i u) in
      let same : machine.load (plan d) (λ k. n.longest (suc k)) ≡ machine.load (plan d) (λ k. raised m.longest i u (suc k)) =
      sum_same d.count _ _ (λ k l. ap (λ z. cond (is_high (rank d (suc k))) ((plan d).w k * z) 0) (g.longest (suc k))) in
      omega (arith, of.total)
  granted (LowTask g) i u m n law of c e = absurd (both_ways false refl e)

  -- step 6
  settles_sane : {s s' : State} {m n : Meaning} → Settles s s' m n → Sane d m s → Sane d n s'
  settles_sane (Settles.busy i j e) was = was
  settles_sane (Settles.rests {s} {s'} {m} {n} h r) was = record {
    known = λ i j e. absurd (none≢some j (h.job' i ∙ h.empty i) e);
    judged = λ e. let of = was.judged (sym h.foreign' ∙ e) in record { weights = λ k lo hi. r.weights k ∙ of.weights k lo hi; total = r.total ∙ of.total };
    inv = empty_inv (plan d) (view d n s') (λ k l. ap pend (h.job' (suc k) ∙ h.empty (suc k))) (λ k l. r.longest (suc k));
  }

  low_first : (s : State) (k : ℕ) (j : Job) → First d ahead low s (suc k) j → (i r u : ℕ) (b : Job) → s.job (suc i) ≡ Some b → b.arrival.0 ≡ r → b.run.0 ≡ u
      → due (plan d) k j.arrival.0 j.run.0 ≤ due (plan d) i r u
  low_first s k j f i r u b e er eu = rw (← er, ← eu) (rw (← (due_is d k j), ← (due_is d i b)) (first_sooner low s (suc k) j f (suc i) b e))

  -- a tick in low mode
  low_run : (m mid : Meaning) (s s' : State) (k : ℕ) (j : Job) (e : Option Ending) (mark : Mark) → Sane d m s → Lawful m → s.foreign ≡ false → s.mode ≡ low
      → First d ahead low s (suc k) j → Consents (rank d (suc k)) (suc k) j.run.0 m mid → Serves d low mark s s' (suc k) j e → Sane d mid s'
  low_run m mid s s' k j e mark was law ours lowly f c h = record {
    known = serves_known low mark s s' (suc k) j e f.pending h was.known;
    judged = λ _. consents_weights (rank d (suc k)) (suc k) j.run.0 m mid c (was.judged ours);
    inv = record {
      facts = low_facts (plan d) (plan_ok d ok) (view d m s) (view d mid s') k r u run was.inv.facts lowly;
      lows = λ _ V. low_ledger (plan d) (plan_ok d ok) (view d m s) (view d mid s') k r u run was.inv.facts lowly V (was.inv.lows lowly V);
      highs = λ q. absurd (low≢high (h.mode' ∙ lowly) q);
    };
  }
    where
      r : ℕ
      r = j.arrival.0

      u : ℕ
      u = j.run.0

      l : k < d.count
      l = (was.known (suc k) j f.pending).high

      run : machine.LowRuns (plan d) (view d m s) (view d mid s') k r u
      run = record {
        runs = record {
          below = l;
          pending = ap pend f.pending;
          clock' = h.clock';
          mode' = h.mode';
          job_own = rw h.job_own (low_own k mark j e (was.inv.facts.jobs k r u l (ap pend f.pending)).short h.ends);
          job_other = λ i l ne. ap pend (h.job_other (suc i) (λ q. ne (omega arith)));
          next' = λ i l. ap (next_arrival (period d (suc i))) (h.last' (suc i));
        };
        first = λ i r' u' li q.
            let b = behind (s.job (suc i)) r' u' q in
            low_first s k j f i r' u' b.0 b.1 b.2 b.3;
        longest_own = longest_own (rank d (suc k)) (suc k) u m mid c;
        longest_other = λ i l ne. longest_other (rank d (suc k)) (suc k) u m mid c (suc i) (λ q. ne (omega arith));
        granted = granted (rank d (suc k)) (suc k) u m mid law (was.judged ours) c;
      }

  -- a tick in high mode
  high_run : (m : Meaning) (s s' : State) (k : ℕ) (j : Job) (e : Option Ending) (mark : Mark) → Sane d m s → s.mode ≡ high
      → First d ahead high s (suc k) j → Serves d high mark s s' (suc k) j e → Sane d m s'
  high_run m s s' k j e mark was highly f h = record {
    known = serves_known high mark s s' (suc k) j e f.pending h was.known;
    judged = λ q. was.judged (sym h.foreign' ∙ q);
    inv = record {
      facts = high_facts (plan d) (plan_ok d ok) (view d m s) (view d m s') k r u run was.inv.facts highly;
      lows = λ q. absurd (low≢high q (h.mode' ∙ highly));
      highs = λ _. high_ledger (plan d) (plan_ok d ok) (view d m s) (view d m s') k r u run was.inv.facts highly (was.inv.highs highly);
    };
  }
    where
      r : ℕ
      r = j.arrival.0

      u : ℕ
      u = j.run.0

      l : k < d.count
      l = (was.known (suc k) j f.pending).high

      run : machine.HighRuns (plan d) (view d m s) (view d m s') k r u
      run = record {
        runs = record {
          below = l;
          pending = ap pend f.pending;
          clock' = h.clock';
          mode' = h.mode';
          job_own = rw h.job_own (high_own k mark j e ((was.inv.facts.jobs k r u l (ap pend f.pending)).within highly) h.ends);
          job_other = λ i l ne. ap pend (h.job_other (suc i) (λ q. ne (omega arith)));
          next' = λ i l. ap (next_arrival (period d (suc i))) (h.last' (suc i));
        };
        first = λ i r' u' li q.
            let b = behind (s.job (suc i)) r' u' q in
            let le = first_sooner high s (suc k) j f (suc i) b.0 b.1 in
            rw (← b.2) le;
        longest' = λ i l. refl;
      }

  -- the switch
  switch_sane : (m mid : Meaning) (s s' : State) (dropped a run : ℕ) → Sane d m s → s.mode ≡ low → Granted m mid a run false → Switches d s s' dropped → Sane d mid s'
  switch_sane m mid s s' dropped a run was lowly g h = rw (g.denied refl) (record {
    known = λ i j e. came i j e (s.job i) refl;
    judged = λ q. was.judged (sym h.foreign' ∙ q);
    inv = record {
      facts = switch_facts (plan d) (plan_ok d ok) (view d m s) (view d m s') sw was.inv.facts lowly;
      lows = λ q. absurd (low≢high q h.mode');
      highs = λ _ t td. switch_high (plan d) (plan_ok d ok) (view d m s) (view d m s') sw was.inv.facts lowly t (rw (← h.clock') td) (was.inv.lows lowly);
    };
  })
    where
      came : (i : ℕ) (j : Job) → s'.job i ≡ Some j → (o : Option Job) → s.job i ≡ o → Known d i
      came i j e None q = absurd (none≢some j (h.none i q) e)
      came i j e (Some b) q = was.known i b q

      sw : machine.Switches (plan d) (view d m s) (view d m s')
      sw = record {
        clock' = h.clock';
        mode' = h.mode';
        kept = λ i r u l q early.
            let b = behind (s.job (suc i)) r u q in
            ap pend (h.stays (suc i) b.0 b.1 (within_early (rank d (suc i)) b.0.run.0 (the_task d (suc i)).worst.0 (omega (arith, b.3)))) ∙ ap pend (sym b.1) ∙ q;
        gone = λ i r u l q late.
            let b = behind (s.job (suc i)) r u q in
            let short = (was.inv.facts.jobs i r u l q).short in
            ap pend (h.goes (suc i) b.0 b.1 (within_late (rank d (suc i)) b.0.run.0 (the_task d (suc i)).worst.0 (omega (arith, b.3, short)) (omega (arith, b.3))));
        none = λ i l q. idle_at i (s.job (suc i)) refl q;
        next' = λ i l. ap (next_arrival (period d (suc i))) (h.last' (suc i));
        longest' = λ i l. refl;
      }
        where
          idle_at : (i : ℕ) (o : Option Job) → s.job (suc i) ≡ o → pend (s.job (suc i)) ≡ idle → pend (s'.job (suc i)) ≡ idle
          idle_at i None e q = ap pend (h.none (suc i) e)
          idle_at i (Some b) e q = absurd (idle≢live b.arrival.0 b.run.0 q (ap pend e))

  idles_sane : (m : Meaning) (s s' : State) → Idles s s' → Sane d m s → Sane d m s'
  idles_sane m s s' h was = record {
    known = λ i j e. absurd (none≢some j (h.job' i ∙ h.empty i) e);
    judged = λ q. was.judged (sym h.foreign' ∙ q);
    inv = idle_inv (plan d) (view d m s) (view d m s') (record {
      empty = λ i l. ap pend (h.empty (suc i));
      job' = λ i l. ap pend (h.job' (suc i) ∙ h.empty (suc i));
      longest' = λ i l. refl;
    }) was.inv;
  }

  calm_sane : (m n : Meaning) (s s' : State) (mark : Mark) (a : Answer) → s.foreign ≡ false → Lawful m → Calm d ahead m s mark a n s' → Sane d m s → Sane d n s'
  calm_sane m n s s' mark a ours law c was = settles_sane c.settles (go c.number c.first c.consents c.serves)
    where
      go : (i : ℕ) → First d ahead low s i c.job → Consents (rank d i) i c.job.run.0 m c.mid → Serves d low mark s c.state i c.job c.end → Sane d c.mid c.state
      go zero f g h = absurd (omega (arith, (was.known 0 c.job f.pending).low))
      go (suc k) f g h = low_run m c.mid s c.state k c.job c.end mark was law ours c.lowly f g h

  high_sane : (m : Meaning) (s s' : State) (mark : Mark) (i : ℕ) (j : Job) (e : Option Ending) → s.mode ≡ high → First d ahead high s i j → Serves d high mark s s' i j e → Sane d m s → Sane d m s'
  high_sane m s s' mark zero j e highly f h was = absurd (omega (arith, (was.known 0 j f.pending).low))
  high_sane m s s' mark (suc k) j e highly f h was = high_run m s s' k j e mark was highly f h

  passes_sane : (m n : Meaning) (s s' : State) (mark : Mark) (a : Answer) → s.foreign ≡ false → Lawful m → Passes d ahead m s mark a n s' → Sane d m s → Sane d n s'
  passes_sane m n s s' mark a ours law (Passes.idle h e says) was = rw e (idles_sane m s s' h was)
  passes_sane m n s s' mark a ours law (Passes.calm c) was = calm_sane m n s s' mark a ours law c was
  passes_sane m n s s' mark a ours law (Passes.switching c) was =
      settles_sane c.settles (high_sane c.mid c.after c.state mark c.number c.job c.end c.switches.mode' c.first c.serves
      (switch_sane m c.mid s c.after c.dropped c.asked c.asked_job.run.0 was c.lowly c.denied c.switches))
  passes_sane m n s s' mark a ours law (Passes.steady c) was =
      settles_sane c.settles (high_sane m s c.state mark c.number c.job c.end c.highly c.first c.serves was)

  pub ticked_sane : (m n : Meaning) (s s' : State) (mark : Mark) (r : Result Answer TickRefusal) → Lawful m → Ticked d ahead m s mark r n s' → Sane d m s → Sane d n s'
  ticked_sane m n s s' mark (Ok a) law h was = passes_sane m n s s' mark a h.0 law h.2 was
  ticked_sane m n s s' mark (Err ForeignRule) law h was = rw (h.1, h.2) was
  ticked_sane m n s s' mark (Err (ClockEnd t)) law h was = rw (h.3, h.4) was
