-- The switch bound: two logs of the same calls, in lockstep until the first switch.
use Rattle.std.proofs.Common.{◌≡◌, ℕ, zero, suc, ◌+◌, ◌*◌, ◌<◌, ◌≤◌, max, Bool, true, false, cond, not, eqb, ◌⊎◌, List, [], ◌∷◌, map, Some, Ok, Err, Option, Result, sym, refl, ap, ◌∙◌, inl, inr, zero-le, arith}
use native.Mathlib.Decide.{ℕ_discrete, dec_le}
use Rattle.std.proofs.lemmas.Bool.{both_ways}
use Rattle.tasks.specs.declared.task.Criticality.{Criticality}
use Rattle.tasks.specs.declared.task.Criticality.TheVariants.{High as HighTask, Low as LowTask}
use Rattle.table.specs.Verdict.{Draft}
use Rattle.order.specs.Orders.{Ahead, TieLaws}
use Rattle.budget.specs.Meaning.{Meaning, Lawful, Granted, Rested, raised, raised_load}
use Rattle.runs.specs.declared.answer.Mode.{Mode}
use Rattle.runs.specs.declared.answer.Mode.TheVariants.{High, Low}
use Rattle.runs.specs.declared.answer.Ending.{Ending}
use Rattle.runs.specs.declared.answer.Job.{Job}
use Rattle.runs.specs.declared.answer.Answer.{Answer}
use Rattle.runs.specs.declared.call.Mark.{Mark}
use Rattle.runs.specs.declared.refusal.ArrivalRefusal.{ArrivalRefusal}
use Rattle.runs.specs.declared.refusal.ArrivalRefusal.TheVariants.{ForeignRule, NoSuchTask, TooEarly, StillPending, NoAssuredPart}
use Rattle.runs.specs.declared.refusal.TickRefusal.{TickRefusal}
use Rattle.runs.specs.declared.refusal.TickRefusal.TheVariants.{ForeignRule as TickForeign, ClockEnd}
use Rattle.runs.specs.declared.entry.Entry.{Entry}
use Rattle.runs.specs.declared.entry.Entry.TheVariants.{Arrive, Tick}
use Rattle.runs.specs.Numbers.{call_of}
use Rattle.runs.specs.States.{State, OfTable, Judged, rank, is_high, within}
use Rattle.runs.specs.Choices.{contender}
use Rattle.runs.specs.Laws.{Arrives, Refused, Arrived, Idles, First, Consents, Serves, Settles, Calm, Switching, Steady, Passes, Ticked}
use Rattle.runs.specs.Logs.{switches, switched_in, calm, before_switch}
use Rattle.runs.specs.Produced.{Kind, lawful, exact, Keeps, Follows}
use Rattle.runs.specs.Agreement.{Agree, Alike, Lockstep}
use Rattle.runs.specs.Bounds.{SwitchBound}
use Rattle.runs.proofs.Sums.{sum_same}
use Rattle.runs.proofs.Keeps.{none≢some}
use Rattle.runs.proofs.LowKeeps.{low≢high}
use Rattle.runs.proofs.Ages.{follows_keeps}

some_same : {A : Type 0} {x : Option A} {a b : A} → x ≡ Some a → x ≡ Some b → a ≡ b
some_same {x = x} {a} {b} p q = cc

-- arrivals

pub flip : (s t : State) → Agree s t → Agree t s
flip s t ag = record {
  foreigns = sym ag.foreigns;
  clocks = sym ag.clocks;
  modes = sym ag.modes;
  jobs = λ i. sym (ag.jobs i);
  lasts = λ i. sym (ag.lasts i);
}

-- what one side accepts the other does not refuse
refused_never : (d : Draft) (s s' t : State) (i : ℕ) (e : ArrivalRefusal) → Agree s t → Arrives d s s' i → Refused d t i e → ⊥
refused_never d s s' t i ForeignRule ag a r = both_ways t.foreign (sym ag.foreigns ∙ a.own_rule) r
refused_never d s s' t i (NoSuchTask k) ag a r = r.2 a.known
refused_never d s s' t i (TooEarly k next) ag a r =
    let was = a.apart r.3.last (ag.lasts i ∙ r.3.was) in
    omega (arith, r.3.early, r.3.next_is, ag.clocks)
refused_never d s s' t i (StillPending k j) ag a r = none≢some j (sym (ag.jobs i) ∙ a.free) r.4
refused_never d s s' t i (NoAssuredPart k) ag a r = both_ways (within (rank d i) 0) r.6 (a.admitted (ag.modes ∙ r.5))

both_arrive : (d : Draft) (s s' t t' : State) (i : ℕ) → Agree s t → Arrives d s s' i → Arrives d t t' i → Agree s' t'
both_arrive d s s' t t' i ag a b = record {
  foreigns = a.foreign' ∙ ag.foreigns ∙ sym b.foreign';
  clocks = a.clock' ∙ ag.clocks ∙ sym b.clock';
  modes = a.mode' ∙ ag.modes ∙ sym b.mode';
  jobs = λ k.
      elim (ℕ_discrete k i) [
        | yes e ↦ rw (e, a.job_own, b.job_own, ag.clocks)
        | no ne ↦ a.job_other k ne ∙ ag.jobs k ∙ sym (b.job_other k ne)
      ];
  lasts = λ k.
      elim (ℕ_discrete k i) [
        | yes e ↦ rw (e, a.last_own, b.last_own, ag.clocks)
        | no ne ↦ a.last_other k ne ∙ ag.lasts k ∙ sym (b.last_other k ne)
      ];
}

arrived_both : (d : Draft) (s s' t t' : State) (i : ℕ) (r r' : Result (Unit {0}) ArrivalRefusal) → Agree s t → Arrived d s i r s' → Arrived d t i r' t' → Agree s' t'
arrived_both d s s' t t' i (Ok v) (Ok v') ag h k = both_arrive d s s' t t' i ag h k
arrived_both d s s' t t' i (Ok v) (Err e) ag h k = absurd (refused_never d s s' t i e ag h k.0)
arrived_both d s s' t t' i (Err e) (Ok v) ag h k = absurd (refused_never d t t' s i e (flip s t ag) k h.0)
arrived_both d s s' t t' i (Err e) (Err e') ag h k = rw (h.1, k.1) ag

-- rules

alike_rested : (m m' n n' : Meaning) → Alike m n → Rested m m' → Rested n n' → Alike m' n'
alike_rested m m' n n' al a b = record {
  weights = λ i. a.weights i ∙ al.weights i ∙ sym (b.weights i);
  totals = a.total ∙ al.totals ∙ sym b.total;
  longests = λ i. a.longest i ∙ sym (b.longest i);
}

raised_alike : (m n : Meaning) → Alike m n → (i u k : ℕ) → raised m.longest i u k ≡ raised n.longest i u k
raised_alike m n al i u k = ap (λ x. cond (eqb k i) (max x (u + 1)) x) (al.longests k)

alike_granted : (m m' n n' : Meaning) (i u : ℕ) (b : Bool) → Alike m n → Granted m m' i u b → Granted n n' i u b → Alike m' n'
alike_granted m m' n n' i u b al g h = record {
  weights = λ k. g.weights k ∙ al.weights k ∙ sym (h.weights k);
  totals = g.total ∙ al.totals ∙ sym h.total;
  longests = λ k. g.longest k ∙ both b k ∙ sym (h.longest k);
}
  where
    both : (b : Bool) (k : ℕ) → cond b (raised m.longest i u k) (m.longest k) ≡ cond b (raised n.longest i u k) (n.longest k)
    both true k = raised_alike m n al i u k
    both false k = al.longests k

alike_consents : (c : Criticality) (i u : ℕ) (m m' n n' : Meaning) → Alike m n → Consents c i u m m' → Consents c i u n n' → Alike m' n'
alike_consents HighTask i u m m' n n' al g h = alike_granted m m' n n' i u true al g h
alike_consents (LowTask x) i u m m' n n' al g h = rw (g, h) al

load_alike : (m n : Meaning) → Alike m n → (i u : ℕ) → raised_load m i u ≡ raised_load n i u
load_alike m n al i u = sum_same 32 _ _ (λ k l. ap (λ x. x * raised m.longest i u (suc k)) (al.weights (suc k)) ∙ ap (λ x. n.weight (suc k) * x) (raised_alike m n al i u (suc k)))

-- where the other says yes, so does the shared rule
yes_too : (m n : Meaning) → Keeps exact m → Keeps lawful n → Alike m n → (i u : ℕ) → n.yes i u ≡ true → m.yes i u ≡ true
yes_too m n km kn al i u e =
    let fits = kn.law.fits i u e in
    (km.exactly i u).1 weighty (omega (arith, load_alike m n al i u, al.totals))
  where
    weighty : 0 < m.weight i
    weighty = elim (dec_le (m.weight i) 0) [
      | yes z ↦ absurd (both_ways (n.yes i u) (kn.law.silent i u (omega (arith, al.weights i))) e)
      | no z ↦ omega arith
    ]

-- states

serves_agree : (d : Draft) (mode : Mode) (mark : Mark) (s s' t t' : State) (i : ℕ) (j : Job) (e e' : Option Ending) → Agree s t → Serves d mode mark s s' i j e → Serves d mode mark t t' i j e' → Agree s' t'
serves_agree d mode mark s s' t t' i j e e' ag a b = record {
  foreigns = a.foreign' ∙ ag.foreigns ∙ sym b.foreign';
  clocks = a.clock' ∙ ap (λ x. x + 1) ag.clocks ∙ sym b.clock';
  modes = a.mode' ∙ ag.modes ∙ sym b.mode';
  jobs = λ k.
      elim (ℕ_discrete k i) [
        | yes q ↦ rw (q, a.job_own, b.job_own, a.ends, b.ends)
        | no ne ↦ a.job_other k ne ∙ ag.jobs k ∙ sym (b.job_other k ne)
      ];
  lasts = λ k. a.last' k ∙ ag.lasts k ∙ sym (b.last' k);
}

-- states and rules after step 6
pub record Same (s t : State) (m n : Meaning) : Type 0 where
  pub agree : Agree s t
  pub alike : Alike m n

settles_same : {s s' t t' : State} {m m' n n' : Meaning} → Settles s s' m m' → Settles t t' n n' → Same s t m n → Same s' t' m' n'
settles_same (Settles.busy i j e) (Settles.busy i₂ j₂ e₂) sm = sm
settles_same (Settles.busy i j e) (Settles.rests h r) sm = absurd (none≢some j (sm.agree.jobs i ∙ h.empty i) e)
settles_same (Settles.rests h r) (Settles.busy i j e) sm = absurd (none≢some j (sym (sm.agree.jobs i) ∙ h.empty i) e)
settles_same (Settles.rests {s} {s'} {m} {n} h r) (Settles.rests {s = t} {s' = t'} {m = m₂} {n = n₂} k q) sm = record {
  agree = record {
    foreigns = h.foreign' ∙ sm.agree.foreigns ∙ sym k.foreign';
    clocks = h.clock' ∙ sm.agree.clocks ∙ sym k.clock';
    modes = h.mode' ∙ sym k.mode';
    jobs = λ i. h.job' i ∙ sm.agree.jobs i ∙ sym (k.job' i);
    lasts = λ i. h.last' i ∙ sm.agree.lasts i ∙ sym (k.last' i);
  };
  alike = alike_rested m n m₂ n₂ sm.alike r q;
}

-- after one call: the same and calm, or the other has switched
abbrev Next : Entry → Entry → State → State → Meaning → Meaning → Type 0
Next e f s t m n = ((switches e ≡ false) × (switches f ≡ false) × (calm e ≡ calm f) × Same s t m n) ⊎ ((switches f ≡ true) × (calm f ≤ calm e))

quiet : (mark : Mark) (a b : Answer) (s t : State) (m n : Meaning) → a.switched ≡ false → b.switched ≡ false → Same s t m n → Next (Tick mark (Some (Ok a))) (Tick mark (Some (Ok b))) s t m n
quiet mark a b s t m n p q sm = inl (p, q, ap (λ x. cond x 0 1) (p ∙ sym q), sm)

loud : (mark : Mark) (a b : Answer) (s t : State) (m n : Meaning) → b.switched ≡ true → Next (Tick mark (Some (Ok a))) (Tick mark (Some (Ok b))) s t m n
loud mark a b s t m n q = inr (q, rw q (zero-le))

module _ (d : Draft) (ahead : Ahead) (laws : TieLaws ahead) where
  -- the same task is first on both sides
  first_same : (mode : Mode) (s t : State) (i k : ℕ) (j b : Job) → Agree s t → First d ahead mode s i j → First d ahead mode t k b → i ≡ k
  first_same mode s t i k j b ag f g =
      elim (ℕ_discrete i k) [
        | yes e ↦ e
        | no ne ↦
            let win = f.first k b (λ q. ne (sym q)) (ag.jobs k ∙ g.pending) in
            let lose = g.first i j ne (sym (ag.jobs i) ∙ f.pending) in
            absurd (both_ways (ahead (contender mode d k b) (contender mode d i j)) (laws.one_way (contender mode d i j) (contender mode d k b) ne ∙ ap not win) lose)
      ]

  idle_not_first : (mode : Mode) (s s' t : State) (k : ℕ) (b : Job) → Agree s t → Idles s s' → First d ahead mode t k b → ⊥
  idle_not_first mode s s' t k b ag h g = none≢some b (sym (ag.jobs k) ∙ h.empty k) g.pending

  idles_same : (s s' t t' : State) (m n : Meaning) → Same s t m n → Idles s s' → Idles t t' → Same s' t' m n
  idles_same s s' t t' m n sm a b = record {
    agree = record {
      foreigns = a.foreign' ∙ sm.agree.foreigns ∙ sym b.foreign';
      clocks = a.clock' ∙ ap (λ x. x + 1) sm.agree.clocks ∙ sym b.clock';
      modes = a.mode' ∙ sm.agree.modes ∙ sym b.mode';
      jobs = λ i. a.job' i ∙ sm.agree.jobs i ∙ sym (b.job' i);
      lasts = λ i. a.last' i ∙ sm.agree.lasts i ∙ sym (b.last' i);
    };
    alike = sm.alike;
  }

  module _ (m n m' n' : Meaning) (s s' t t' : State) (mark : Mark) (a b : Answer) (sm : Same s t m n) where
    both_calm : Calm d ahead m s mark a m' s' → Calm d ahead n t mark b n' t' → Same s' t' m' n'
    both_calm x y = settles_same x.settles y.settles (go x.number x.first x.consents x.serves q)
      where
        q : x.number ≡ y.number
        q = first_same Low s t x.number y.number x.job y.job sm.agree x.first y.first

        same_job : x.job ≡ y.job
        same_job = some_same (sym (sm.agree.jobs x.number) ∙ x.first.pending) (ap t.job q ∙ y.first.pending)

        go : (i : ℕ) → First d ahead Low s i x.job → Consents (rank d i) i x.job.run.0 m x.mid → Serves d Low mark s x.state i x.job x.end → i ≡ y.number → Same x.state y.state x.mid y.mid
        go i f c h e =
            let c' : Consents (rank d i) i x.job.run.0 n y.mid = rw (e, same_job) y.consents in
            let h' : Serves d Low mark t y.state i x.job y.end = rw (e, same_job) y.serves in
            record {
              agree = serves_agree d Low mark s x.state t y.state i x.job x.end y.end sm.agree h h';
              alike = alike_consents (rank d i) i x.job.run.0 m x.mid n y.mid sm.alike c c';
            }

    both_steady : Steady d ahead m s mark a m' s' → Steady d ahead n t mark b n' t' → Same s' t' m' n'
    both_steady x y = settles_same x.settles y.settles (record {
      agree = serves_agree d High mark s x.state t y.state x.number x.job x.end y.end sm.agree x.serves (rw (q, same_job) y.serves);
      alike = sm.alike;
    })
      where
        q : x.number ≡ y.number
        q = first_same High s t x.number y.number x.job y.job sm.agree x.first y.first

        same_job : x.job ≡ y.job
        same_job = some_same (sym (sm.agree.jobs x.number) ∙ x.first.pending) (ap t.job q ∙ y.first.pending)

    -- the shared rule does not deny what the other grants
    not_alone : Keeps exact m → Keeps lawful n → Switching d ahead m s mark a m' s' → Calm d ahead n t mark b n' t' → ⊥
    not_alone km kn x y = go (rank d x.asked) x.asked_high (rw (q, same_job) y.consents)
      where
        q : x.asked ≡ y.number
        q = first_same Low s t x.asked y.number x.asked_job y.job sm.agree x.asked_first y.first

        same_job : x.asked_job ≡ y.job
        same_job = some_same (sym (sm.agree.jobs x.asked) ∙ x.asked_first.pending) (ap t.job q ∙ y.first.pending)

        go : (c : Criticality) → is_high c ≡ true → Consents c x.asked x.asked_job.run.0 n y.mid → ⊥
        go HighTask e g = both_ways (m.yes x.asked x.asked_job.run.0) (sym x.denied.said) (yes_too m n km kn sm.alike x.asked x.asked_job.run.0 (sym g.said))
        go (LowTask z) e g = both_ways false refl e

    passes_both : Keeps exact m → Keeps lawful n → Passes d ahead m s mark a m' s' → Passes d ahead n t mark b n' t' → Next (Tick mark (Some (Ok a))) (Tick mark (Some (Ok b))) s' t' m' n'
    passes_both km kn x (Passes.switching y) = loud mark a b s' t' m' n' (ap (λ (z : Answer). z.switched) y.says)
    passes_both km kn (Passes.idle h e u) (Passes.idle k f v) = quiet mark a b s' t' m' n' (ap (λ (z : Answer). z.switched) u) (ap (λ (z : Answer). z.switched) v) (rw (e, f) (idles_same s s' t t' m n sm h k))
    passes_both km kn (Passes.idle h e u) (Passes.calm y) = absurd (idle_not_first Low s s' t y.number y.job sm.agree h y.first)
    passes_both km kn (Passes.idle h e u) (Passes.steady y) = absurd (idle_not_first High s s' t y.number y.job sm.agree h y.first)
    passes_both km kn (Passes.calm x) (Passes.idle k f v) = absurd (idle_not_first Low t t' s x.number x.job (flip s t sm.agree) k x.first)
    passes_both km kn (Passes.calm x) (Passes.calm y) = quiet mark a b s' t' m' n' (ap (λ (z : Answer). z.switched) x.says) (ap (λ (z : Answer). z.switched) y.says) (both_calm x y)
    passes_both km kn (Passes.calm x) (Passes.steady y) = absurd (low≢high x.lowly (sm.agree.modes ∙ y.highly))
    passes_both km kn (Passes.switching x) (Passes.idle k f v) = absurd (idle_not_first Low t t' s x.asked x.asked_job (flip s t sm.agree) k x.asked_first)
    passes_both km kn (Passes.switching x) (Passes.calm y) = absurd (not_alone km kn x y)
    passes_both km kn (Passes.switching x) (Passes.steady y) = absurd (low≢high x.lowly (sm.agree.modes ∙ y.highly))
    passes_both km kn (Passes.steady x) (Passes.idle k f v) = absurd (idle_not_first High t t' s x.number x.job (flip s t sm.agree) k x.first)
    passes_both km kn (Passes.steady x) (Passes.calm y) = absurd (low≢high y.lowly (sym sm.agree.modes ∙ x.highly))
    passes_both km kn (Passes.steady x) (Passes.steady y) = quiet mark a b s' t' m' n' (ap (λ (z : Answer). z.switched) x.says) (ap (λ (z : Answer). z.switched) y.says) (both_steady x y)

  ticked_both : (m n m' n' : Meaning) (s s' t t' : State) (mark : Mark) (r r' : Result Answer TickRefusal) → Keeps exact m → Keeps lawful n → Same s t m n
      → Ticked d ahead m s mark r m' s' → Ticked d ahead n t mark r' n' t' → Next (Tick mark (Some r)) (Tick mark (Some r')) s' t' m' n'
  ticked_both m n m' n' s s' t t' mark (Ok a) (Ok b) km kn sm h k = passes_both m n m' n' s s' t t' mark a b sm km kn h.2 k.2
  ticked_both m n m' n' s s' t t' mark (Ok a) (Err TickForeign) km kn sm h k = absurd (both_ways t.foreign (sym sm.agree.foreigns ∙ h.0) k.0)
  ticked_both m n m' n' s s' t t' mark (Ok a) (Err (ClockEnd z)) km kn sm h k = absurd (omega (arith, h.1, k.1, sm.agree.clocks))
  ticked_both m n m' n' s s' t t' mark (Err TickForeign) (Ok b) km kn sm h k = absurd (both_ways t.foreign k.0 (sym sm.agree.foreigns ∙ h.0))
  ticked_both m n m' n' s s' t t' mark (Err (ClockEnd z)) (Ok b) km kn sm h k = absurd (omega (arith, h.1, k.1, sm.agree.clocks))
  ticked_both m n m' n' s s' t t' mark (Err TickForeign) (Err TickForeign) km kn sm h k = inl (refl, refl, refl, rw (h.1, h.2, k.1, k.2) sm)
  ticked_both m n m' n' s s' t t' mark (Err TickForeign) (Err (ClockEnd z)) km kn sm h k = inl (refl, refl, refl, rw (h.1, h.2, k.3, k.4) sm)
  ticked_both m n m' n' s s' t t' mark (Err (ClockEnd z)) (Err TickForeign) km kn sm h k = inl (refl, refl, refl, rw (h.3, h.4, k.1, k.2) sm)
  ticked_both m n m' n' s s' t t' mark (Err (ClockEnd z)) (Err (ClockEnd w)) km kn sm h k = inl (refl, refl, refl, rw (h.3, h.4, k.3, k.4) sm)

-- along the logs
abbrev Lock : List Entry → List Entry → State → State → Meaning → Meaning → Type 0
Lock sh ot s t m n = ((switched_in sh ≡ false) × (switched_in ot ≡ false) × (before_switch ot ≡ before_switch sh) × Same s t m n) ⊎ ((switched_in ot ≡ true) × (before_switch ot ≤ before_switch sh))

kept : (b : Bool) (x y : ℕ) → x ≤ cond b x (x + y)
kept true x y = omega arith
kept false x y = omega arith

lock_none : (s t : State) (m n : Meaning) → Same s t m n → Lock [] [] s t m n
unfolding switched_in before_switch
lock_none s t m n sm = inl (refl, refl, refl, sm)

lock_more : (e f : Entry) (sh ot : List Entry) (s t s' t' : State) (m n m' n' : Meaning) → Lock sh ot s t m n → (Same s t m n → Next e f s' t' m' n') → Lock (e ∷ sh) (f ∷ ot) s' t' m' n'
unfolding switched_in before_switch
lock_more e f sh ot s t s' t' m n m' n' (inr l) next = inr (rw l.0 refl, rw l.0 (omega (arith, l.1, kept (switched_in sh) (before_switch sh) (calm e))))
lock_more e f sh ot s t s' t' m n m' n' (inl l) next = go (next l.3)
  where
    go : Next e f s' t' m' n' → Lock (e ∷ sh) (f ∷ ot) s' t' m' n'
    go (inl x) = inl (rw l.0 x.0, rw l.1 x.1, rw (l.0, l.1) (omega (arith, l.2, x.2)), x.3)
    go (inr x) = inr (rw l.1 x.0, rw (l.0, l.1) (omega (arith, l.2, x.1)))

least : (sh ot : List Entry) (s t : State) (m n : Meaning) → Lock sh ot s t m n → before_switch ot ≤ before_switch sh
least sh ot s t m n (inl l) = omega (arith, l.2)
least sh ot s t m n (inr l) = l.1

module _ (d : Draft) (ahead : Ahead) (laws : TieLaws ahead) (m₀ n₀ : Meaning) (s₀ t₀ : State) (km : Keeps exact m₀) (kn : Keeps lawful n₀) (same : Same s₀ t₀ m₀ n₀) where
  lock : {sh ot : List Entry} {m n : Meaning} {s t : State} → Follows exact d ahead m₀ s₀ sh m s → Follows lawful d ahead n₀ t₀ ot n t → map call_of sh ≡ map call_of ot → Lock sh ot s t m n
  lock Follows.still Follows.still e = lock_none s₀ t₀ m₀ n₀ same
  lock Follows.still (Follows.arrival i r f h) e = let z : ◌≡◌ {A = ℕ} 0 1 = cc in absurd (omega arith)
  lock Follows.still (Follows.ticking mark r f h k) e = let z : ◌≡◌ {A = ℕ} 0 1 = cc in absurd (omega arith)
  lock (Follows.arrival i r f h) Follows.still e = let z : ◌≡◌ {A = ℕ} 0 1 = cc in absurd (omega arith)
  lock (Follows.ticking mark r f h k) Follows.still e = let z : ◌≡◌ {A = ℕ} 0 1 = cc in absurd (omega arith)
  lock (Follows.arrival i r f h) (Follows.ticking mark r' f' h' k') e = let z : ◌≡◌ {A = ℕ} 0 1 = cc in absurd (omega arith)
  lock (Follows.ticking mark r f h k) (Follows.arrival i r' f' h') e = let z : ◌≡◌ {A = ℕ} 0 1 = cc in absurd (omega arith)
  lock (Follows.arrival {log = sh} {m = m} {s = s} {s' = s'} i r f h) (Follows.arrival {log = ot} {m = n} {s = t} {s' = t'} i' r' f' h') e =
      let ii : i ≡ i' = cc in
      let rest : map call_of sh ≡ map call_of ot = cc in
      lock_more (Arrive i (Some r)) (Arrive i' (Some r')) sh ot s t s' t' m n m n (lock f f' rest)
      (λ sm. inl (refl, refl, refl, record { agree = arrived_both d s s' t t' i r r' sm.agree h (rw (← ii) at h'); alike = sm.alike }))
  lock (Follows.ticking {log = sh} {m = m} {n = m'} {s = s} {s' = s'} mark r f h k) (Follows.ticking {log = ot} {m = n} {n = n'} {s = t} {s' = t'} mark' r' f' h' k') e =
      let mm : mark ≡ mark' = cc in
      let rest : map call_of sh ≡ map call_of ot = cc in
      lock_more (Tick mark (Some r)) (Tick mark' (Some r')) sh ot s t s' t' m n m' n' (lock f f' rest)
      (λ sm. ticked_both d ahead laws m n m' n' s s' t t' mark r r' (follows_keeps km f) (follows_keeps kn f') sm h (rw (← mm) at h'))

pub lockstep : Lockstep
lockstep d ahead laws m₀ n₀ s₀ t₀ ag al km kn sh ot m n s t f g e =
    least sh ot s t m n (lock d ahead laws m₀ n₀ s₀ t₀ km kn (record { agree = ag; alike = al }) f g e)

-- weights and total last along a log
settles_weights : {s s' : State} {m n : Meaning} → Settles s s' m n → ((i : ℕ) → n.weight i ≡ m.weight i) × (n.total ≡ m.total)
settles_weights (Settles.busy i j e) = (λ k. refl, refl)
settles_weights (Settles.rests h r) = (r.weights, r.total)

consents_weights : (c : Criticality) (i u : ℕ) (m n : Meaning) → Consents c i u m n → ((k : ℕ) → n.weight k ≡ m.weight k) × (n.total ≡ m.total)
consents_weights HighTask i u m n g = (g.weights, g.total)
consents_weights (LowTask x) i u m n e = (λ k. ap (λ (z : Meaning). z.weight k) e, ap (λ (z : Meaning). z.total) e)

abbrev pub Weights : Meaning → Meaning → Type 0
Weights m n = ((k : ℕ) → n.weight k ≡ m.weight k) × (n.total ≡ m.total)

weights_then : (m n o : Meaning) → Weights m n → Weights n o → Weights m o
weights_then m n o a b = (λ k. b.0 k ∙ a.0 k, b.1 ∙ a.1)

weights_same : (m n : Meaning) → n ≡ m → Weights m n
weights_same m n e = (λ k. ap (λ (z : Meaning). z.weight k) e, ap (λ (z : Meaning). z.total) e)

passes_weights : (d : Draft) (ahead : Ahead) (m n : Meaning) (s s' : State) (mark : Mark) (a : Answer) → Passes d ahead m s mark a n s' → Weights m n
passes_weights d ahead m n s s' mark a (Passes.idle h e u) = weights_same m n e
passes_weights d ahead m n s s' mark a (Passes.calm x) = weights_then m x.mid n (consents_weights (rank d x.number) x.number x.job.run.0 m x.mid x.consents) (settles_weights x.settles)
passes_weights d ahead m n s s' mark a (Passes.switching x) = weights_then m x.mid n (x.denied.weights, x.denied.total) (settles_weights x.settles)
passes_weights d ahead m n s s' mark a (Passes.steady x) = settles_weights x.settles

ticked_weights : (d : Draft) (ahead : Ahead) (m n : Meaning) (s s' : State) (mark : Mark) (r : Result Answer TickRefusal) → Ticked d ahead m s mark r n s' → Weights m n
ticked_weights d ahead m n s s' mark (Ok a) h = passes_weights d ahead m n s s' mark a h.2
ticked_weights d ahead m n s s' mark (Err TickForeign) h = weights_same m n h.1
ticked_weights d ahead m n s s' mark (Err (ClockEnd t)) h = weights_same m n h.3

pub follows_weights : {kind : Kind} {d : Draft} {ahead : Ahead} {m₀ : Meaning} {s₀ : State} {log : List Entry} {m : Meaning} {s : State} → Follows kind d ahead m₀ s₀ log m s → Weights m₀ m
follows_weights Follows.still = (λ k. refl, refl)
follows_weights (Follows.arrival i r f h) = follows_weights f
follows_weights {d = d} {ahead = ahead} {m₀ = m₀} (Follows.ticking {m = m} {n = n} {s = s} {s' = s'} mark r f h k) = weights_then m₀ m n (follows_weights f) (ticked_weights d ahead m n s s' mark r h)

-- with a foreign rule nothing is counted

foreign_arrived : (d : Draft) (s s' : State) (i : ℕ) (r : Result (Unit {0}) ArrivalRefusal) → Arrived d s i r s' → s.foreign ≡ true → s'.foreign ≡ true
foreign_arrived d s s' i (Ok v) h e = absurd (both_ways s.foreign h.own_rule e)
foreign_arrived d s s' i (Err x) h e = ap (λ (z : State). z.foreign) h.1 ∙ e

foreign_ticked : (d : Draft) (ahead : Ahead) (m n : Meaning) (s s' : State) (mark : Mark) (r : Result Answer TickRefusal) → Ticked d ahead m s mark r n s' → s.foreign ≡ true → (s'.foreign ≡ true) × (calm (Tick mark (Some r)) ≡ 0)
foreign_ticked d ahead m n s s' mark (Ok a) h e = absurd (both_ways s.foreign h.0 e)
foreign_ticked d ahead m n s s' mark (Err TickForeign) h e = (ap (λ (z : State). z.foreign) h.2 ∙ e, refl)
foreign_ticked d ahead m n s s' mark (Err (ClockEnd t)) h e = absurd (both_ways s.foreign h.0 e)

zero_more : (b : Bool) (x y : ℕ) → x ≡ 0 → y ≡ 0 → cond b x (x + y) ≡ 0
zero_more true x y e f = e
zero_more false x y e f = omega arith

uncounted : {kind : Kind} {d : Draft} {ahead : Ahead} {m₀ : Meaning} {s₀ : State} {log : List Entry} {m : Meaning} {s : State} → s₀.foreign ≡ true → Follows kind d ahead m₀ s₀ log m s → (s.foreign ≡ true) × (before_switch log ≡ 0)
unfolding before_switch
uncounted e Follows.still = (e, refl)
uncounted {d = d} e (Follows.arrival {log = log} {s = s} {s' = s'} i r f h) =
    let was = uncounted e f in
    (foreign_arrived d s s' i r h was.0, zero_more (switched_in log) (before_switch log) 0 was.1 refl)
uncounted {d = d} {ahead = ahead} e (Follows.ticking {log = log} {m = m} {n = n} {s = s} {s' = s'} mark r f h k) =
    let was = uncounted e f in
    let now = foreign_ticked d ahead m n s s' mark r h was.0 in
    (now.0, zero_more (switched_in log) (before_switch log) (calm (Tick mark (Some r))) was.1 now.1)

-- at the making

pub of_first : (d : Draft) (m₀ m : Meaning) → Weights m₀ m → OfTable d m → OfTable d m₀
of_first d m₀ m w of = record { weights = λ i lo hi. sym (w.0 i) ∙ of.weights i lo hi; total = sym w.1 ∙ of.total }

pub own_rule : (b f : Bool) (d : Draft) (m : Meaning) → f ≡ b → Judged f d m → OfTable d m → f ≡ false
own_rule true f d m e j of = absurd (strike (rw e at j))
  where
    strike : (OfTable d m → ⊥) → ⊥
    strike h = h of
own_rule false f d m e j of = e

alike_of : (d : Draft) (m n : Meaning) → Lawful m → Lawful n → OfTable d m → OfTable d n → ((i : ℕ) → m.longest i ≡ 0) → ((i : ℕ) → n.longest i ≡ 0) → Alike m n
alike_of d m n lm ln om on zm zn = record {
  weights = weights;
  totals = om.total ∙ sym on.total;
  longests = λ i. zm i ∙ sym (zn i);
}
  where
    weights : (i : ℕ) → m.weight i ≡ n.weight i
    weights zero = lm.bounded.zeroth ∙ sym ln.bounded.zeroth
    weights (suc k) =
        elim (dec_le (suc k) 32) [
          | yes hi ↦ om.weights (suc k) (omega arith) hi ∙ sym (on.weights (suc k) (omega arith) hi)
          | no hi ↦ lm.bounded.above (suc k) (omega arith) ∙ sym (ln.bounded.above (suc k) (omega arith))
        ]

pub switch_bound : SwitchBound
switch_bound d ok ahead laws sh ot m n s t p of q e = go q.first_state.foreign refl q.made.judged
  where
    own : p.first_state.foreign ≡ false
    own = own_rule p.first_state.foreign p.first_state.foreign d p.first_meaning refl p.made.judged (of_first d p.first_meaning m (follows_weights p.course) of)

    go : (b : Bool) → q.first_state.foreign ≡ b → Judged q.first_state.foreign d q.first_meaning → before_switch ot ≤ before_switch sh
    go true f j = omega (arith, (uncounted f q.course).1)
    go false f j =
        lockstep d ahead laws p.first_meaning q.first_meaning p.first_state q.first_state
        (record {
          foreigns = own ∙ sym f;
          clocks = p.made.clock0 ∙ sym q.made.clock0;
          modes = p.made.mode0 ∙ sym q.made.mode0;
          jobs = λ i. p.made.job0 i ∙ sym (q.made.job0 i);
          lasts = λ i. p.made.last0 i ∙ sym (q.made.last0 i);
        })
        (alike_of d p.first_meaning q.first_meaning p.made.keeps.law q.made.keeps.law (of_first d p.first_meaning m (follows_weights p.course) of) (rw f at j) p.made.rested q.made.rested)
        p.made.keeps q.made.keeps sh ot m n s t p.course q.course e
