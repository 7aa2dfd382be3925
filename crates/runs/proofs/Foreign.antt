-- 19 applies for ever, or never.
use Rattle.std.proofs.Common.{◌≡◌, ℕ, zero, suc, ◌≤◌, Bool, true, false, not, ◌&&◌, eqb, ◌≢◌, List, Some, None, Ok, Err, Option, Result, refl, ap, ◌∙◌, arith}
use Rattle.std.proofs.lemmas.Bool.{both_ways, eqb-true, eq-eqb, and_parts, and_from}
use Rattle.table.specs.Firsts.{first_below, unless}
use Rattle.table.specs.Verdict.{Draft}
use Rattle.table.proofs.Firsts.{first_below_at, first_below_all}
use Rattle.order.specs.Orders.{Ahead}
use Rattle.budget.specs.Meaning.{Meaning}
use Rattle.runs.specs.declared.answer.Answer.{Answer}
use Rattle.runs.specs.declared.call.Mark.{Mark}
use Rattle.runs.specs.declared.refusal.ArrivalRefusal.{ArrivalRefusal}
use Rattle.runs.specs.declared.refusal.ArrivalRefusal.TheVariants.{ForeignRule, NoSuchTask, TooEarly, StillPending, NoAssuredPart}
use Rattle.runs.specs.declared.refusal.TickRefusal.{TickRefusal}
use Rattle.runs.specs.declared.refusal.TickRefusal.TheVariants.{ForeignRule as TickForeign, ClockEnd}
use Rattle.runs.specs.declared.entry.Entry.{Entry}
use Rattle.runs.specs.declared.entry.Entry.TheVariants.{Arrive, Tick}
use Rattle.runs.specs.Numbers.{refused_by}
use Rattle.runs.specs.States.{State, OfTable, Judged, rule_weight, foreign_weight, is_none, foreign_rule}
use Rattle.runs.specs.Laws.{Arrived, Settles, Passes, Ticked}
use Rattle.runs.specs.Logs.{spans, clock}
use Rattle.runs.specs.Produced.{Kind, Follows}
use Rattle.runs.specs.Bounds.{NoneBy, AllBy, No19, Only19}
use Rattle.runs.proofs.Keeps.{none≢some}
use Rattle.runs.proofs.Ages.{differ}
use Rattle.runs.proofs.Lockstep.{follows_weights, of_first, own_rule}

-- the test says which

weight_passes : (b : Bool) (k : ℕ) → unless b k ≡ None → b ≡ true
weight_passes true k e = refl
weight_passes false k e = absurd (none≢some k e refl)

empty : {A : Type 0} (o : Option A) → is_none o ≡ true → o ≡ None
empty None e = refl
empty (Some a) e = absurd (both_ways false refl e)

module _ (d : Draft) (m : Meaning) where
  own_of : (is_none (first_below 32 (foreign_weight d m)) && eqb m.total d.total.0) ≡ true → OfTable d m
  own_of e =
      let both = and_parts (is_none (first_below 32 (foreign_weight d m))) (eqb m.total d.total.0) e in
      record { weights = weights (empty (first_below 32 (foreign_weight d m)) both.0); total = eqb-true m.total d.total.0 both.1 }
    where
      weights : first_below 32 (foreign_weight d m) ≡ None → (i : ℕ) → 1 ≤ i → i ≤ 32 → m.weight i ≡ rule_weight d i
      weights q zero lo hi = absurd (omega arith)
      weights q (suc k) lo hi = eqb-true (m.weight (suc k)) (rule_weight d (suc k)) (weight_passes (eqb (m.weight (suc k)) (rule_weight d (suc k))) (suc k) (first_below_at 32 (foreign_weight d m) q k hi))

  own_is : OfTable d m → (is_none (first_below 32 (foreign_weight d m)) && eqb m.total d.total.0) ≡ true
  own_is of =
      and_from (is_none (first_below 32 (foreign_weight d m))) (eqb m.total d.total.0)
      (ap is_none (first_below_all 32 (foreign_weight d m) (λ k l. ap (λ b. unless b (suc k)) (eq-eqb (m.weight (suc k)) (rule_weight d (suc k)) (of.weights (suc k) (omega arith) l)))))
      (eq-eqb m.total d.total.0 of.total)

  judged_by : (b : Bool) → (is_none (first_below 32 (foreign_weight d m)) && eqb m.total d.total.0) ≡ b → Judged (not b) d m
  judged_by true e = own_of e
  judged_by false e = λ of. both_ways (is_none (first_below 32 (foreign_weight d m)) && eqb m.total d.total.0) e (own_is of)

  -- the test is right
  pub judged_is : Judged (foreign_rule d m) d m
  judged_is = judged_by (is_none (first_below 32 (foreign_weight d m)) && eqb m.total d.total.0) refl

-- a rule of the table

arrived_own : (d : Draft) (s s' : State) (i : ℕ) (r : Result (Unit {0}) ArrivalRefusal) → Arrived d s i r s' → s.foreign ≡ false → (s'.foreign ≡ false) × (refused_by (Arrive i (Some r)) ≢ Some 19)
arrived_own d s s' i (Ok v) h e = (h.foreign' ∙ e, λ q. none≢some 19 refl q)
arrived_own d s s' i (Err ForeignRule) h e = absurd (both_ways s.foreign e h.0)
arrived_own d s s' i (Err (NoSuchTask k)) h e = (ap (λ (z : State). z.foreign) h.1 ∙ e, differ 10 19 (omega arith))
arrived_own d s s' i (Err (TooEarly k t)) h e = (ap (λ (z : State). z.foreign) h.1 ∙ e, differ 11 19 (omega arith))
arrived_own d s s' i (Err (StillPending k j)) h e = (ap (λ (z : State). z.foreign) h.1 ∙ e, differ 12 19 (omega arith))
arrived_own d s s' i (Err (NoAssuredPart k)) h e = (ap (λ (z : State). z.foreign) h.1 ∙ e, differ 13 19 (omega arith))

settles_foreign : {s s' : State} {m n : Meaning} → Settles s s' m n → s'.foreign ≡ s.foreign
settles_foreign (Settles.busy i j e) = refl
settles_foreign (Settles.rests h r) = h.foreign'

passes_foreign : (d : Draft) (ahead : Ahead) (m n : Meaning) (s s' : State) (mark : Mark) (a : Answer) → Passes d ahead m s mark a n s' → s'.foreign ≡ s.foreign
passes_foreign d ahead m n s s' mark a (Passes.idle h e u) = h.foreign'
passes_foreign d ahead m n s s' mark a (Passes.calm x) = settles_foreign x.settles ∙ x.serves.foreign'
passes_foreign d ahead m n s s' mark a (Passes.switching x) = settles_foreign x.settles ∙ x.serves.foreign' ∙ x.switches.foreign'
passes_foreign d ahead m n s s' mark a (Passes.steady x) = settles_foreign x.settles ∙ x.serves.foreign'

ticked_own : (d : Draft) (ahead : Ahead) (m n : Meaning) (s s' : State) (mark : Mark) (r : Result Answer TickRefusal) → Ticked d ahead m s mark r n s' → s.foreign ≡ false → (s'.foreign ≡ false) × (refused_by (Tick mark (Some r)) ≢ Some 19)
ticked_own d ahead m n s s' mark (Ok a) h e = (passes_foreign d ahead m n s s' mark a h.2 ∙ e, λ q. none≢some 19 refl q)
ticked_own d ahead m n s s' mark (Err TickForeign) h e = absurd (both_ways s.foreign e h.0)
ticked_own d ahead m n s s' mark (Err (ClockEnd t)) h e = (ap (λ (z : State). z.foreign) h.4 ∙ e, differ 14 19 (omega arith))

never_19 : {kind : Kind} {d : Draft} {ahead : Ahead} {m₀ : Meaning} {s₀ : State} {log : List Entry} {m : Meaning} {s : State} → s₀.foreign ≡ false → Follows kind d ahead m₀ s₀ log m s → (s.foreign ≡ false) × NoneBy 19 log
never_19 e Follows.still = (e, tt)
never_19 {d = d} e (Follows.arrival {s = s} {s' = s'} i r f h) =
    let was = never_19 e f in
    let now = arrived_own d s s' i r h was.0 in
    (now.0, (now.1, was.1))
never_19 {d = d} {ahead = ahead} e (Follows.ticking {m = m} {n = n} {s = s} {s' = s'} mark r f h k) =
    let was = never_19 e f in
    let now = ticked_own d ahead m n s s' mark r h was.0 in
    (now.0, (now.1, was.1))

pub no_19 : No19
no_19 kind d ahead log m s p of =
    (never_19 (own_rule p.first_state.foreign p.first_state.foreign d p.first_meaning refl p.made.judged (of_first d p.first_meaning m (follows_weights p.course) of)) p.course).1

-- any other

arrived_19 : (d : Draft) (s s' : State) (i : ℕ) (r : Result (Unit {0}) ArrivalRefusal) → Arrived d s i r s' → s.foreign ≡ true → (s' ≡ s) × (refused_by (Arrive i (Some r)) ≡ Some 19)
arrived_19 d s s' i (Ok v) h e = absurd (both_ways s.foreign h.own_rule e)
arrived_19 d s s' i (Err ForeignRule) h e = (h.1, refl)
arrived_19 d s s' i (Err (NoSuchTask k)) h e = absurd (both_ways s.foreign h.0.0 e)
arrived_19 d s s' i (Err (TooEarly k t)) h e = absurd (both_ways s.foreign h.0.0 e)
arrived_19 d s s' i (Err (StillPending k j)) h e = absurd (both_ways s.foreign h.0.0 e)
arrived_19 d s s' i (Err (NoAssuredPart k)) h e = absurd (both_ways s.foreign h.0.0 e)

ticked_19 : (d : Draft) (ahead : Ahead) (m n : Meaning) (s s' : State) (mark : Mark) (r : Result Answer TickRefusal) → Ticked d ahead m s mark r n s' → s.foreign ≡ true
    → (s' ≡ s) × (refused_by (Tick mark (Some r)) ≡ Some 19) × (spans (Tick mark (Some r)) ≡ 0)
ticked_19 d ahead m n s s' mark (Ok a) h e = absurd (both_ways s.foreign h.0 e)
ticked_19 d ahead m n s s' mark (Err TickForeign) h e = (h.2, refl, refl)
ticked_19 d ahead m n s s' mark (Err (ClockEnd t)) h e = absurd (both_ways s.foreign h.0 e)

always_19 : {kind : Kind} {d : Draft} {ahead : Ahead} {m₀ : Meaning} {s₀ : State} {log : List Entry} {m : Meaning} {s : State} → s₀.foreign ≡ true → Follows kind d ahead m₀ s₀ log m s
    → (s ≡ s₀) × AllBy 19 log × (clock log ≡ 0)
unfolding clock
always_19 e Follows.still = (refl, tt, refl)
always_19 {d = d} e (Follows.arrival {s = s} {s' = s'} i r f h) =
    let was = always_19 e f in
    let now = arrived_19 d s s' i r h (ap (λ (z : State). z.foreign) was.0 ∙ e) in
    (now.0 ∙ was.0, (now.1, was.1), omega (arith, was.2))
always_19 {d = d} {ahead = ahead} e (Follows.ticking {m = m} {n = n} {s = s} {s' = s'} mark r f h k) =
    let was = always_19 e f in
    let now = ticked_19 d ahead m n s s' mark r h (ap (λ (z : State). z.foreign) was.0 ∙ e) in
    (now.0 ∙ was.0, (now.1, was.1), omega (arith, was.2, now.2))

pub only_19 : Only19
only_19 kind d ahead log m s p foreign = go p.first_state.foreign refl p.made.judged
  where
    go : (b : Bool) → p.first_state.foreign ≡ b → Judged p.first_state.foreign d p.first_meaning → AllBy 19 log × (clock log ≡ 0) × ((i : ℕ) → s.job i ≡ None) × ((i : ℕ) → s.last i ≡ None)
    go false e j =
        let of : OfTable d p.first_meaning = rw e at j in
        let w = follows_weights p.course in
        absurd (foreign (record { weights = λ i lo hi. w.0 i ∙ of.weights i lo hi; total = w.1 ∙ of.total }))
    go true e j =
        let all = always_19 e p.course in
        (all.1, all.2, λ i. ap (λ (z : State). z.job i) all.0 ∙ p.made.job0 i, λ i. ap (λ (z : State). z.last i) all.0 ∙ p.made.last0 i)
