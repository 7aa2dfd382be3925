-- The age bound on logs, and that no log answers 12.
use Rattle.std.proofs.Common.{◌≡◌, ℕ, zero, suc, ◌+◌, ◌<◌, Bool, true, false, ◌≢◌, List, [], ◌∷◌, ◌++◌, Some, Ok, Err, Result, refl, ap, arith}
use Rattle.std.proofs.lemmas.Bool.{eq-eqb}
use Rattle.table.specs.Verdict.{Draft}
use Rattle.table.specs.Accepted.{Accepted}
use Rattle.order.specs.Orders.{Ahead, TieLaws}
use Rattle.budget.specs.Meaning.{Meaning}
use Rattle.runs.specs.declared.answer.Job.{Job}
use Rattle.runs.specs.declared.answer.Answer.{Answer}
use Rattle.runs.specs.declared.call.Mark.{Mark}
use Rattle.runs.specs.declared.refusal.TickRefusal.{TickRefusal}
use Rattle.runs.specs.declared.refusal.TickRefusal.TheVariants.{ForeignRule as TickForeign, ClockEnd}
use Rattle.runs.specs.declared.refusal.ArrivalRefusal.{ArrivalRefusal}
use Rattle.runs.specs.declared.refusal.ArrivalRefusal.TheVariants.{ForeignRule, NoSuchTask, TooEarly, StillPending, NoAssuredPart}
use Rattle.runs.specs.declared.entry.Entry.{Entry}
use Rattle.runs.specs.declared.entry.Entry.TheVariants.{Arrive, Tick}
use Rattle.runs.specs.Numbers.{refused_by}
use Rattle.runs.specs.States.{State, OfTable, Judged, period}
use Rattle.runs.specs.Laws.{Arrived}
use Rattle.runs.specs.Logs.{clock, since, age, arrival, run}
use Rattle.runs.specs.Produced.{Kind, Keeps, Made, Follows, Produced}
use Rattle.runs.specs.Bounds.{AgeBound, AllQuiet, AgeInWords, NoneBy, No12}
use Rattle.runs.proofs.Rest.{empty_inv}
use Rattle.runs.proofs.End as end
use Rattle.runs.proofs.View.{plan, pend, view, plan_ok}
use Rattle.runs.proofs.Keeps.{Sane, none≢some, arrived_sane, ticked_sane, free_when_apart}
use Rattle.runs.proofs.Ties.{Tie, produced_tied}

-- the meaning that a log ends with keeps its laws
pub follows_keeps : {kind : Kind} {d : Draft} {ahead : Ahead} {m₀ : Meaning} {s₀ : State} {log : List Entry} {m : Meaning} {s : State} → Keeps kind m₀ → Follows kind d ahead m₀ s₀ log m s → Keeps kind m
follows_keeps k Follows.still = k
follows_keeps k (Follows.arrival i r f h) = follows_keeps k f
follows_keeps k (Follows.ticking mark r f h k') = k'

made_judged : (b f : Bool) (d : Draft) (m : Meaning) → f ≡ b → Judged f d m → f ≡ false → OfTable d m
made_judged true f d m e j q = let z : ◌≡◌ {A = ℕ} 0 1 = cc in absurd (omega arith)
made_judged false f d m e j q = rw e at j

pub made_sane : (kind : Kind) (d : Draft) (m : Meaning) (s : State) → Made kind d m s → Sane d m s
made_sane kind d m s h = record {
  known = λ i j e. absurd (none≢some j (h.job0 i) e);
  judged = made_judged s.foreign s.foreign d m refl h.judged;
  inv = empty_inv (plan d) (view d m s) (λ k l. ap pend (h.job0 (suc k))) (λ k l. h.rested (suc k));
}

pub differ : (a b : ℕ) → (a ≡ b → ⊥) → Some a ≡ Some b → ⊥
differ a b ne e = ne (cc)

module _ (kind : Kind) (d : Draft) (ok : Accepted d) (ahead : Ahead) (laws : TieLaws ahead) where
  pub follows_sane : {m₀ : Meaning} {s₀ : State} {log : List Entry} {m : Meaning} {s : State} → Keeps kind m₀ → Sane d m₀ s₀ → Follows kind d ahead m₀ s₀ log m s → Sane d m s
  follows_sane k was Follows.still = was
  follows_sane k was (Follows.arrival {log} {m} {s} {s'} i r f h) = arrived_sane d ok ahead laws m s s' i r h (follows_sane k was f)
  follows_sane k was (Follows.ticking {log} {m} {n} {s} {s'} mark r f h k') = ticked_sane d ok ahead laws m n s s' mark r (follows_keeps k f).law h (follows_sane k was f)

  pub produced_sane : {log : List Entry} {m : Meaning} {s : State} → Produced kind d ahead log m s → Sane d m s
  produced_sane p = follows_sane p.made.keeps (made_sane kind d p.first_meaning p.first_state p.made) p.course

  -- a pending job is younger than its period
  pub sane_young : (m : Meaning) (s : State) → Sane d m s → (i : ℕ) (j : Job) → s.job i ≡ Some j → s.clock < j.arrival.0 + period d i
  sane_young m s was zero j e = absurd (omega (arith, (was.known 0 j e).low))
  sane_young m s was (suc k) j e = end.age (plan d) (plan_ok d ok) (view d m s) was.inv k j.arrival.0 j.run.0 (was.known (suc k) j e).high (ap pend e)

  -- no arrival is refused by 12
  not_12 : (m : Meaning) (s s' : State) (i : ℕ) (r : Result (Unit {0}) ArrivalRefusal) → Sane d m s → Arrived d s i r s' → refused_by (Arrive i (Some r)) ≢ Some 12
  not_12 m s s' i (Ok v) was h e = none≢some 12 refl e
  not_12 m s s' i (Err ForeignRule) was h e = differ 19 12 (omega arith) e
  not_12 m s s' i (Err (NoSuchTask k)) was h e = differ 10 12 (omega arith) e
  not_12 m s s' i (Err (TooEarly k t)) was h e = differ 11 12 (omega arith) e
  not_12 m s s' i (Err (StillPending k j)) was h e = none≢some j (free_when_apart d ok ahead laws m s i was h.0.2 h.0.3) h.0.4
  not_12 m s s' i (Err (NoAssuredPart k)) was h e = differ 13 12 (omega arith) e

  tick_12 : (mark : Mark) (r : Result Answer TickRefusal) → refused_by (Tick mark (Some r)) ≢ Some 12
  tick_12 mark (Ok a) e = none≢some 12 refl e
  tick_12 mark (Err TickForeign) e = differ 19 12 (omega arith) e
  tick_12 mark (Err (ClockEnd t)) e = differ 14 12 (omega arith) e

  follows_12 : {m₀ : Meaning} {s₀ : State} {log : List Entry} {m : Meaning} {s : State} → Keeps kind m₀ → Sane d m₀ s₀ → Follows kind d ahead m₀ s₀ log m s → NoneBy 12 log
  follows_12 k was Follows.still = tt
  follows_12 k was (Follows.arrival {log} {m} {s} {s'} i r f h) = (not_12 m s s' i r (follows_sane k was f) h, follows_12 k was f)
  follows_12 k was (Follows.ticking mark r f h k') = (tick_12 mark r, follows_12 k was f)

pub no_12 : No12
no_12 kind d ok ahead laws log m s p = follows_12 kind d ok ahead laws p.made.keeps (made_sane kind d p.first_meaning p.first_state p.made) p.course

pub age_bound : AgeBound
age_bound kind d ok ahead laws log m s p i a e = go ((produced_tied kind d ahead log m s p).ties i)
  where
    go : Tie (s.job i) s.clock (age i log) (arrival i log) (run i log) → a < period d i
    go (Tie.gone x xa xr xu) = absurd (none≢some a xa e)
    go (Tie.here j x q xa xr xu h) =
        let same : x ≡ a = cc in
        omega (arith, sane_young kind d ok ahead laws m s (produced_sane kind d ok ahead laws p) i j q)

-- in plain words

age_quiet : (i : ℕ) (later before : List Entry) (v : Unit {0}) → AllQuiet i later → age i (later ++ (Arrive i (Some (Ok v)) ∷ before)) ≡ Some (clock later)
unfolding since clock
age_quiet i [] before v q = rw (eq-eqb i i refl)
age_quiet i (e ∷ later) before v q =
    let rest = age_quiet i later before v q.1 in
    rw (q.0.0, q.0.1, rest)

pub age_in_words : AgeInWords
age_in_words kind d ok ahead laws m s i later before v p q = age_bound kind d ok ahead laws _ m s p i (clock later) (age_quiet i later before v q)
