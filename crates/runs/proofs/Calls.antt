-- What the definitions say of one call extends every log that is produced with the state before.
use Rattle.std.proofs.Common.{◌≡◌, ℕ, ◌<◌, Bool, true, false, cond, eqb, leb, List, [], ◌∷◌, length, Some, None, Option, Result, sym, refl, ap, arith}
use Rattle.std.proofs.lemmas.Bool.{both_ways, lt-leb, and_left, and_right, eq-eqb, cond-true, cond-false}
use Rattle.table.specs.Verdict.{Draft}
use Rattle.table.specs.Accepted.{Accepted}
use Rattle.order.specs.Orders.{Ahead, TieLaws}
use Rattle.budget.specs.Meaning.{Meaning, raised, Granted, Rested}
use Rattle.budget.specs.Rules.{shared_meaning}
use Rattle.budget.specs.Budgets.{shared_fits, shared_exact}
use Rattle.runs.specs.declared.call.Call.{Call}
use Rattle.runs.specs.declared.call.Call.TheVariants.{Arrive as ArriveCall, Tick as TickCall}
use Rattle.runs.specs.declared.call.Mark.{Mark}
use Rattle.runs.specs.declared.refusal.TickRefusal.{TickRefusal}
use Rattle.runs.specs.declared.entry.Entry.{Entry}
use Rattle.runs.specs.declared.entry.Entry.TheVariants.{Arrive, Tick}
use Rattle.runs.specs.States.{State, new_state, known, OfTable, Judged, rule_weight, foreign_rule}
use Rattle.runs.specs.Choices.{Turn}
use Rattle.runs.specs.Arrivals.{arrival, after_arrival}
use Rattle.runs.specs.Ticking.{tick_fault, asked, outcome, tick, after_tick, Asked, LetRest, Consulted, rule_after_by}
use Rattle.runs.specs.Laws.{Arrived, Ticked}
use Rattle.runs.specs.Produced.{Kind, exact, Keeps, Follows, Produced}
use Rattle.runs.specs.Programs.{DefinedMaking, DefinedArrivals, DefinedTicks, Program, Obeys, asked_meaning, rested_meaning, meaning_by, meaning_after, Standing, answered, play, Played, Total, shared_program, shared_rule, SharedStands}
use Rattle.runs.proofs.Keeps.{Sane}
use Rattle.runs.proofs.Ages.{age_bound, produced_sane, follows_keeps}
use Rattle.runs.proofs.Choosing.{Seated}
use Rattle.runs.proofs.Satisfies.{arrival_obeys, tick_obeys}
use Rattle.runs.proofs.Foreign.{judged_is}

pub produced_keeps : (kind : Kind) (d : Draft) (ahead : Ahead) (log : List Entry) (m : Meaning) (s : State) → Produced kind d ahead log m s → Keeps kind m
produced_keeps kind d ahead log m s p = follows_keeps p.made.keeps p.course

pub produced_arrival : (kind : Kind) (d : Draft) (ahead : Ahead) (log : List Entry) (m : Meaning) (s s' : State) (i : ℕ) (r : Result (Unit {0}) _) → Produced kind d ahead log m s → Arrived d s i r s' → Produced kind d ahead (Arrive i (Some r) ∷ log) m s'
produced_arrival kind d ahead log m s s' i r p h = record { first_meaning = p.first_meaning; first_state = p.first_state; made = p.made; course = Follows.arrival {s = s} {s' = s'} i r p.course h }

pub produced_tick : (kind : Kind) (d : Draft) (ahead : Ahead) (log : List Entry) (m n : Meaning) (s s' : State) (mark : Mark) (r : Result _ TickRefusal) → Produced kind d ahead log m s → Ticked d ahead m s mark r n s' → Keeps kind n
    → Produced kind d ahead (Tick mark (Some r) ∷ log) n s'
produced_tick kind d ahead log m n s s' mark r p h k = record { first_meaning = p.first_meaning; first_state = p.first_state; made = p.made; course = Follows.ticking {m = m} {n = n} {s = s} {s' = s'} mark r p.course h k }

pub sane_seated : (d : Draft) → Accepted d → (m : Meaning) (s : State) → Sane d m s → Seated s.job
sane_seated d ok m s was i j e = let k = was.known i j e in (k.low, omega (arith, k.high, ok.few))

pub defined_making : DefinedMaking
defined_making kind d ahead m keeps rested = record {
  first_meaning = m;
  first_state = new_state (foreign_rule d m);
  made = record { keeps = keeps; rested = rested; judged = judged_is d m; clock0 = refl; mode0 = refl; job0 = λ i. refl; last0 = λ i. refl };
  course = Follows.still;
}

pub defined_arrivals : DefinedArrivals
defined_arrivals kind d ok ahead laws m s i log p =
    let q = produced_arrival kind d ahead log m s (after_arrival d s i) i (arrival d s i) p (arrival_obeys d s i) in
    (q, age_bound kind d ok ahead laws _ m (after_arrival d s i) q)

pub defined_ticks : DefinedTicks
defined_ticks kind d ok ahead laws m n s mark after keeps log p =
    let seated = sane_seated d ok m s (produced_sane kind d ok ahead laws p) in
    let q = produced_tick kind d ahead log m n s (after_tick d ahead m.yes s mark) mark (tick d ahead m.yes s mark) p (tick_obeys d ahead laws s seated mark m n after) keeps in
    (q, age_bound kind d ok ahead laws _ n (after_tick d ahead m.yes s mark) q)

-- whole runs, for a rule whose meanings keep some property

module _ (kind : Kind) (d : Draft) (ok : Accepted d) (ahead : Ahead) (laws : TieLaws ahead) (p : Program) (Holds : Meaning → Type 0) (holds_keeps : (m : Meaning) → Holds m → Keeps kind m)
    (granted : (k : ℕ) (m : Meaning) → Holds m → (i run : ℕ) → Granted m (p.grant k m i run) i run (m.yes i run)) (grant_holds : (k : ℕ) (m : Meaning) → Holds m → (i run : ℕ) → Holds (p.grant k m i run))
    (rested : (k : ℕ) (m : Meaning) → Holds m → Rested m (p.rest k m)) (rest_holds : (k : ℕ) (m : Meaning) → Holds m → Holds (p.rest k m)) where
  asked_is : (k : ℕ) (m : Meaning) → Holds m → (t : Option Turn) → Asked t m (asked_meaning p k m t)
  asked_is k m h None = refl
  asked_is k m h (Some t) = granted k m h t.number t.job.run.0

  asked_holds : (k : ℕ) (m : Meaning) → Holds m → (t : Option Turn) → Holds (asked_meaning p k m t)
  asked_holds k m h None = h
  asked_holds k m h (Some t) = grant_holds k m h t.number t.job.run.0

  rested_is : (k : ℕ) (b : Bool) (m : Meaning) → Holds m → LetRest b m (rested_meaning p k b m)
  rested_is k true m h = rested k m h
  rested_is k false m h = refl

  rested_holds : (k : ℕ) (b : Bool) (m : Meaning) → Holds m → Holds (rested_meaning p k b m)
  rested_holds k true m h = rest_holds k m h
  rested_holds k false m h = h

  meaning_is : (k : ℕ) (s : State) (mark : Mark) (m : Meaning) → Holds m → (f : Option TickRefusal)
      → rule_after_by f (Consulted d ahead s mark m (meaning_by f m (rested_meaning p k (outcome d ahead m.yes s mark).rests (asked_meaning p k m (asked d ahead s))))) m
      (meaning_by f m (rested_meaning p k (outcome d ahead m.yes s mark).rests (asked_meaning p k m (asked d ahead s))))
  meaning_is k s mark m h None = record {
    mid = asked_meaning p k m (asked d ahead s);
    grant = asked_is k m h (asked d ahead s);
    rest = rested_is k (outcome d ahead m.yes s mark).rests (asked_meaning p k m (asked d ahead s)) (asked_holds k m h (asked d ahead s));
  }
  meaning_is k s mark m h (Some e) = refl

  meaning_holds : (m n : Meaning) → Holds m → Holds n → (f : Option TickRefusal) → Holds (meaning_by f m n)
  meaning_holds m n h h' None = h'
  meaning_holds m n h h' (Some e) = h

  pub record Good (calls : List Call) (now : Standing) : Type 0 where
    pub played : Played kind d ahead calls now
    pub holds : Holds now.meaning

  more : (calls : List Call) (now : Standing) (c : Call) → Good calls now → Good (c ∷ calls) (answered d ahead p now c)
  more calls now (ArriveCall i) g = record {
    played = record {
      produced = (defined_arrivals kind d ok ahead laws now.meaning now.state i now.log g.played.produced).0;
      calls_are = ap (λ cs. ArriveCall i ∷ cs) g.played.calls_are;
    };
    holds = g.holds;
  }
  more calls now (TickCall mark) g =
      let h' : Holds (meaning_after d ahead p (length now.log) now.state mark now.meaning) =
      meaning_holds now.meaning _ g.holds (rested_holds (length now.log) (outcome d ahead now.meaning.yes now.state mark).rests _ (asked_holds (length now.log) now.meaning g.holds (asked d ahead now.state))) (tick_fault now.state) in
      record {
        played = record {
          produced = (defined_ticks kind d ok ahead laws now.meaning (meaning_after d ahead p (length now.log) now.state mark now.meaning) now.state mark
              (meaning_is (length now.log) now.state mark now.meaning g.holds (tick_fault now.state)) (holds_keeps _ h') now.log g.played.produced).0;
          calls_are = ap (λ cs. TickCall mark ∷ cs) g.played.calls_are;
        };
        holds = h';
      }

  pub play_good : (m : Meaning) → Holds m → ((i : ℕ) → m.longest i ≡ 0) → (calls : List Call) → Good calls (play d ahead p m calls)
  unfolding play
  play_good m h zeros [] = record {
    played = record { produced = defined_making kind d ahead m (holds_keeps m h) zeros; calls_are = refl };
    holds = h;
  }
  play_good m h zeros (c ∷ calls) = more calls (play d ahead p m calls) c (play_good m h zeros calls)

pub total : Total
total kind d ok ahead laws p obeys m keeps zeros calls =
    (play_good kind d ok ahead laws p (Keeps kind) (λ m h. h) obeys.granted obeys.grant_keeps obeys.rested obeys.rest_keeps m keeps zeros calls).played

-- the shared rule

sharing_keeps : (w : ℕ → ℕ) (b : ℕ) (l : ℕ → ℕ) → w 0 ≡ 0 → ((i : ℕ) → 32 < i → w i ≡ 0) → Keeps exact (shared_meaning w b l)
sharing_keeps w b l zeroth above = record {
  law = record {
    bounded = record { zeroth = zeroth; above = above };
    silent = λ i run e. cond-true (eqb (w i) 0) false _ (eq-eqb (w i) 0 e);
    fits = shared_fits w b l;
  };
  exactly = shared_exact w b l;
}

-- a grant that raises one longest run on yes and alters nothing on no
pub granted_by : (m n : Meaning) (i run : ℕ) (b : Bool) → m.yes i run ≡ b → ((k : ℕ) → n.weight k ≡ m.weight k) → n.total ≡ m.total → ((k : ℕ) → n.longest k ≡ raised m.longest i run k)
    → Granted m (cond b n m) i run b
granted_by m n i run true e w t l = record { said = sym e; weights = w; total = t; longest = l; denied = λ q. absurd (both_ways true q refl) }
granted_by m n i run false e w t l = record { said = sym e; weights = λ k. refl; total = refl; longest = λ k. refl; denied = λ q. refl }

keeps_by : (m : Meaning) (i run : ℕ) (b : Bool) → Keeps exact m → Keeps exact (cond b (shared_meaning m.weight m.total (raised m.longest i run)) m)
keeps_by m i run true k = sharing_keeps m.weight m.total (raised m.longest i run) k.law.bounded.zeroth k.law.bounded.above
keeps_by m i run false k = k

pub shared_obeys : Obeys exact shared_program
shared_obeys = record {
  granted = λ k m keeps i run. granted_by m (shared_meaning m.weight m.total (raised m.longest i run)) i run (m.yes i run) refl (λ k. refl) refl (λ k. refl);
  grant_keeps = λ k m keeps i run. keeps_by m i run (m.yes i run) keeps;
  rested = λ k m keeps. record { weights = λ i. refl; total = refl; longest = λ i. refl };
  rest_keeps = λ k m keeps. sharing_keeps m.weight m.total (λ i. 0) keeps.law.bounded.zeroth keeps.law.bounded.above;
}

pub rule_weight_none : (d : Draft) (i : ℕ) → known d i ≡ false → rule_weight d i ≡ 0
rule_weight_none d i e = cond-false (known d i) _ 0 e

own_by : (b : Bool) (d : Draft) (m : Meaning) → Judged b d m → OfTable d m → b ≡ false
own_by true d m j of = absurd (j of)
own_by false d m j of = refl

-- a meaning with the table's weights and total is the table's
pub own_weights : (d : Draft) (m : Meaning) → ((i : ℕ) → m.weight i ≡ rule_weight d i) → m.total ≡ d.total.0 → foreign_rule d m ≡ false
own_weights d m w t = own_by (foreign_rule d m) d m (judged_is d m) (record { weights = λ i lo hi. w i; total = t })

pub shared_stands : SharedStands
shared_stands d ok = record {
  obeys = shared_obeys;
  keeps = sharing_keeps (rule_weight d) d.total.0 (λ i. 0)
      (rule_weight_none d 0 (and_left (leb 1 0) (leb 0 d.count) refl))
      (λ i l. rule_weight_none d i (and_right (leb 1 i) (leb i d.count) (lt-leb i d.count (omega (arith, ok.few)))));
  own = own_weights d (shared_rule d) (λ i. refl) refl;
}
