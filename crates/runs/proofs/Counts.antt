-- The count before the first switch is the clock that the switching answer tells.
use Rattle.std.proofs.Common.{◌≡◌, ◌+◌, Bool, true, false, cond, List, [], ◌∷◌, Some, None, Ok, Err, Result, refl, ap, ◌∙◌, arith}
use Rattle.std.proofs.lemmas.Bool.{both_ways}
use Rattle.table.specs.Verdict.{Draft}
use Rattle.order.specs.Orders.{Ahead}
use Rattle.budget.specs.Meaning.{Meaning}
use Rattle.runs.specs.declared.answer.Answer.{Answer}
use Rattle.runs.specs.declared.call.Mark.{Mark}
use Rattle.runs.specs.declared.refusal.TickRefusal.{TickRefusal}
use Rattle.runs.specs.declared.entry.Entry.{Entry}
use Rattle.runs.specs.declared.entry.Entry.TheVariants.{Arrive, Tick}
use Rattle.runs.specs.States.{State}
use Rattle.runs.specs.Laws.{Passes, Ticked}
use Rattle.runs.specs.Logs.{spans, clock, switches, switched_in, calm, before_switch, clock_said, switch_clock}
use Rattle.runs.specs.Produced.{Kind, Made, Follows}
use Rattle.runs.specs.Bounds.{CountTold, Counts}
use Rattle.runs.proofs.Ties.{produced_tied}

calm_is : (e : Entry) → calm e ≡ cond (switches e) 0 (spans e)
calm_is (Arrive i a) = refl
calm_is (Tick mark None) = refl
calm_is (Tick mark (Some (Err e))) = refl
calm_is (Tick mark (Some (Ok a))) = refl

-- an entry that switches tells the clock
told_more : (e : Entry) (log : List Entry) → (switches e ≡ true → clock_said e ≡ clock log) → CountTold log → CountTold (e ∷ log)
unfolding switched_in before_switch switch_clock clock
told_more e log says was = go (switched_in log) refl (switches e) refl
  where
    go : (b : Bool) → switched_in log ≡ b → (c : Bool) → switches e ≡ c → CountTold (e ∷ log)
    go true eb c ec = record { switched = λ q. rw eb (was.switched eb); calm = λ q. absurd (both_ways true (rw eb at q) refl) }
    go false eb true ec =
        let z : calm e ≡ 0 = calm_is e ∙ ap (λ x. cond x 0 (spans e)) ec in
        let all : clock log ≡ before_switch log + calm e = was.calm eb ∙ omega arith in
        record {
          switched = λ q. rw (eb, ec) (ap Some (says ec ∙ all));
          calm = λ q. absurd (both_ways true (rw (eb, ec) at q) refl);
        }
    go false eb false ec =
        let z : calm e ≡ spans e = calm_is e ∙ ap (λ x. cond x 0 (spans e)) ec in
        record {
          switched = λ q. absurd (both_ways false refl (rw (eb, ec) at q));
          calm = λ q. rw eb (omega (arith, was.calm eb));
        }

passes_says : (d : Draft) (ahead : Ahead) (m n : Meaning) (s s' : State) (mark : Mark) (a : Answer) → Passes d ahead m s mark a n s' → a.clock.0 ≡ s.clock
passes_says d ahead m n s s' mark a (Passes.idle h e says) = ap (λ (x : Answer). x.clock.0) says
passes_says d ahead m n s s' mark a (Passes.calm c) = ap (λ (x : Answer). x.clock.0) c.says
passes_says d ahead m n s s' mark a (Passes.switching c) = ap (λ (x : Answer). x.clock.0) c.says
passes_says d ahead m n s s' mark a (Passes.steady c) = ap (λ (x : Answer). x.clock.0) c.says

ticked_says : (d : Draft) (ahead : Ahead) (m n : Meaning) (s s' : State) (mark : Mark) (r : Result Answer TickRefusal) → Ticked d ahead m s mark r n s' → switches (Tick mark (Some r)) ≡ true → clock_said (Tick mark (Some r)) ≡ s.clock
ticked_says d ahead m n s s' mark (Ok a) h q = passes_says d ahead m n s s' mark a h.2
ticked_says d ahead m n s s' mark (Err e) h q = absurd (both_ways false refl q)

told_none : CountTold []
unfolding switched_in before_switch switch_clock clock
told_none = record { switched = λ q. absurd (both_ways false refl q); calm = λ q. refl }

follows_told : {kind : Kind} {d : Draft} {ahead : Ahead} {m₀ : Meaning} {s₀ : State} {log : List Entry} {m : Meaning} {s : State} → Made kind d m₀ s₀ → Follows kind d ahead m₀ s₀ log m s → CountTold log
follows_told made Follows.still = told_none
follows_told made (Follows.arrival {log = log} i r f h) = told_more (Arrive i (Some r)) log (λ q. absurd (both_ways false refl q)) (follows_told made f)
follows_told {kind} {d} {ahead} {m₀} {s₀} made (Follows.ticking {log = log} {m = m} {n = n} {s = s} {s' = s'} mark r f h k) =
    let tied = produced_tied kind d ahead log m s (record { first_meaning = m₀; first_state = s₀; made = made; course = f }) in
    told_more (Tick mark (Some r)) log (λ q. ticked_says d ahead m n s s' mark r h q ∙ tied.clocks) (follows_told made f)

pub counts : Counts
counts kind d ahead log m s p = follows_told p.made p.course
