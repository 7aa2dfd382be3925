-- What the calls do to every log that is produced with the state before.
use Rattle.std.proofs.Common.{◌≡◌, ℕ, Bool, true, false, [], Some, Result, sym, ap, ◌∙◌, subst}
use Rattle.table.specs.Accepted.{Accepted}
use Rattle.table.specs.Verdict.{Draft}
use Rattle.order.specs.Orders.{Ahead, TieLaws}
use Rattle.budget.specs.Meaning.{Meaning, Rested}
use Rattle.runs.specs.declared.answer.Answer.{Answer}
use Rattle.runs.specs.declared.call.Mark.{Mark}
use Rattle.runs.specs.declared.refusal.ArrivalRefusal.{ArrivalRefusal}
use Rattle.runs.specs.declared.refusal.TickRefusal.{TickRefusal}
use Rattle.runs.specs.declared.entry.Entry.TheVariants.{Arrive, Tick}
use Rattle.runs.specs.States.{State, new_state, foreign_rule, Judged}
use Rattle.runs.specs.Arrivals.{arrival, after_arrival}
use Rattle.runs.specs.Ticking.{tick, after_tick, RuleAfter}
use Rattle.runs.specs.Produced.{Kind, Keeps, Produced}
use Rattle.runs.specs.Bounds.{Extends}
use Rattle.runs.proofs.Calls.{defined_making, defined_arrivals, defined_ticks}
use Rattle.runs.proofs.Foreign.{judged_is}

-- a rest does not alter whether the rule is the table's
pub judged_rested : (d : Draft) (m n : Meaning) → Rested m n → (b : Bool) → b ≡ foreign_rule d n → Judged b d m
judged_rested d m n r b e =
    let P : Bool → Type 0 = λ x. Judged x d n in
    by b (subst P (sym e) (judged_is d n))
  where
    by : (b : Bool) → Judged b d n → Judged b d m
    by true j = λ of. j (record { weights = λ i l h. r.weights i ∙ of.weights i l h; total = r.total ∙ of.total })
    by false of = record { weights = λ i l h. sym (r.weights i) ∙ of.weights i l h; total = sym r.total ∙ of.total }

pub making_produced : (kind : Kind) (d : Draft) (ahead : Ahead) (m n : Meaning) (s : State) (b : Bool) → Keeps kind n → Rested m n → b ≡ foreign_rule d n → s ≡ new_state b → Produced kind d ahead [] n s
making_produced kind d ahead m n s b keeps r e is =
    let P : State → Type 0 = λ x. Produced kind d ahead [] n x in
    subst P (sym (is ∙ ap new_state e)) (defined_making kind d ahead n keeps r.longest)

pub arrival_extends : (kind : Kind) (d : Draft) → Accepted d → (ahead : Ahead) → TieLaws ahead → (m : Meaning) (s s' : State) (i : ℕ) (r : Result (Unit {0}) ArrivalRefusal)
    → r ≡ arrival d s i → s' ≡ after_arrival d s i → Extends kind d ahead m s (Arrive i (Some r)) m s'
arrival_extends kind d ok ahead laws m s s' i r er es =
    let P : Result (Unit {0}) ArrivalRefusal → Type 0 = λ x. Extends kind d ahead m s (Arrive i (Some x)) m s' in
    let Q : State → Type 0 = λ x. Extends kind d ahead m s (Arrive i (Some (arrival d s i))) m x in
    subst P (sym er) (subst Q (sym es) (defined_arrivals kind d ok ahead laws m s i))

pub tick_extends : (kind : Kind) (d : Draft) → Accepted d → (ahead : Ahead) → TieLaws ahead → (m n : Meaning) (s s' : State) (mark : Mark) (r : Result Answer TickRefusal)
    → r ≡ tick d ahead m.yes s mark → s' ≡ after_tick d ahead m.yes s mark → RuleAfter d ahead s mark m n → Keeps kind n → Extends kind d ahead m s (Tick mark (Some r)) n s'
tick_extends kind d ok ahead laws m n s s' mark r er es after keeps =
    let P : Result Answer TickRefusal → Type 0 = λ x. Extends kind d ahead m s (Tick mark (Some x)) n s' in
    let Q : State → Type 0 = λ x. Extends kind d ahead m s (Tick mark (Some (tick d ahead m.yes s mark))) n x in
    subst P (sym er) (subst Q (sym es) (defined_ticks kind d ok ahead laws m n s mark after keeps))
