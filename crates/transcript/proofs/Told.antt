-- The ages in the printed lines are those of a produced log.
use Rattle.std.proofs.Common.{◌≡◌, ℕ, ◌+◌, ◌<◌, Bool, true, false, cond, ◌&&◌, ◌||◌, eqb, List, [], ◌∷◌, ◌++◌, Some, None, Ok, Err, Option, Result, sym, refl, ap, ◌∙◌, arith}
use mathlib.Core.List.{reverse_aux}
use Rattle.table.specs.Accepted.{Accepted}
use Rattle.table.specs.Verdict.{Draft}
use Rattle.order.specs.Ties.{by_number}
use Rattle.runs.specs.declared.answer.Answer.{Answer}
use Rattle.runs.specs.declared.answer.Ending.{Ending}
use Rattle.runs.specs.declared.answer.Job.{Job}
use Rattle.runs.specs.declared.answer.Mode.{Mode}
use Rattle.runs.specs.declared.call.Mark.{Mark}
use Rattle.runs.specs.declared.entry.Entry.{Entry}
use Rattle.runs.specs.declared.entry.Entry.TheVariants.{Arrive, Tick}
use Rattle.runs.specs.declared.refusal.ArrivalRefusal.{ArrivalRefusal}
use Rattle.runs.specs.declared.refusal.TickRefusal.{TickRefusal}
use Rattle.runs.specs.Choices.{Turn, turn}
use Rattle.runs.specs.Laws.{Known}
use Rattle.runs.specs.Logs.{names, ended, since, raised_by, age, arrival, run}
use Rattle.runs.specs.Masks.{in_mask}
use Rattle.runs.specs.Produced.{lawful, Produced}
use Rattle.runs.specs.States.{State, period}
use Rattle.runs.specs.Ticking.{tick_fault, outcome_by, tick_result, switches, running_mode, running_jobs}
use Rattle.runs.proofs.Ages.{age_bound, produced_sane}
use Rattle.runs.proofs.Calls.{defined_making, defined_arrivals, defined_ticks, own_weights}
use Rattle.runs.proofs.Computed.{by_number_laws}
use Rattle.runs.proofs.Keeps.{none≢some}
use Rattle.runs.proofs.Ties.{Tie, produced_tied, in_none}
use Rattle.output.specs.declared.output.OutputLine.{OutputLine}
use Rattle.output.specs.declared.output.OutputLine.TheVariants.{Switched}
use Rattle.output.specs.Output.{task_number}
use Rattle.transcript.specs.Ages.{shown_age, written_period}
use Rattle.transcript.specs.Policies.{Policy, at_rest}
use Rattle.transcript.specs.Shows.{Show, new_show, arriving, after_arriving, arrival_line, mark, ticking, after_ticking, listed, tick_line, answer_lines}
use Rattle.transcript.proofs.Lawfully.{Made, Holds, holds_keeps, holds_rest, tick_rule, tick_holds}

-- what an answer tells

pub record Plain (a : Answer) : Type 0 where
  pub idle : a.task ≡ None → a.ending ≡ None
  pub calm : a.switched ≡ false → a.dropped ≡ 0

dropped_calm : (b : Bool) (x : ℕ) → b ≡ false → cond b x 0 ≡ 0
dropped_calm b x e = rw e

outcome_plain : (d : Draft) (s : State) (m : Mark) (b : Bool) (mode : Mode) (jobs : ℕ → Option Job) (t : Option Turn) → Plain (outcome_by d s m b mode jobs t).answer
outcome_plain d s m b mode jobs None = record { idle = λ e. refl; calm = λ e. refl }
outcome_plain d s m b mode jobs (Some t) = record { idle = λ e. absurd (none≢some t.number e refl); calm = dropped_calm b _ }

result_plain : (f : Option TickRefusal) (x a : Answer) → Plain x → tick_result f x ≡ Ok a → Plain a
result_plain None x a h e = let same : x ≡ a = cc in rw same at h
result_plain (Some r) x a h e = let z : ◌≡◌ {A = ℕ} 0 1 = cc in absurd (omega arith)

pub tick_plain : (w : Show) (a : Answer) → ticking w ≡ Ok a → Plain a
tick_plain w a e =
    let b = switches w.draft by_number w.meaning.yes w.state in
    let mode = running_mode b w.state.mode in
    let jobs = running_jobs b w.draft w.state.job in
    result_plain (tick_fault w.state) _ a (outcome_plain w.draft w.state (mark w) b mode jobs (turn by_number mode w.draft jobs)) e

-- ages

raised_zero : (o : Option ℕ) → raised_by 0 o ≡ o
raised_zero None = refl
raised_zero (Some x) = let e : x + 0 ≡ x = omega arith in ap Some e

pub age_none : (i : ℕ) → age i [] ≡ None
unfolding since
age_none i = refl

pub arrival_told : (i k clock : ℕ) (r : Result (Unit {0}) ArrivalRefusal) (P : List OutputLine) (log : List Entry) → shown_age i P ≡ age i log → shown_age i (arrival_line clock k r ∷ P) ≡ age i (Arrive k (Some r) ∷ log)
unfolding shown_age since
arrival_told i k clock (Ok v) P log e = ap (cond (eqb k i) (Some 0)) (e ∙ sym (raised_zero (age i log)))
arrival_told i k clock (Err x) P log e = e ∙ sym (raised_zero (age i log))

never : (b : Bool) → (b && false) ≡ false
never true = refl
never false = refl

leaves_same : (i : ℕ) (t : Option ℕ) (e : Option Ending) → (t ≡ None → e ≡ None) → (eqb (task_number t) i && ended e) ≡ (names i t && ended e)
leaves_same i None e h = ap (λ x. eqb 0 i && ended x) (h refl) ∙ never (eqb 0 i)
leaves_same i (Some k) e h = refl

-- a switch and then a tick
switched_step : (x y z : Bool) (o p : Option ℕ) → y ≡ z → o ≡ p → cond y None (raised_by 1 (cond x None o)) ≡ cond (x || z) None (raised_by 1 p)
switched_step true true z o p e f = refl
switched_step true false z o p e f = refl
switched_step false y z o p e f = rw (e, f)

calm_step : (x y z : Bool) (o p : Option ℕ) → x ≡ false → y ≡ z → o ≡ p → cond y None (raised_by 1 o) ≡ cond (x || z) None (raised_by 1 p)
calm_step x y z o p c e f = rw (c, e, f)

lines_told : (i : ℕ) (m : Mark) (a : Answer) (P : List OutputLine) (log : List Entry) → Plain a → shown_age i P ≡ age i log → (b : Bool) → a.switched ≡ b
    → shown_age i (reverse_aux (listed (cond b (Some (Switched a.clock a.dropped)) None) ++ (tick_line a ∷ [])) P) ≡ age i (Tick m (Some (Ok a)) ∷ log)
unfolding shown_age since
lines_told i m a P log h e true q = switched_step (in_mask a.dropped i) _ _ _ _ (leaves_same i a.task a.ending h.idle) e
lines_told i m a P log h e false q = calm_step (in_mask a.dropped i) _ _ _ _ (ap (λ x. in_mask x i) (h.calm q) ∙ in_none i) (leaves_same i a.task a.ending h.idle) e

tick_told : (i : ℕ) (m : Mark) (a : Answer) (r : Result Answer TickRefusal) (P : List OutputLine) (log : List Entry) → r ≡ Ok a → Plain a → shown_age i P ≡ age i log
    → shown_age i (reverse_aux (answer_lines a) P) ≡ age i (Tick m (Some r) ∷ log)
tick_told i m a r P log e h q = rw e (lines_told i m a P log h q a.switched refl)

-- between the two lines of a tick only fewer tasks are pending
kept_by : (b : Bool) (o : Option ℕ) (a : ℕ) → cond b None o ≡ Some a → o ≡ Some a
kept_by true o a e = absurd (none≢some a refl e)
kept_by false o a e = e

pub switch_told : (i a : ℕ) (x : Answer) (P : List OutputLine) → shown_age i (Switched x.clock x.dropped ∷ P) ≡ Some a → shown_age i P ≡ Some a
unfolding shown_age
switch_told i a x P e = kept_by (in_mask x.dropped i) (shown_age i P) a e

-- a dispatcher at work, and the lines printed so far

abbrev pub YoungLines : List ℕ → List OutputLine → Type 0
YoungLines text P = (i a : ℕ) → shown_age i P ≡ Some a → a < written_period text i

abbrev pub Linked : List ℕ → Draft → Type 0
Linked text d = (i : ℕ) → Known d i → period d i ≡ written_period text i

pub record Told (text : List ℕ) (w : Show) (P : List OutputLine) : Type 0 where
  pub ok : Accepted w.draft
  pub linked : Linked text w.draft
  pub made : Made w.draft w.policy
  pub holds : Holds made w.meaning
  pub log : List Entry
  pub produced : Produced lawful w.draft by_number log w.meaning w.state
  pub ages : (i : ℕ) → shown_age i P ≡ age i log

less : (a p q : ℕ) → a < p → p ≡ q → a < q
less a p q h e = omega arith

pub told_young : (text : List ℕ) (w : Show) (P : List OutputLine) → Told text w P → YoungLines text P
told_young text w P t i a e =
    less a (period w.draft i) (written_period text i)
    (age_bound lawful w.draft t.ok by_number by_number_laws t.log w.meaning w.state t.produced i a q)
    (t.linked i (known ((produced_tied lawful w.draft by_number t.log w.meaning w.state t.produced).ties i)))
  where
    q : age i t.log ≡ Some a
    q = sym (t.ages i) ∙ e

    known : Tie (w.state.job i) w.state.clock (age i t.log) (arrival i t.log) (run i t.log) → Known w.draft i
    known (Tie.gone x xa xr xu) = absurd (none≢some a xa q)
    known (Tie.here j x p xa xr xu h) = (produced_sane lawful w.draft t.ok by_number by_number_laws t.produced).known i j p

pub told_new : (text : List ℕ) (d : Draft) (policy : Policy) (P : List OutputLine) → Accepted d → Linked text d → Made d policy → ((i : ℕ) → shown_age i P ≡ None) → Told text (new_show d policy) P
told_new text d policy P ok linked made quiet =
    let h = holds_rest d ok policy made in
    record {
      ok = ok;
      linked = linked;
      made = made;
      holds = h;
      log = [];
      produced = rw (own_weights d (at_rest d policy) (λ i. refl) refl) at (defined_making lawful d by_number (at_rest d policy) (holds_keeps d ok policy made _ h) (λ i. refl));
      ages = λ i. quiet i ∙ sym (age_none i);
    }

pub told_arrival : (text : List ℕ) (w : Show) (P : List OutputLine) (i n : ℕ) → Told text w P → Told text (after_arriving w i n) (arrival_line w.state.clock i (arriving w i) ∷ P)
told_arrival text w P i n t = record {
  ok = t.ok;
  linked = t.linked;
  made = t.made;
  holds = t.holds;
  log = Arrive i (Some (arriving w i)) ∷ t.log;
  produced = (defined_arrivals lawful w.draft t.ok by_number by_number_laws w.meaning w.state i t.log t.produced).0;
  ages = λ k. arrival_told k i w.state.clock (arriving w i) P t.log (t.ages k);
}

pub told_tick : (text : List ℕ) (w : Show) (P : List OutputLine) (a : Answer) → Told text w P → ticking w ≡ Ok a → Told text (after_ticking w) (reverse_aux (answer_lines a) P)
told_tick text w P a t e =
    let h = tick_holds w.draft t.ok w.policy t.made w.state (mark w) w.meaning t.holds in
    record {
      ok = t.ok;
      linked = t.linked;
      made = t.made;
      holds = h;
      log = Tick (mark w) (Some (ticking w)) ∷ t.log;
      produced = (defined_ticks lawful w.draft t.ok by_number by_number_laws w.meaning (after_ticking w).meaning w.state (mark w)
          (tick_rule w.draft t.ok w.policy t.made w.state (mark w) w.meaning t.holds)
          (holds_keeps w.draft t.ok w.policy t.made _ h) t.log t.produced).0;
      ages = λ i. tick_told i (mark w) a (ticking w) P t.log e (tick_plain w a e) (t.ages i);
    }
