-- A table and a state by slots, as the proof of the age bound sees them.
use Rattle.std.proofs.Common.{◌≡◌, ℕ, suc, ◌-◌, ◌*◌, ◌<◌, cond, Some, None, Option, refl, ap, ◌∙◌, arith}
use Rattle.tasks.specs.declared.task.Criticality.{Criticality}
use Rattle.tasks.specs.declared.task.Criticality.TheVariants.{High, Low}
use Rattle.table.specs.Tasks.{weight, virtual_deadline, assured_of, rest_of, high_of, low_assured, low_rest, high_worst}
use Rattle.table.specs.Verdict.{Draft}
use Rattle.table.specs.Accepted.{Sound, Accepted, low_assured_sum, low_rest_sum, high_worst_sum}
use Rattle.budget.specs.Meaning.{Meaning}
use Rattle.runs.specs.declared.answer.Job.{Job}
use Rattle.runs.specs.States.{State, the_task, period, rank, is_high}
use Rattle.runs.specs.Arrivals.{next_arrival}
use Rattle.runs.proofs.Machine.{Pend, idle, live, Table, lowAssured, lowRest, highWorst}
use Rattle.runs.proofs.Machine as machine
use Rattle.runs.proofs.Sums.{sum_same}

abbrev pub plan : Draft → Table
plan d = record {
  n = d.count;
  T = λ k. period d (suc k);
  w = λ k. weight d.scale (the_task d (suc k));
  C = λ k. (the_task d (suc k)).worst.0;
  g = λ k. low_assured (the_task d (suc k));
  D = λ k. virtual_deadline d.factor (the_task d (suc k));
  isHigh = λ k. is_high (rank d (suc k));
  H = d.scale.0;
  B = d.total.0;
  p = d.factor.p;
  q = d.factor.q;
}

abbrev pub pend : Option Job → Pend
pend None = idle
pend (Some j) = live j.arrival.0 j.run.0

abbrev pub view : Draft → Meaning → State → machine.State
view d m s = record {
  clock = s.clock;
  mode = s.mode;
  job = λ k. pend (s.job (suc k));
  next = λ k. next_arrival (period d (suc k)) (s.last (suc k));
  longest = λ k. m.longest (suc k);
}

-- the task of number k + 1 stands at slot k
pub slot_of : (d : Draft) (k : ℕ) → the_task d (suc k) ≡ d.task k
slot_of d k = let e : suc k - 1 ≡ k = omega arith in ap d.task e

module _ (d : Draft) (ok : Accepted d) where
  pub sound : (k : ℕ) → k < d.count → Sound d.scale d.factor (the_task d (suc k))
  sound k l = rw (slot_of d k) (ok.each k l)

  assured_part : (c : Criticality) (w : ℕ) → cond (is_high c) 0 (w * assured_of c) ≡ w * assured_of c
  assured_part High w = omega arith
  assured_part (Low g) w = refl

  rest_part : (c : Criticality) (w C : ℕ) → cond (is_high c) 0 (w * (C - assured_of c)) ≡ w * rest_of C c
  rest_part High w C = omega arith
  rest_part (Low g) w C = refl

  worst_part : (c : Criticality) (w C : ℕ) → cond (is_high c) (w * C) 0 ≡ w * high_of C c
  worst_part High w C = refl
  worst_part (Low g) w C = omega arith

  assured_sum : lowAssured (plan d) ≡ low_assured_sum d
  assured_sum = sum_same d.count _ _ (λ k l. assured_part (rank d (suc k)) (weight d.scale (the_task d (suc k))) ∙ ap (λ t. weight d.scale t * low_assured t) (slot_of d k))

  rest_sum : lowRest (plan d) ≡ low_rest_sum d
  rest_sum = sum_same d.count _ _ (λ k l. rest_part (rank d (suc k)) (weight d.scale (the_task d (suc k))) (the_task d (suc k)).worst.0 ∙ ap (λ t. weight d.scale t * low_rest t) (slot_of d k))

  worst_sum : highWorst (plan d) ≡ high_worst_sum d
  worst_sum = sum_same d.count _ _ (λ k l. worst_part (rank d (suc k)) (weight d.scale (the_task d (suc k))) (the_task d (suc k)).worst.0 ∙ ap (λ t. weight d.scale t * high_worst t) (slot_of d k))

  pub plan_ok : machine.Accepted (plan d)
  plan_ok = record {
    p_pos = ok.p_low;
    p≤q = ok.p_high;
    HPos = ok.scale_low;
    weight = λ k l. (sound k l).divides;
    CPos = λ k l. (sound k l).worst_low;
    g≤C = λ k l. (sound k l).assured_high;
    virtual = λ k l. (sound k l).whole;
    low_test = rw (assured_sum, rest_sum) ok.low_test;
    high_test = rw (assured_sum, rest_sum, worst_sum) ok.high_test;
  }
