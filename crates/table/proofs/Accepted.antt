-- A draft is accepted exactly when the plain inequalities hold.
use Rattle.std.proofs.Common.{◌≡◌, ℕ, ◌+◌, ◌*◌, ◌/◌, ◌%◌, ◌≤◌, ◌∙◌, Bool, true, false, eqb, leb, List, [], ◌∷◌, is_some, Some, None, Option, sym, refl, ap, mul_comm, arith}
use mathlib.Core.Path.{fun_ext}
use native.Mathlib.Nat.{div-add-mod}
use Rattle.std.proofs.lemmas.Bool.{leb-true, le-leb, eqb-true, eq-eqb, and_parts, and_from}
use Rattle.std.proofs.lemmas.Option.{none-some}
use Rattle.tasks.specs.declared.units.Shares.{Shares}
use Rattle.tasks.specs.declared.task.Task.{Task}
use Rattle.tasks.specs.declared.task.Factor.{Factor}
use Rattle.tasks.specs.declared.task.Tests.{Tests}
use Rattle.tasks.specs.declared.refusal.TableRefusal.{TableRefusal}
use Rattle.table.specs.Firsts.{or_else, first_of, unless}
use Rattle.table.specs.Tasks.{slot, weight, low_assured}
use Rattle.table.specs.Verdict.{Draft, drafted, in_range, count_fault, scale_fault, factor_fault, total_fault, period_fault, deadline_fault, service_fault, task_fault, tasks_fault, low_fault, high_fault, tests_of, shape_faults, shape_fault, verdict}
use Rattle.table.specs.Accepted.{Sound, Accepted}
use Rattle.table.proofs.Firsts.{none_first, none_second, none_both, first_below_at, first_below_all, first_of_append}

-- a test passes exactly where there is no refusal
pub unless_none : {A : Type 0} (b : Bool) (r : A) → unless b r ≡ None → b ≡ true
unless_none true r e = refl
unless_none false r e = cc

pub none_unless : {A : Type 0} (b : Bool) (r : A) → b ≡ true → unless b r ≡ None
none_unless b r e = rw e

range_low : (a b n : ℕ) → in_range a b n ≡ true → a ≤ n
range_low a b n e = leb-true a n (and_parts (leb a n) (leb n b) e).0

range_high : (a b n : ℕ) → in_range a b n ≡ true → n ≤ b
range_high a b n e = leb-true n b (and_parts (leb a n) (leb n b) e).1

ranged : (a b n : ℕ) → a ≤ n → n ≤ b → in_range a b n ≡ true
ranged a b n l h = and_from (leb a n) (leb n b) (le-leb a n l) (le-leb n b h)

-- a number without remainder is its quotient times the divisor
divides : (a b : ℕ) → a % b ≡ 0 → a / b * b ≡ a
divides a b e = omega (arith, div-add-mod a b, mul_comm b (a / b))

module _ (h : Shares) (o : Option Factor) (i : ℕ) (t : Task) (e : task_fault h o i t ≡ None) where
  period_none : period_fault h i t ≡ None
  period_none = none_first (period_fault h i t) _ e

  after_period : or_else (deadline_fault o i t) (or_else (service_fault i t) None) ≡ None
  after_period = none_second (period_fault h i t) _ e

  pub deadline_none : deadline_fault o i t ≡ None
  deadline_none = none_first (deadline_fault o i t) _ after_period

  service_none : service_fault i t ≡ None
  service_none = none_first (service_fault i t) None (none_second (deadline_fault o i t) _ after_period)

  period_tests : (in_range 1 100000 t.period.0 ≡ true) × (eqb (h.0 % t.period.0) 0 ≡ true)
  period_tests = and_parts _ _ (unless_none _ _ period_none)

  service_tests : (in_range 1 t.period.0 t.worst.0 ≡ true) × (leb (low_assured t) t.worst.0 ≡ true)
  service_tests = and_parts _ _ (unless_none _ _ service_none)

  pub period_low_of : 1 ≤ t.period.0
  period_low_of = range_low 1 100000 _ period_tests.0

  pub period_high_of : t.period.0 ≤ 100000
  period_high_of = range_high 1 100000 _ period_tests.0

  pub divides_of : weight h t * t.period.0 ≡ h.0
  divides_of = divides h.0 t.period.0 (eqb-true _ _ period_tests.1)

  pub worst_low_of : 1 ≤ t.worst.0
  worst_low_of = range_low 1 _ _ service_tests.0

  pub worst_high_of : t.worst.0 ≤ t.period.0
  worst_high_of = range_high 1 _ _ service_tests.0

  pub assured_high_of : low_assured t ≤ t.worst.0
  assured_high_of = leb-true _ _ service_tests.1

pub sound : (h : Shares) (f : Factor) (i : ℕ) (t : Task) → task_fault h (Some f) i t ≡ None → Sound h f t
sound h f i t e =
    let whole : f.p * t.period.0 % f.q ≡ 0 = eqb-true _ _ (unless_none _ _ (deadline_none h (Some f) i t e)) in
    record {
      period_low = period_low_of h (Some f) i t e;
      period_high = period_high_of h (Some f) i t e;
      divides = divides_of h (Some f) i t e;
      whole = omega (arith, divides (f.p * t.period.0) f.q whole, mul_comm f.q (f.p * t.period.0 / f.q));
      worst_low = worst_low_of h (Some f) i t e;
      worst_high = worst_high_of h (Some f) i t e;
      assured_high = assured_high_of h (Some f) i t e;
    }

pub accepted : (d : Draft) → verdict d ≡ None → Accepted d
accepted d e₀ =
    let n = d.count in
    let f = d.factor in
    let e₁ = none_second (count_fault n) _ e₀ in
    let e₂ = none_second (scale_fault d.scale) _ e₁ in
    let e₃ = none_second (factor_fault f) _ e₂ in
    let e₄ = none_second (total_fault d.total) _ e₃ in
    let e₅ = none_second (tasks_fault d.scale (Some f) n d.task) _ e₄ in
    let e₆ = none_second (low_fault (tests_of d)) _ e₅ in
    let counted = unless_none _ _ (none_first (count_fault n) _ e₀) in
    let scaled = unless_none _ _ (none_first (scale_fault d.scale) _ e₁) in
    let factored = and_parts _ _ (unless_none _ _ (none_first (factor_fault f) _ e₂)) in
    let totalled = unless_none _ _ (none_first (total_fault d.total) _ e₃) in
    let tasked = none_first (tasks_fault d.scale (Some f) n d.task) _ e₄ in
    let lowed = unless_none _ _ (none_first (low_fault (tests_of d)) _ e₅) in
    let highed = unless_none _ _ (none_first (high_fault (tests_of d)) _ e₆) in
    record {
      some = range_low 1 32 n counted;
      few = range_high 1 32 n counted;
      scale_low = range_low 1 1000000 _ scaled;
      scale_high = range_high 1 1000000 _ scaled;
      p_low = range_low 1 f.q f.p factored.1;
      p_high = range_high 1 f.q f.p factored.1;
      q_high = range_high 1 1000 f.q factored.0;
      total_high = leb-true _ _ totalled;
      each = λ k l. sound d.scale f (k + 1) (d.task k) (first_below_at n _ tasked k l);
      low_test = leb-true _ _ lowed;
      high_test = leb-true _ _ highed;
    }

-- tasks that pass with a factor pass without one
pub without_factor : (h : Shares) (f : Factor) (n : ℕ) (task : ℕ → Task) → tasks_fault h (Some f) n task ≡ None → tasks_fault h None n task ≡ None
without_factor h f n task e =
    first_below_all n _ (λ k l.
    let here = first_below_at n _ e k l in
    none_both (period_fault h (k + 1) (task k)) _ (period_none h (Some f) (k + 1) (task k) here)
    (none_both (service_fault (k + 1) (task k)) None (service_none h (Some f) (k + 1) (task k) here) refl))

pub sound_none : (h : Shares) (f : Factor) (i : ℕ) (t : Task) → 1 ≤ f.q → Sound h f t → task_fault h (Some f) i t ≡ None
sound_none h f i t pos s =
    let right : h.0 % t.period.0 ≡ 0 = no_rest h.0 t.period.0 s.divides in
    let whole : f.p * t.period.0 % f.q ≡ 0 = no_rest (f.p * t.period.0) f.q (omega (arith, s.whole, mul_comm f.q (f.p * t.period.0 / f.q))) in
    none_both (period_fault h i t) _
    (none_unless _ _ (and_from _ _ (ranged 1 100000 _ s.period_low s.period_high) (eq-eqb _ _ right)))
    (none_both (deadline_fault (Some f) i t) _ (none_unless _ _ (eq-eqb _ _ whole))
    (none_both (service_fault i t) None (none_unless _ _ (and_from _ _ (ranged 1 _ _ s.worst_low s.worst_high) (le-leb _ _ s.assured_high))) refl))
  where
    no_rest : (a b : ℕ) → a / b * b ≡ a → a % b ≡ 0
    no_rest a b e = omega (arith, div-add-mod a b, mul_comm b (a / b))

pub accepts : (d : Draft) → Accepted d → verdict d ≡ None
accepts d a =
    let n = d.count in
    let f = d.factor in
    let q_low : 1 ≤ f.q = omega (arith, a.p_low, a.p_high) in
    none_both (count_fault n) _ (none_unless _ _ (ranged 1 32 n a.some a.few))
    (none_both (scale_fault d.scale) _ (none_unless _ _ (ranged 1 1000000 _ a.scale_low a.scale_high))
    (none_both (factor_fault f) _ (none_unless _ _ (and_from _ _ (ranged 1 1000 f.q q_low a.q_high) (ranged 1 f.q f.p a.p_low a.p_high)))
    (none_both (total_fault d.total) _ (none_unless _ _ (le-leb _ _ a.total_high))
    (none_both (tasks_fault d.scale (Some f) n d.task) _ (first_below_all n _ (λ k l. sound_none d.scale f (k + 1) (d.task k) q_low (a.each k l)))
    (none_both (low_fault (tests_of d)) _ (none_unless _ _ (le-leb _ _ a.low_test))
    (none_both (high_fault (tests_of d)) None (none_unless _ _ (le-leb _ _ a.high_test)) refl))))))

-- where 1 to 7 pass, the two tests decide
pub verdict_after : (d : Draft) (t : Tests) → shape_fault d ≡ None → t ≡ tests_of d → first_of (low_fault t ∷ high_fault t ∷ []) ≡ verdict d
verdict_after d t e same =
    let P : Tests → Option TableRefusal = λ t. first_of (low_fault t ∷ high_fault t ∷ []) in
    ap P same ∙ ap (λ x. or_else x (P (tests_of d))) (sym e) ∙ sym (first_of_append (shape_faults d) (low_fault (tests_of d) ∷ high_fault (tests_of d) ∷ []))

-- drafts of the same parts are the same
pub same_draft : (h b : Shares) (f : Factor) (n : ℕ) (xs ys : List Task) → ((k : ℕ) → slot xs k ≡ slot ys k) → drafted h b f n xs ≡ drafted h b f n ys
same_draft h b f n xs ys e = let D : (ℕ → Task) → Draft = λ task. record { scale = h; total = b; factor = f; count = n; task = task } in ap D (fun_ext e)

pub none_is : {A : Type 0} (x : Option A) → is_some x ≡ false → x ≡ None
none_is None e = refl
none_is (Some a) e = cc

pub is_none : {A : Type 0} (x : Option A) → None ≡ x → is_some x ≡ false
is_none x e = ap is_some (sym e)

-- a refused draft lacks one of the facts
pub refused : (d : Draft) (r : TableRefusal) → Some r ≡ verdict d → Accepted d → ⊥
refused d r e a = none-some r (sym (e ∙ accepts d a))
