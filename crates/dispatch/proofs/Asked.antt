-- What the questions tell, in a state and in its logs.
use Rattle.std.proofs.Common.{◌≡◌, ℕ, zero, suc, ◌+◌, ◌-◌, ◌^◌, ◌<◌, Bool, true, false, cond, not, ◌&&◌, eqb, ◌≢◌, List, length, get_or, is_some, Some, None, Option, sym, refl, ap, ◌∙◌, arith}
use mathlib.Core.Path.{fun_ext}
use lib.Count.{count_trailing_zeros}
use native.Mathlib.Decide.{ℕ_discrete}
use Rattle.std.specs.Bool.{then_some}
use Rattle.std.proofs.lemmas.Bool.{eq-eqb, ne_eqb}
use Rattle.std.proofs.lemmas.List.{get_or_past}
use Rattle.std.specs.Option.{option_map}
use Rattle.tasks.specs.declared.units.Ticks.{Ticks}
use Rattle.table.specs.Accepted.{Accepted}
use Rattle.table.specs.Firsts.{first_below, or_else, unless}
use Rattle.table.specs.Tasks.{ticks}
use Rattle.table.specs.Verdict.{Draft}
use Rattle.table.proofs.Firsts.{first_below_all, first_below_more, first_below_stays}
use Rattle.order.specs.Bits.{bit}
use Rattle.order.specs.Orders.{Ahead, TieLaws}
use Rattle.order.proofs.Bits.{bit_none, lowest_set, lowest_none}
use Rattle.budget.specs.Meaning.{Meaning}
use Rattle.runs.specs.declared.answer.Job.{Job}
use Rattle.runs.specs.declared.entry.Entry.{Entry}
use Rattle.runs.specs.Slots.{seat}
use Rattle.runs.specs.States.{State, period}
use Rattle.runs.specs.Masks.{mask}
use Rattle.runs.specs.Logs.{age}
use Rattle.runs.specs.Ticking.{kept}
use Rattle.runs.specs.Produced.{Kind, Produced}
use Rattle.runs.specs.Bounds.{Shows}
use Rattle.runs.proofs.Ages.{age_bound}
use Rattle.runs.proofs.Ties.{ties_stand}
use Rattle.dispatch.specs.Cores.{Agrees, masked, drops_at}
use Rattle.dispatch.specs.Questions.{age_at, plain, is_pending, lowest_task}
use Rattle.dispatch.proofs.Masks.{mask_is, drops_seat}

-- a number without a slot has no job
pub seat_beyond : (jobs : List (Option Job)) (i : ℕ) → length jobs ≡ 32 → 32 < i → seat jobs i ≡ None
seat_beyond jobs zero long h = absurd (omega arith)
seat_beyond jobs (suc k) long h = get_or_past jobs k None (omega arith)

-- the age

pub age_mapped : (clock : ℕ) (o : Option Job) → option_map (λ j. ticks (clock - j.arrival.0)) o ≡ age_at clock o
age_mapped clock None = refl
age_mapped clock (Some j) = refl

age_plain : (s : State) (log : List Entry) → Shows log s → (i : ℕ) (o : Option Job) → s.job i ≡ o → plain (age_at s.clock o) ≡ age i log
age_plain s log shows i None e = sym (shows.idle_is i e)
age_plain s log shows i (Some j) e =
    let a = shows.age_is i j e in
    let is : s.clock - j.arrival.0 ≡ a.0 = omega (arith, a.2) in
    ap Some is ∙ sym a.1

plain_some : (o : Option Ticks) (a : Ticks) → o ≡ Some a → plain o ≡ Some a.0
plain_some o a e = ap plain e

pub age_told : (kind : Kind) (d : Draft) → Accepted d → (ahead : Ahead) → TieLaws ahead → (log : List Entry) (m : Meaning) (s : State) → Produced kind d ahead log m s
    → (i : ℕ) (r : Option Ticks) → r ≡ age_at s.clock (s.job i) → (plain r ≡ age i log) × ((a : Ticks) → r ≡ Some a → a.0 < period d i)
age_told kind d ok ahead laws log m s p i r is =
    let told : plain r ≡ age i log = ap plain is ∙ age_plain s log (ties_stand kind d ahead log m s p) i (s.job i) refl in
    (told, λ a e. age_bound kind d ok ahead laws log m s p i a.0 (sym told ∙ plain_some r a e))

-- pending tasks

pub pending_mask : (pending : ℕ) (jobs : List (Option Job)) → pending < 2 ^ 32 → Agrees pending jobs → pending ≡ mask 32 (is_pending (seat jobs))
pending_mask pending jobs word agrees = mask_is pending (is_pending (seat jobs)) word (λ k. agrees k)

pub pending_bits : (pending : ℕ) (jobs : List (Option Job)) → Agrees pending jobs → bit pending ≡ (λ k. is_pending (seat jobs) (suc k))
pending_bits pending jobs agrees = fun_ext agrees

-- the lowest task of a mask

pub lowest_empty : (m : ℕ) → m ≡ 0 → None ≡ lowest_task (bit m)
lowest_empty m e = sym (first_below_all 32 (λ k. unless (not (bit m k)) (k + 1)) (λ k h. ap (λ b. unless (not b) (k + 1)) (ap (λ x. bit x k) e ∙ bit_none k)))

module _ (m : ℕ) where
  abbrev k : ℕ
  k = count_trailing_zeros 32 m

  abbrev named : ℕ → Option ℕ
  named i = unless (not (bit m i)) (i + 1)

  pub lowest_found : m < 2 ^ 32 → m ≢ 0 → Some (count_trailing_zeros 32 m + 1) ≡ lowest_task (bit m)
  lowest_found word ne =
      let low = lowest_set 32 m word ne in
      let before : first_below k named ≡ None = first_below_all k named (λ i h. ap (λ b. unless (not b) (i + 1)) (lowest_none 32 m i h)) in
      let here : named k ≡ Some (k + 1) = ap (λ b. unless (not b) (k + 1)) low.0 in
      sym (first_below_stays 32 (k + 1) named (k + 1) (omega (arith, low.1)) (first_below_more k named ∙ ap (λ o. or_else o (named k)) before ∙ here))

pub lowest_is : (m : ℕ) → m < 2 ^ 32 → then_some (not (eqb m 0)) (count_trailing_zeros 32 m + 1) ≡ lowest_task (bit m)
lowest_is m word = elim (ℕ_discrete m 0) [
  | yes e ↦ rw (eq-eqb m 0 e) (lowest_empty m e)
  | no ne ↦ rw (ne_eqb m 0 ne) (lowest_found m word ne)
]

-- the jobs that a switch would keep

pub masked_kept : (d : Draft) (pending rest : ℕ) (jobs : List (Option Job)) → Agrees pending jobs → ((k : ℕ) → bit rest k ≡ (bit pending k && not (drops_at d jobs k)))
    → masked rest jobs ≡ kept d (seat jobs)
masked_kept d pending rest jobs agrees left = fun_ext (λ i. by i)
  where
    at : (a b : Bool) (o : Option Job) → a ≡ is_some o → cond (a && not b) o None ≡ cond b None o
    at true true o e = refl
    at true false o e = refl
    at false true o e = refl
    at false false None e = refl
    at false false (Some j) e = let z : ◌≡◌ {A = ℕ} 0 1 = cc in absurd (omega arith)

    by : (i : ℕ) → masked rest jobs i ≡ kept d (seat jobs) i
    by zero = refl
    by (suc k) =
        ap (λ b. cond b (get_or jobs k None) None) (left k) ∙ at (bit pending k) (drops_at d jobs k) (get_or jobs k None) (agrees k)
        ∙ ap (λ b. cond b None (get_or jobs k None)) (drops_seat d jobs k)
