-- What holds between calls is kept by each step.
use Rattle.std.proofs.Common.{◌≡◌, ℕ, zero, suc, ◌+◌, ◌-◌, ◌^◌, ◌<◌, ◌≤◌, Bool, true, false, cond, not, ◌&&◌, eqb, List, length, get_or, set, is_some, Some, None, Option, sym, refl, ap, ◌∙◌, arith, length-set}
use mathlib.Core.Path.{fun_ext}
use Rattle.tasks.specs.declared.units.Ticks.{Ticks}
use Rattle.table.specs.declared.table.Table.{Table}
use Rattle.table.specs.Verdict.{Draft}
use Rattle.table.proofs.Tables.{table_accepted}
use Rattle.order.specs.Bits.{bit}
use Rattle.runs.specs.declared.answer.Job.{Job}
use Rattle.runs.specs.declared.answer.Ending.{Ending}
use Rattle.runs.specs.Slots.{seat}
use Rattle.runs.specs.States.{known}
use Rattle.runs.specs.Ticking.{served, kept}
use Rattle.runs.proofs.Choosing.{Seated}
use Rattle.dispatch.specs.declared.state.Core.{Core}
use Rattle.dispatch.specs.Cores.{Fine, Owned, LastBy, drops_at}
use Rattle.dispatch.specs.Steps.{rest_of, Writes}
use Rattle.dispatch.proofs.Known.{known_slot}
use Rattle.dispatch.proofs.Masks.{drops_seat}
use Rattle.dispatch.proofs.Seats.{seat_set, all_set, agrees_set}

-- a task with a pending job

pub seat_slot : (jobs : List (Option Job)) (i : ℕ) (j : Job) → seat jobs i ≡ Some j → (1 ≤ i) × (get_or jobs (i - 1) None ≡ Some j)
seat_slot jobs zero j e = let z : ◌≡◌ {A = ℕ} 0 1 = cc in absurd (omega arith)
seat_slot jobs (suc k) j e = let back : suc k - 1 ≡ k = omega arith in (omega arith, ap (λ i. get_or jobs i None) back ∙ e)

pub seat_known : (d : Draft) (jobs : List (Option Job)) → Owned d.count jobs → (i : ℕ) (j : Job) → seat jobs i ≡ Some j → known d i ≡ true
seat_known d jobs owned i j e =
    let s = seat_slot jobs i j e in
    let back : i - 1 + 1 ≡ i = omega (arith, s.0) in
    rw back at (known_slot d (i - 1) (owned (i - 1) j s.1))

pub seat_below : (t : Table) (jobs : List (Option Job)) → Owned t.count jobs → (i : ℕ) (j : Job) → seat jobs i ≡ Some j → i - 1 < 32
seat_below t jobs owned i j e = let s = seat_slot jobs i j e in omega (arith, owned (i - 1) j s.1, (table_accepted t).few)

pub seated : (t : Table) (jobs : List (Option Job)) → Owned t.count jobs → Seated (seat jobs)
seated t jobs owned i j e = let s = seat_slot jobs i j e in (s.0, omega (arith, s.0, seat_below t jobs owned i j e))

-- a switch

from_cond : {A : Type 0} (b : Bool) (o : Option A) (a : A) → cond b None o ≡ Some a → o ≡ Some a
from_cond true o a e = let z : ◌≡◌ {A = ℕ} 0 1 = cc in absurd (omega arith)
from_cond false o a e = e

module _ (d : Draft) (c c' : Core) (dropped : ℕ) (bits : (k : ℕ) → bit dropped k ≡ drops_at d c.jobs k)
    (at : (k : ℕ) → get_or c'.jobs k None ≡ cond (bit dropped k) None (get_or c.jobs k None)) where
  all_left : (P : ℕ → Job → Type 0) → ((k : ℕ) (j : Job) → get_or c.jobs k None ≡ Some j → P k j) → (k : ℕ) (j : Job) → get_or c'.jobs k None ≡ Some j → P k j
  all_left P old k j e = old k j (from_cond (bit dropped k) (get_or c.jobs k None) j (sym (at k) ∙ e))

  pub fine_switched : Fine d c → c'.clock ≡ c.clock → c'.last ≡ c.last → length c'.jobs ≡ 32
      → ((k : ℕ) → bit c'.pending k ≡ (bit c.pending k && not (bit dropped k))) → Fine d c'
  fine_switched f ec el long left = record {
    agrees = λ k. left k ∙ ap (λ b. b && not (bit dropped k)) (f.agrees k) ∙ by (bit dropped k) (get_or c.jobs k None) ∙ ap is_some (sym (at k));
    owned = all_left (λ k j. k < d.count) f.owned;
    arrived = rw ec (all_left (λ k j. j.arrival.0 ≤ c.clock.0) f.arrived);
    run = rw ec (all_left (λ k j. j.run.0 ≤ c.clock.0) f.run);
    lasts = rw (ec, el) f.lasts;
    clocked = rw ec f.clocked;
    slots = long;
    seats = rw el f.seats;
  }
    where
      by : (b : Bool) (o : Option Job) → (is_some o && not b) ≡ is_some (cond b None o)
      by true None = refl
      by true (Some j) = refl
      by false None = refl
      by false (Some j) = refl

  pub jobs_switched : seat c'.jobs ≡ kept d (seat c.jobs)
  jobs_switched = fun_ext (λ i. by i)
    where
      by : (i : ℕ) → seat c'.jobs i ≡ kept d (seat c.jobs) i
      by zero = refl
      by (suc k) = at k ∙ ap (λ b. cond b None (get_or c.jobs k None)) (bits k ∙ drops_seat d c.jobs k)

-- a served job

rest_run : (e : Option Ending) (arrival run : Ticks) (j : Job) → rest_of e arrival run ≡ Some j → (j.arrival ≡ arrival) × (j.run ≡ run)
rest_run (Some e) arrival run j q = let z : ◌≡◌ {A = ℕ} 0 1 = cc in absurd (omega arith)
rest_run None arrival run j q = let is : record { arrival = arrival; run = run } ≡ j = cc in (sym (ap (λ x. x.arrival) is), sym (ap (λ x. x.run) is))

-- one slot is written, and the clock is at least as far
module _ (d : Draft) (c c₁ c' : Core) (k : ℕ) (o : Option Job) (w : Writes c c₁ k o) (f : Fine d c) (low : k < 32)
    (ejobs : c'.jobs ≡ c₁.jobs) (epending : c'.pending ≡ c₁.pending) (later : c.clock.0 ≤ c'.clock.0) (early : c'.clock.0 ≤ 2 ^ 40) where
  abbrev below : k < length c.jobs
  below = omega (arith, low, f.slots)

  pub fine_written : LastBy c'.clock.0 c'.last → length c'.last ≡ 32
      → ((j : Job) → o ≡ Some j → k < d.count) → ((j : Job) → o ≡ Some j → j.arrival.0 ≤ c'.clock.0) → ((j : Job) → o ≡ Some j → j.run.0 ≤ c'.clock.0) → Fine d c'
  fine_written lasts seats own arrived run =
      let same : c'.jobs ≡ set c.jobs k o = ejobs ∙ w.jobs' in
      record {
        agrees = rw same (agrees_set c.pending c'.pending c.jobs k o below f.agrees (λ i. ap (λ m. bit m i) epending ∙ w.bits' i));
        owned = rw same (all_set (λ i j. i < d.count) c.jobs k o below f.owned own);
        arrived = rw same (all_set (λ i j. j.arrival.0 ≤ c'.clock.0) c.jobs k o below (λ i j e. omega (arith, f.arrived i j e, later)) arrived);
        run = rw same (all_set (λ i j. j.run.0 ≤ c'.clock.0) c.jobs k o below (λ i j e. omega (arith, f.run i j e, later)) run);
        lasts = lasts;
        clocked = early;
        slots = rw same (rw length-set f.slots);
        seats = seats;
      }

  pub jobs_written : seat c'.jobs ≡ λ i. cond (eqb i (suc k)) o (seat c.jobs i)
  jobs_written = ap seat (ejobs ∙ w.jobs') ∙ seat_set c.jobs k o below

-- a job that has had its tick
pub rest_served : (e : Option Ending) (j : Job) (run : Ticks) → run.0 ≡ j.run.0 + 1 → rest_of e j.arrival run ≡ served e j
rest_served (Some e) j run q = refl
rest_served None j run q = ap (λ n. Some (record { arrival = j.arrival; run = record { 0 = n } })) q

pub rest_arrival : (e : Option Ending) (arrival run : Ticks) (j : Job) → rest_of e arrival run ≡ Some j → j.arrival.0 ≡ arrival.0
rest_arrival e arrival run j q = ap (λ x. x.0) (rest_run e arrival run j q).0

pub rest_run_is : (e : Option Ending) (arrival run : Ticks) (j : Job) → rest_of e arrival run ≡ Some j → j.run.0 ≡ run.0
rest_run_is e arrival run j q = ap (λ x. x.0) (rest_run e arrival run j q).1
