-- Where a rule denies the tick that it is asked for, the tick serves a job and its answer says that it switched.
use Rattle.std.proofs.Common.{◌≡◌, ℕ, ◌≤◌, Bool, true, false, cond, Some, None, Option, sym, refl, ap, ◌∙◌, arith}
use Rattle.std.proofs.lemmas.Bool.{both_ways}
use Rattle.tasks.specs.declared.task.Criticality.{Criticality}
use Rattle.tasks.specs.declared.task.Criticality.TheVariants.{High as HighTask, Low as LowTask}
use Rattle.table.specs.Verdict.{Draft}
use Rattle.order.specs.declared.candidate.Candidate.{Candidate}
use Rattle.order.specs.Ties.{by_number}
use Rattle.runs.specs.declared.answer.Job.{Job}
use Rattle.runs.specs.declared.answer.Mode.{Mode}
use Rattle.runs.specs.declared.answer.Mode.TheVariants.{High, Low}
use Rattle.runs.specs.declared.call.Mark.{Mark}
use Rattle.runs.specs.Choices.{contender, contending_by, contending, chosen, Turn, turn_by, turn_of, turn}
use Rattle.runs.specs.States.{State, rank, is_high}
use Rattle.runs.specs.Ticking.{asked_by, asked, denied, drops_by, kept, outcome_by, outcome_at}
use Rattle.runs.proofs.Choosing.{Picked, first_is}
use Rattle.runs.proofs.Computed.{by_number_laws}
use Rattle.runs.proofs.Keeps.{none≢some}

module _ (mode : Mode) (d : Draft) (jobs : ℕ → Option Job) where
  own_number : (k : ℕ) (o : Option Job) (c : Candidate) → contending_by mode d k o ≡ Some c → c.number ≡ k
  own_number k None c e = let z : ◌≡◌ {A = ℕ} 0 1 = cc in absurd (omega arith)
  own_number k (Some j) c e = let same : c ≡ contender mode d k j = cc in ap (λ (x : Candidate). x.number) same

  picked : Picked by_number (contending mode d jobs) 32 (chosen by_number mode d jobs)
  picked = first_is by_number by_number_laws (contending mode d jobs) (λ k c e. own_number k (jobs k) c e) 32

  some_job : (k : ℕ) (o : Option Job) (c : Candidate) → contending_by mode d k o ≡ Some c → (j : Job) × (o ≡ Some j)
  some_job k None c e = absurd (none≢some c refl e)
  some_job k (Some j) c e = (j, refl)

  -- the turn is that of a pending job with a number from 1 to 32
  turn_seated : (c : Option Candidate) → Picked by_number (contending mode d jobs) 32 c → (t : Turn) → turn_of jobs c ≡ Some t → (1 ≤ t.number) × (t.number ≤ 32) × (jobs t.number ≡ Some t.job)
  turn_seated None p t e = absurd (none≢some t refl e)
  turn_seated (Some c) p t e = go (jobs c.number) refl e
    where
      go : (o : Option Job) → jobs c.number ≡ o → turn_by c.number o ≡ Some t → (1 ≤ t.number) × (t.number ≤ 32) × (jobs t.number ≡ Some t.job)
      go None q x = absurd (none≢some t refl x)
      go (Some j) q x =
          let same : record { number = c.number; job = j } ≡ t = cc in
          let n : c.number ≡ t.number = ap (λ (y : Turn). y.number) same in
          let k : j ≡ t.job = ap (λ (y : Turn). y.job) same in
          (omega (arith, p.low), omega (arith, p.high), ap jobs (sym n) ∙ q ∙ ap Some k)

  pub seated_turn : (t : Turn) → turn by_number mode d jobs ≡ Some t → (1 ≤ t.number) × (t.number ≤ 32) × (jobs t.number ≡ Some t.job)
  seated_turn t e = turn_seated (chosen by_number mode d jobs) picked t e

  turn_there : (i : ℕ) (j : Job) → 1 ≤ i → i ≤ 32 → jobs i ≡ Some j → (c : Option Candidate) → Picked by_number (contending mode d jobs) 32 c → (t : Turn) × (turn_of jobs c ≡ Some t)
  turn_there i j lo hi e None p = absurd (none≢some (contender mode d i j) (p i lo hi) (ap (contending_by mode d i) e))
  turn_there i j lo hi e (Some c) p = let b = some_job c.number (jobs c.number) c p.one in (record { number = c.number; job = b.0 }, ap (turn_by c.number) b.1)

  -- there is a turn wherever a job is pending
  pub pending_turn : (i : ℕ) (j : Job) → 1 ≤ i → i ≤ 32 → jobs i ≡ Some j → (t : Turn) × (turn by_number mode d jobs ≡ Some t)
  pending_turn i j lo hi e = turn_there i j lo hi e (chosen by_number mode d jobs) picked

high_stays : (c : Criticality) (j : Job) → is_high c ≡ true → drops_by c (Some j) ≡ false
high_stays HighTask j e = refl
high_stays (LowTask g) j e = absurd (both_ways false refl e)

high_kept : (d : Draft) (jobs : ℕ → Option Job) (i : ℕ) (j : Job) → is_high (rank d i) ≡ true → jobs i ≡ Some j → kept d jobs i ≡ Some j
high_kept d jobs i j hi e = ap (λ o. cond (drops_by (rank d i) o) None o) e ∙ ap (λ b. cond b None (Some j)) (high_stays (rank d i) j hi)

denied_turn : (d : Draft) (says : ℕ → ℕ → Bool) (mode : Mode) (t : Option Turn) → denied says (asked_by d mode t) ≡ true → (u : Turn) × (t ≡ Some u) × (is_high (rank d u.number) ≡ true)
denied_turn d says High t e = absurd (both_ways false refl e)
denied_turn d says Low None e = absurd (both_ways false refl e)
denied_turn d says Low (Some u) e = go (is_high (rank d u.number)) refl e
  where
    go : (b : Bool) → is_high (rank d u.number) ≡ b → denied says (cond b (Some u) None) ≡ true → (v : Turn) × (Some u ≡ Some v) × (is_high (rank d v.number) ≡ true)
    go true q x = (u, refl, q)
    go false q x = absurd (both_ways false refl x)

-- the job that is denied stays pending, so the tick is not idle
turn_behind : (d : Draft) (says : ℕ → ℕ → Bool) (s : State) → denied says (asked d by_number s) ≡ true → (t : Turn) × (turn by_number High d (kept d s.job) ≡ Some t)
turn_behind d says s e =
    let u = denied_turn d says s.mode (turn by_number Low d s.job) e in
    let at = seated_turn Low d s.job u.0 u.1 in
    pending_turn High d (kept d s.job) u.0.number u.0.job at.0 at.1 (high_kept d s.job u.0.number u.0.job u.2 at.2)

switched_by : (d : Draft) (s : State) (mark : Mark) (jobs : ℕ → Option Job) (o : Option Turn) (t : Turn) → o ≡ Some t → (outcome_by d s mark true High jobs o).answer.switched ≡ true
switched_by d s mark jobs None t e = absurd (none≢some t refl e)
switched_by d s mark jobs (Some u) t e = refl

pub denied_switched : (d : Draft) (says : ℕ → ℕ → Bool) (s : State) (mark : Mark) → denied says (asked d by_number s) ≡ true → (outcome_at d by_number s mark true).answer.switched ≡ true
denied_switched d says s mark e = let t = turn_behind d says s e in switched_by d s mark (kept d s.job) (turn by_number High d (kept d s.job)) t.0 t.1
