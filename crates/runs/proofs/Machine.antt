-- The dispatcher by slots, as the proof of the age bound sees it: numbers for tasks and jobs, no rule but its longest runs, and steps that may do more than the real ones (a switch or an end at any time).
use Rattle.std.proofs.Common.{◌≡◌, ℕ, ◌+◌, ◌-◌, ◌*◌, ◌<◌, ◌≤◌, max, Bool, true, cond, ltb, ◌≢◌, ◌⊎◌}
use Rattle.table.specs.Sums.{sum}
use Rattle.runs.specs.declared.answer.Mode.{Mode}
use Rattle.runs.specs.declared.answer.Mode.TheVariants.{High as high}

-- the job of a task: none is pending, or one with its arrival and its run
pub data Pend : Type 0 where
  idle : Pend
  live : ℕ → ℕ → Pend

-- n tasks; of task i its period, weight, worst run, assured run (of a low task), virtual deadline; and the factor p / q
pub record Table : Type 0 where
  pub n : ℕ
  pub T : ℕ → ℕ
  pub w : ℕ → ℕ
  pub C : ℕ → ℕ
  pub g : ℕ → ℕ
  pub D : ℕ → ℕ
  pub isHigh : ℕ → Bool
  pub H : ℕ
  pub B : ℕ
  pub p : ℕ
  pub q : ℕ

-- what a task may always have: a high one its worst
abbrev pub assured : Table → ℕ → ℕ
assured P i = cond (P.isHigh i) (P.C i) (P.g i)

abbrev pub lowAssured : Table → ℕ
lowAssured P = sum P.n (λ i. cond (P.isHigh i) 0 (P.w i * P.g i))

abbrev pub lowRest : Table → ℕ
lowRest P = sum P.n (λ i. cond (P.isHigh i) 0 (P.w i * (P.C i - P.g i)))

abbrev pub highWorst : Table → ℕ
highWorst P = sum P.n (λ i. cond (P.isHigh i) (P.w i * P.C i) 0)

-- the weighted longest runs of the high tasks
abbrev pub load : Table → (ℕ → ℕ) → ℕ
load P longest = sum P.n (λ i. cond (P.isHigh i) (P.w i * longest i) 0)

pub record Accepted (P : Table) : Type 0 where
  pub p_pos : 1 ≤ P.p
  pub p≤q : P.p ≤ P.q
  pub HPos : 1 ≤ P.H
  pub weight : (i : ℕ) → i < P.n → P.w i * P.T i ≡ P.H
  pub CPos : (i : ℕ) → i < P.n → 1 ≤ P.C i
  pub g≤C : (i : ℕ) → i < P.n → P.g i ≤ P.C i
  pub virtual : (i : ℕ) → i < P.n → P.q * P.D i ≡ P.p * P.T i
  pub low_test : P.q * P.B + P.q * lowAssured P + P.p * lowRest P ≤ P.p * P.H
  pub high_test : P.p * lowRest P + P.q * (highWorst P + lowAssured P) ≤ P.q * P.H

-- next i is the first clock at which task i may arrive again
pub record State : Type 0 where
  pub clock : ℕ
  pub mode : Mode
  pub job : ℕ → Pend
  pub next : ℕ → ℕ
  pub longest : ℕ → ℕ

-- the deadline of a job in low mode
abbrev pub due : Table → ℕ → ℕ → ℕ → ℕ
due P i r u = cond (P.isHigh i) (r + P.D i) (cond (ltb u (P.g i)) (r + P.D i) (r + P.T i))

-- task i arrives; that it has no job pending follows
pub record Arrives (P : Table) (s s' : State) (i : ℕ) : Type 0 where
  pub below : i < P.n
  pub apart : s.next i ≤ s.clock
  pub admitted : s.mode ≡ high → 0 < assured P i
  pub clock' : s'.clock ≡ s.clock
  pub mode' : s'.mode ≡ s.mode
  pub job_own : s'.job i ≡ live s.clock 0
  pub job_other : (j : ℕ) → j < P.n → j ≢ i → s'.job j ≡ s.job j
  pub next_own : s'.next i ≡ s.clock + P.T i
  pub next_other : (j : ℕ) → j < P.n → j ≢ i → s'.next j ≡ s.next j
  pub longest' : (j : ℕ) → j < P.n → s'.longest j ≡ s.longest j

-- nothing is pending, and a tick passes
pub record Idles (P : Table) (s s' : State) : Type 0 where
  pub empty : (i : ℕ) → i < P.n → s.job i ≡ idle
  pub job' : (j : ℕ) → j < P.n → s'.job j ≡ idle
  pub longest' : (j : ℕ) → j < P.n → s'.longest j ≡ s.longest j

-- the job (r, u) of task i has a tick, and ends, or goes on while it has had less than `most`
pub record Runs (P : Table) (s s' : State) (i r u most : ℕ) : Type 0 where
  pub below : i < P.n
  pub pending : s.job i ≡ live r u
  pub clock' : s'.clock ≡ s.clock + 1
  pub mode' : s'.mode ≡ s.mode
  pub job_own : (s'.job i ≡ idle) ⊎ ((s'.job i ≡ live r (u + 1)) × (u + 1 < most))
  pub job_other : (j : ℕ) → j < P.n → j ≢ i → s'.job j ≡ s.job j
  pub next' : (j : ℕ) → j < P.n → s'.next j ≡ s.next j

pub record LowRuns (P : Table) (s s' : State) (i r u : ℕ) : Type 0 where
  pub runs : Runs P s s' i r u (P.C i)
  pub first : (j r' u' : ℕ) → j < P.n → s.job j ≡ live r' u' → due P i r u ≤ due P j r' u'
  pub longest_own : s'.longest i ≡ cond (P.isHigh i) (max (s.longest i) (u + 1)) (s.longest i)
  pub longest_other : (j : ℕ) → j < P.n → j ≢ i → s'.longest j ≡ s.longest j
  pub granted : P.isHigh i ≡ true → load P s'.longest ≤ P.B

pub record HighRuns (P : Table) (s s' : State) (i r u : ℕ) : Type 0 where
  pub runs : Runs P s s' i r u (assured P i)
  pub first : (j r' u' : ℕ) → j < P.n → s.job j ≡ live r' u' → r + P.T i ≤ r' + P.T j
  pub longest' : (j : ℕ) → j < P.n → s'.longest j ≡ s.longest j

-- the change to high mode: the jobs past their assured run go
pub record Switches (P : Table) (s s' : State) : Type 0 where
  pub clock' : s'.clock ≡ s.clock
  pub mode' : s'.mode ≡ high
  pub kept : (j r u : ℕ) → j < P.n → s.job j ≡ live r u → u < assured P j → s'.job j ≡ live r u
  pub gone : (j r u : ℕ) → j < P.n → s.job j ≡ live r u → assured P j ≤ u → s'.job j ≡ idle
  pub none : (j : ℕ) → j < P.n → s.job j ≡ idle → s'.job j ≡ idle
  pub next' : (j : ℕ) → j < P.n → s'.next j ≡ s.next j
  pub longest' : (j : ℕ) → j < P.n → s'.longest j ≡ s.longest j
