-- A tick in high mode keeps the facts and the high ledgers.
use Rattle.std.proofs.Common.{◌≡◌, ℕ, ◌+◌, ◌-◌, ◌*◌, ◌<◌, ◌≤◌, ◌⊎◌, sym, refl, ◌∙◌, inl, inr, arith}
use native.Mathlib.Decide.{ℕ_discrete, dec_le}
use Rattle.table.specs.Sums.{sum}
use Rattle.runs.proofs.Machine.{Table, Accepted, State, assured, HighRuns}
use Rattle.runs.proofs.Machine.{idle, live}
use Rattle.runs.specs.declared.answer.Mode.TheVariants.{Low as low, High as high}
use Rattle.table.proofs.Sums.{sum_zeros}
use Rattle.runs.proofs.Sums.{sum_bump, bump, bump_own, bump_other}
use Rattle.runs.proofs.HighRows.{HRow, hrow_serve, hrow_move, hrow_own}
use Rattle.runs.proofs.Ledgers.{cap, past, JobFacts, Facts, High, assured≤C, cap_same, capped_same, loaded_same}
use Rattle.runs.proofs.LowKeeps.{low≢high, idle≢live}

pub high_fresh : (P : Table) (s : State) (d : ℕ) → s.clock ≤ d → ((i r u : ℕ) → i < P.n → s.job i ≡ live r u → r + P.T i ≤ d → ⊥) → High P s d
high_fresh P s d td none = record {
  σ = s.clock;
  a = s.clock;
  δ = d - s.clock;
  x = λ i. 0;
  y = λ i. 0;
  σ≤a = omega arith;
  a≤t = omega arith;
  ends = omega arith;
  total = omega (arith, sum_zeros P.n (λ i. 0 + 0) (λ k l. refl));
  rowA = λ i l. HRow.empty refl;
  rowB = λ i l. rowB' P.q (P.T i) (past P i) s.clock (P.p * (d - s.clock));
  new = λ i r u l e h. absurd (none i r u l e h);
}
  where
    rowB' : (q T e t k : ℕ) → q * (T * 0) + e * (q * t) ≤ e * (q * t + k)
    rowB' q T e t k = omega arith

module _ (P : Table) (ok : Accepted P) (s s' : State) (i r u : ℕ) (run : HighRuns P s s' i r u) (f : Facts P s) (highly : s.mode ≡ high) where
  kept : (j : ℕ) → j < P.n → s'.next j ≡ s.next j
  kept j l = run.runs.next' j l

  own : JobFacts P s i r u
  own = f.jobs i r u run.runs.below run.runs.pending

  not_low : s'.mode ≡ low → ⊥
  not_low e = low≢high e (run.runs.mode' ∙ highly)

  jobs_own : (r' u' : ℕ) → s'.job i ≡ live r' u' → (s'.job i ≡ idle) ⊎ ((s'.job i ≡ live r (u + 1)) × (u + 1 < assured P i)) → JobFacts P s' i r' u'
  jobs_own r' u' e (inl gone) = absurd (idle≢live r' u' gone e)
  jobs_own r' u' e (inr w) =
      let stays = w.0 in
      let er : r' ≡ r = cc in
      let eu : u' ≡ u + 1 = cc in
      rw (er, eu) (record {
        since = omega (arith, own.since, run.runs.clock');
        next_is = kept i run.runs.below ∙ own.next_is;
        short = omega (arith, w.1, assured≤C P ok i run.runs.below);
        held = λ m. absurd (not_low m);
        within = λ _. w.1;
      })

  jobs_other : (j r' u' : ℕ) → j < P.n → s.job j ≡ live r' u' → JobFacts P s' j r' u'
  jobs_other j r' u' l e =
      let was = f.jobs j r' u' l e in
      record {
        since = omega (arith, was.since, run.runs.clock');
        next_is = kept j l ∙ was.next_is;
        short = was.short;
        held = λ m. absurd (not_low m);
        within = λ _. was.within highly;
      }

  pub high_facts : Facts P s'
  high_facts = record {
    jobs = λ j r' u' l e.
        elim (ℕ_discrete j i) [
          | yes ej ↦ rw ej (jobs_own r' u' (rw ej at e) run.runs.job_own)
          | no ne ↦ jobs_other j r' u' l (sym (run.runs.job_other j l ne) ∙ e)
        ];
    capped = capped_same P s s' run.longest' f;
    loaded = loaded_same P s s' run.longest' f;
  }

  serve : (d : ℕ) → High P s d → r + P.T i ≤ d → High P s' d
  serve d led counts = record {
    σ = led.σ;
    a = led.a;
    δ = led.δ;
    x = bump led.x i;
    y = led.y;
    σ≤a = led.σ≤a;
    a≤t = omega (arith, led.a≤t, run.runs.clock');
    ends = led.ends;
    total = omega (arith, led.total, run.runs.clock', sums);
    rowA = rowA';
    rowB = led.rowB;
    new = new';
  }
    where
      from : led.a ≤ r
      from = led.new i r u run.runs.below run.runs.pending counts

      sums : sum P.n (λ j. bump led.x i j + led.y j) ≡ sum P.n (λ j. led.x j + led.y j) + 1
      sums = sum_bump P.n (λ j. led.x j + led.y j) (λ j. bump led.x i j + led.y j) i run.runs.below
          (omega (arith, bump_own led.x i)) (λ j l ne. omega (arith, bump_other led.x i j ne))

      a_own : HRow P.q P.p (P.T i) (cap P s' i) (assured P i) led.σ led.a led.δ (s'.job i) (s'.next i) (bump led.x i i)
      a_own =
          let before : HRow P.q P.p (P.T i) (cap P s i) (assured P i) led.σ led.a led.δ (live r u) (s.next i) (led.x i) = rw run.runs.pending at (led.rowA i run.runs.below) in
          let served = hrow_serve _ _ _ _ _ _ _ _ r u _ _ before led.σ≤a (f.capped i run.runs.below) from (omega (arith, counts, led.ends)) in
          hrow_own _ _ _ _ _ _ _ _ _ (assured P i) (s'.job i) r u (s.next i) (s'.next i) (led.x i + 1) (bump led.x i i) served run.runs.job_own (omega (arith, own.within highly)) own.next_is
          (cap_same P s s' run.longest' i run.runs.below) (kept i run.runs.below) (bump_own led.x i)

      rowA' : (j : ℕ) → j < P.n → HRow P.q P.p (P.T j) (cap P s' j) (assured P j) led.σ led.a led.δ (s'.job j) (s'.next j) (bump led.x i j)
      rowA' j l =
          elim (ℕ_discrete j i) [
            | yes ej ↦ rw ej a_own
            | no ne ↦ hrow_move _ _ _ _ _ _ _ _ _ _ _ _ _ _ _ (led.rowA j l) (cap_same P s s' run.longest' j l) (run.runs.job_other j l ne) (kept j l) (bump_other led.x i j ne)
          ]

      new_own : (r' u' : ℕ) → s'.job i ≡ live r' u' → (s'.job i ≡ idle) ⊎ ((s'.job i ≡ live r (u + 1)) × (u + 1 < assured P i)) → led.a ≤ r'
      new_own r' u' e (inl gone) = absurd (idle≢live r' u' gone e)
      new_own r' u' e (inr w) =
          let stays = w.0 in
          let er : r' ≡ r = cc in
          rw er from

      new' : (j r' u' : ℕ) → j < P.n → s'.job j ≡ live r' u' → r' + P.T j ≤ d → led.a ≤ r'
      new' j r' u' l e h =
          elim (ℕ_discrete j i) [
            | yes ej ↦ new_own r' u' (rw ej at e) run.runs.job_own
            | no ne ↦ led.new j r' u' l (sym (run.runs.job_other j l ne) ∙ e) h
          ]

  reset : (d : ℕ) → s'.clock ≤ d → d < r + P.T i → High P s' d
  reset d td over = high_fresh P s' d td none
    where
      at_own : (r' u' : ℕ) → s'.job i ≡ live r' u' → r' + P.T i ≤ d → (s'.job i ≡ idle) ⊎ ((s'.job i ≡ live r (u + 1)) × (u + 1 < assured P i)) → ⊥
      at_own r' u' e h (inl gone) = idle≢live r' u' gone e
      at_own r' u' e h (inr w) =
          let stays = w.0 in
          let er : r' ≡ r = cc in
          omega arith

      none : (j r' u' : ℕ) → j < P.n → s'.job j ≡ live r' u' → r' + P.T j ≤ d → ⊥
      none j r' u' l e h =
          elim (ℕ_discrete j i) [
            | yes ej ↦ at_own r' u' (rw ej at e) (rw ej at h) run.runs.job_own
            | no ne ↦ omega (arith, run.first j r' u' l (sym (run.runs.job_other j l ne) ∙ e))
          ]

  pub high_ledger : ((d : ℕ) → s.clock ≤ d → High P s d) → (d : ℕ) → s'.clock ≤ d → High P s' d
  high_ledger leds d td =
      elim (dec_le (r + P.T i) d) [
        | yes counts ↦ serve d (leds d (omega (arith, run.runs.clock'))) counts
        | no over ↦ reset d td (omega arith)
      ]
