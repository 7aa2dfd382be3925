-- An arrival keeps the facts and the ledgers.
use Rattle.std.proofs.Common.{◌≡◌, ℕ, ◌-◌, ◌*◌, ◌<◌, ◌≤◌, min, ◌≢◌, sym, refl, ◌∙◌, arith}
use native.Mathlib.Decide.{ℕ_discrete}
use Rattle.runs.proofs.Machine.{Table, Accepted, State, assured, Arrives}
use Rattle.runs.proofs.Machine.{Pend, idle, live}
use Rattle.runs.proofs.Rows.{Row, row_arrive, row_move}
use Rattle.runs.proofs.HighRows.{HRow, hrow_arrive, hrow_move}
use Rattle.runs.proofs.End.{age}
use Rattle.runs.proofs.Ledgers.{cap, past, JobFacts, Facts, Low, High, Inv, cap_same, capped_same, loaded_same}

module _ (P : Table) (ok : Accepted P) (s s' : State) (i : ℕ) (h : Arrives P s s' i) (free : s.job i ≡ idle) where
  same : (j : ℕ) → j < P.n → cap P s' j ≡ cap P s j
  same = cap_same P s s' h.longest'

  kept : (j : ℕ) → j < P.n → j ≢ i → s'.next j ≡ s.next j
  kept j l ne = h.next_other j l ne

  jobs_own : (r u : ℕ) → s'.job i ≡ live r u → JobFacts P s' i r u
  jobs_own r u e =
      let new = h.job_own in
      let er : r ≡ s.clock = cc in
      let eu : u ≡ 0 = cc in
      rw (er, eu) (record {
        since = omega (arith, h.clock');
        next_is = h.next_own;
        short = ok.CPos i h.below;
        held = λ _. omega arith;
        within = λ m. h.admitted (sym h.mode' ∙ m);
      })

  jobs_other : Facts P s → (j r u : ℕ) → j < P.n → j ≢ i → s.job j ≡ live r u → JobFacts P s' j r u
  jobs_other f j r u l ne e =
      let was = f.jobs j r u l e in
      record {
        since = omega (arith, was.since, h.clock');
        next_is = kept j l ne ∙ was.next_is;
        short = was.short;
        held = λ m. omega (arith, was.held (sym h.mode' ∙ m), same j l);
        within = λ m. was.within (sym h.mode' ∙ m);
      }

  arrive_facts : Facts P s → Facts P s'
  arrive_facts f = record {
    jobs = λ j r u l e.
        elim (ℕ_discrete j i) [
          | yes ej ↦ rw ej (jobs_own r u (rw ej at e))
          | no ne ↦ jobs_other f j r u l ne (sym (h.job_other j l ne) ∙ e)
        ];
    capped = capped_same P s s' h.longest' f;
    loaded = loaded_same P s s' h.longest' f;
  }

  arrived_at : (r u : ℕ) → s'.job i ≡ live r u → r ≡ s.clock
  arrived_at r u e = let new = h.job_own in cc

  arrive_low : (V : ℕ) → Low P s V → Low P s' V
  arrive_low V led = record {
    σ = led.σ;
    x = led.x;
    y = led.y;
    total = led.total ∙ sym h.clock';
    rowA = rowA';
    rowB = rowB';
    new = λ j r u l e c.
        elim (ℕ_discrete j i) [
          | yes ej ↦ omega (arith, arrived_at r u (rw ej at e), led.total)
          | no ne ↦ led.new j r u l (sym (h.job_other j l ne) ∙ e) c
        ];
  }
    where
      a_own : Row P.q (P.T i) (cap P s' i) (P.p * P.T i) V led.σ (λ u. min u (assured P i)) (s'.job i) (s'.next i) (led.x i)
      a_own =
          let before : Row P.q (P.T i) (cap P s i) (P.p * P.T i) V led.σ (λ u. min u (assured P i)) idle (s.next i) (led.x i) = rw (free) at (led.rowA i h.below) in
          rw (same i h.below, h.job_own) (row_arrive _ _ _ _ _ _ _ s.clock (s.next i) (s'.next i) _ before h.apart)

      b_own : Row P.q (P.T i) (past P i) (P.q * P.T i) V led.σ (λ u. u - assured P i) (s'.job i) (s'.next i) (led.y i)
      b_own =
          let before : Row P.q (P.T i) (past P i) (P.q * P.T i) V led.σ (λ u. u - assured P i) idle (s.next i) (led.y i) = rw (free) at (led.rowB i h.below) in
          rw h.job_own (row_arrive _ _ _ _ _ _ _ s.clock (s.next i) (s'.next i) _ before h.apart)

      rowA' : (j : ℕ) → j < P.n → Row P.q (P.T j) (cap P s' j) (P.p * P.T j) V led.σ (λ u. min u (assured P j)) (s'.job j) (s'.next j) (led.x j)
      rowA' j l =
          elim (ℕ_discrete j i) [
            | yes ej ↦ rw ej a_own
            | no ne ↦ row_move _ _ _ _ _ _ _ _ _ _ _ _ _ _ (led.rowA j l) (omega (arith, same j l)) (h.job_other j l ne) (kept j l ne) refl
          ]

      rowB' : (j : ℕ) → j < P.n → Row P.q (P.T j) (past P j) (P.q * P.T j) V led.σ (λ u. u - assured P j) (s'.job j) (s'.next j) (led.y j)
      rowB' j l =
          elim (ℕ_discrete j i) [
            | yes ej ↦ rw ej b_own
            | no ne ↦ row_move _ _ _ _ _ _ _ _ _ _ _ _ _ _ (led.rowB j l) (omega arith) (h.job_other j l ne) (kept j l ne) refl
          ]

  arrive_high : (d : ℕ) → High P s d → High P s' d
  arrive_high d led = record {
    σ = led.σ;
    a = led.a;
    δ = led.δ;
    x = led.x;
    y = led.y;
    σ≤a = led.σ≤a;
    a≤t = omega (arith, led.a≤t, h.clock');
    ends = led.ends;
    total = led.total ∙ sym h.clock';
    rowA = rowA';
    rowB = led.rowB;
    new = λ j r u l e c.
        elim (ℕ_discrete j i) [
          | yes ej ↦ omega (arith, arrived_at r u (rw ej at e), led.a≤t)
          | no ne ↦ led.new j r u l (sym (h.job_other j l ne) ∙ e) c
        ];
  }
    where
      a_own : HRow P.q P.p (P.T i) (cap P s' i) (assured P i) led.σ led.a led.δ (s'.job i) (s'.next i) (led.x i)
      a_own =
          let before : HRow P.q P.p (P.T i) (cap P s i) (assured P i) led.σ led.a led.δ idle (s.next i) (led.x i) = rw (free) at (led.rowA i h.below) in
          rw (same i h.below, h.job_own) (hrow_arrive _ _ _ _ _ _ _ _ s.clock (s.next i) (s'.next i) _ before h.apart)

      rowA' : (j : ℕ) → j < P.n → HRow P.q P.p (P.T j) (cap P s' j) (assured P j) led.σ led.a led.δ (s'.job j) (s'.next j) (led.x j)
      rowA' j l =
          elim (ℕ_discrete j i) [
            | yes ej ↦ rw ej a_own
            | no ne ↦ hrow_move _ _ _ _ _ _ _ _ _ _ _ _ _ _ _ (led.rowA j l) (same j l) (h.job_other j l ne) (kept j l ne) refl
          ]

-- a task that may arrive again has no job pending: it would be as old as its period
pub free_of : (P : Table) → Accepted P → (s : State) → Inv P s → (i : ℕ) → i < P.n → s.next i ≤ s.clock → s.job i ≡ idle
free_of P ok s inv i l apart = go (s.job i) refl
  where
    go : (J : Pend) → s.job i ≡ J → s.job i ≡ idle
    go idle e = e
    go (live r u) e = absurd (omega (arith, age P ok s inv i r u l e, (inv.facts.jobs i r u l e).next_is))

pub arrive_inv : (P : Table) → Accepted P → (s s' : State) (i : ℕ) → Arrives P s s' i → Inv P s → Inv P s'
arrive_inv P ok s s' i h inv = record {
  facts = arrive_facts P ok s s' i h free inv.facts;
  lows = λ m V. arrive_low P ok s s' i h free V (inv.lows (sym h.mode' ∙ m) V);
  highs = λ m d td. arrive_high P ok s s' i h free d (inv.highs (sym h.mode' ∙ m) d (omega (arith, h.clock')));
}
  where
    free : s.job i ≡ idle
    free = free_of P ok s inv i h.below h.apart
