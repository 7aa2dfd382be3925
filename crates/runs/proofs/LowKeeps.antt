-- A tick in low mode keeps the facts and the low ledgers.
use Rattle.std.proofs.Common.{◌≡◌, ℕ, ◌+◌, ◌-◌, ◌*◌, ◌<◌, ◌≤◌, min, max, Bool, true, false, cond, ◌⊎◌, sym, refl, ap, ◌∙◌, inl, inr, mul-le-mul_left, arith}
use native.Mathlib.Decide.{ℕ_discrete, dec_le}
use Rattle.table.specs.Sums.{sum}
use Rattle.runs.specs.declared.answer.Mode.{Mode}
use Rattle.runs.proofs.Machine.{Table, Accepted, State, assured, due, load, LowRuns}
use Rattle.runs.proofs.Machine.{Pend, idle, live}
use Rattle.runs.specs.declared.answer.Mode.TheVariants.{Low as low, High as high}
use Rattle.table.proofs.Sums.{sum_zeros}
use Rattle.runs.proofs.Sums.{sum_same, sum_bump, bump, bump_own, bump_other}
use Rattle.runs.proofs.Rows.{Row, row_serve, row_pass, row_raise, row_move, row_own}
use Rattle.runs.proofs.Ledgers.{cap, past, JobFacts, Facts, Low, due_early, due_late, due_grows}

pub low_fresh : (P : Table) (s : State) (V : ℕ) → ((i r u : ℕ) → i < P.n → s.job i ≡ live r u → P.q * due P i r u ≤ V → ⊥) → Low P s V
low_fresh P s V none = record {
  σ = s.clock;
  x = λ i. 0;
  y = λ i. 0;
  total = omega (arith, sum_zeros P.n (λ i. 0 + 0) (λ k l. refl));
  rowA = λ i l. Row.empty refl;
  rowB = λ i l. Row.empty refl;
  new = λ i r u l e h. absurd (none i r u l e h);
}

pub low≢high : {m : Mode} → m ≡ low → m ≡ high → ⊥
low≢high {m} e h = let z : ◌≡◌ {A = ℕ} 0 1 = cc in omega arith

pub idle≢live : {J : Pend} (r u : ℕ) → J ≡ idle → J ≡ live r u → ⊥
idle≢live {J} r u e h = let z : ◌≡◌ {A = ℕ} 0 1 = cc in omega arith

-- how a cap changes
up_of : (b : Bool) (L L' g : ℕ) → L ≤ L' → cond b L g ≤ cond b L' g
up_of true L L' g h = h
up_of false L L' g h = omega arith

longer : (b : Bool) (L L' v : ℕ) → L' ≡ cond b (max L v) L → L ≤ L'
longer true L L' v e = omega arith
longer false L L' v e = omega arith

held_of : (b : Bool) (L L' v C g : ℕ) → L' ≡ cond b (max L v) L → min v (cond b C g) ≤ cond b L' g
held_of true L L' v C g e = omega arith
held_of false L L' v C g e = omega arith

capped_of : (b : Bool) (L L' v C g : ℕ) → L' ≡ cond b (max L v) L → v ≤ C → cond b L g ≤ cond b C g → cond b L' g ≤ cond b C g
capped_of true L L' v C g e h k = omega arith
capped_of false L L' v C g e h k = k

module _ (P : Table) (ok : Accepted P) (s s' : State) (i r u : ℕ) (run : LowRuns P s s' i r u) (f : Facts P s) (lowly : s.mode ≡ low) where
  kept : (j : ℕ) → j < P.n → s'.next j ≡ s.next j
  kept j l = run.runs.next' j l

  own : JobFacts P s i r u
  own = f.jobs i r u run.runs.below run.runs.pending

  longest_up : (j : ℕ) → j < P.n → s.longest j ≤ s'.longest j
  longest_up j l =
      elim (ℕ_discrete j i) [
        | yes e ↦ rw e (longer (P.isHigh i) (s.longest i) (s'.longest i) (u + 1) run.longest_own)
        | no ne ↦ omega (arith, run.longest_other j l ne)
      ]

  cap_up : (j : ℕ) → j < P.n → cap P s j ≤ cap P s' j
  cap_up j l = up_of (P.isHigh j) (s.longest j) (s'.longest j) (P.g j) (longest_up j l)

  held_own : min (u + 1) (assured P i) ≤ cap P s' i
  held_own = held_of (P.isHigh i) (s.longest i) (s'.longest i) (u + 1) (P.C i) (P.g i) run.longest_own

  capped' : (j : ℕ) → j < P.n → cap P s' j ≤ assured P j
  capped' j l =
      elim (ℕ_discrete j i) [
        | yes e ↦ rw e (capped_of (P.isHigh i) (s.longest i) (s'.longest i) (u + 1) (P.C i) (P.g i) run.longest_own (omega (arith, own.short)) (f.capped i run.runs.below))
        | no ne ↦ rw (run.longest_other j l ne) (f.capped j l)
      ]

  loaded' : (b : Bool) → P.isHigh i ≡ b → load P s'.longest ≤ P.B
  loaded' true e = run.granted e
  loaded' false e = rw (sum_same P.n _ (λ j. cond (P.isHigh j) (P.w j * s.longest j) 0) same) f.loaded
    where
      at_own : s'.longest i ≡ s.longest i
      at_own = run.longest_own ∙ ap (λ b. cond b (max (s.longest i) (u + 1)) (s.longest i)) e

      same : (j : ℕ) → j < P.n → cond (P.isHigh j) (P.w j * s'.longest j) 0 ≡ cond (P.isHigh j) (P.w j * s.longest j) 0
      same j l =
          elim (ℕ_discrete j i) [
            | yes ej ↦ rw (ej, at_own)
            | no ne ↦ rw (run.longest_other j l ne)
          ]

  not_high : s'.mode ≡ high → ⊥
  not_high e = low≢high lowly (sym run.runs.mode' ∙ e)

  jobs_own : (r' u' : ℕ) → s'.job i ≡ live r' u' → (s'.job i ≡ idle) ⊎ ((s'.job i ≡ live r (u + 1)) × (u + 1 < P.C i)) → JobFacts P s' i r' u'
  jobs_own r' u' e (inl gone) = absurd (idle≢live r' u' gone e)
  jobs_own r' u' e (inr w) =
      let stays = w.0 in
      let er : r' ≡ r = cc in
      let eu : u' ≡ u + 1 = cc in
      rw (er, eu) (record {
        since = omega (arith, own.since, run.runs.clock');
        next_is = kept i run.runs.below ∙ own.next_is;
        short = w.1;
        held = λ _. held_own;
        within = λ m. absurd (not_high m);
      })

  jobs_other : (j r' u' : ℕ) → j < P.n → s.job j ≡ live r' u' → JobFacts P s' j r' u'
  jobs_other j r' u' l e =
      let was = f.jobs j r' u' l e in
      record {
        since = omega (arith, was.since, run.runs.clock');
        next_is = kept j l ∙ was.next_is;
        short = was.short;
        held = λ _. omega (arith, was.held lowly, cap_up j l);
        within = λ m. absurd (not_high m);
      }

  pub low_facts : Facts P s'
  low_facts = record {
    jobs = λ j r' u' l e.
        elim (ℕ_discrete j i) [
          | yes ej ↦ rw ej (jobs_own r' u' (rw ej at e) run.runs.job_own)
          | no ne ↦ jobs_other j r' u' l (sym (run.runs.job_other j l ne) ∙ e)
        ];
    capped = capped';
    loaded = loaded' (P.isHigh i) refl;
  }

  -- the served job counts towards V
  new_after : (V σ : ℕ) → σ ≤ r → ((j r' u' : ℕ) → j < P.n → s.job j ≡ live r' u' → P.q * due P j r' u' ≤ V → σ ≤ r') → (j r' u' : ℕ) → j < P.n → s'.job j ≡ live r' u' → P.q * due P j r' u' ≤ V → σ ≤ r'
  new_after V σ from new j r' u' l e h =
      elim (ℕ_discrete j i) [
        | yes ej ↦ at_own (rw ej at e) run.runs.job_own
        | no ne ↦ new j r' u' l (sym (run.runs.job_other j l ne) ∙ e) h
      ]
    where
      at_own : s'.job i ≡ live r' u' → (s'.job i ≡ idle) ⊎ ((s'.job i ≡ live r (u + 1)) × (u + 1 < P.C i)) → σ ≤ r'
      at_own e (inl gone) = absurd (idle≢live r' u' gone e)
      at_own e (inr w) =
          let stays = w.0 in
          let er : r' ≡ r = cc in
          rw er from

  serve_a : (V : ℕ) → Low P s V → u < assured P i → P.q * due P i r u ≤ V → Low P s' V
  serve_a V led early counts = record {
    σ = led.σ;
    x = bump led.x i;
    y = led.y;
    total = omega (arith, led.total, run.runs.clock', sums);
    rowA = rowA';
    rowB = rowB';
    new = new_after V led.σ from led.new;
  }
    where
      from : led.σ ≤ r
      from = led.new i r u run.runs.below run.runs.pending counts

      sums : sum P.n (λ j. bump led.x i j + led.y j) ≡ sum P.n (λ j. led.x j + led.y j) + 1
      sums = sum_bump P.n (λ j. led.x j + led.y j) (λ j. bump led.x i j + led.y j) i run.runs.below
          (omega (arith, bump_own led.x i)) (λ j l ne. omega (arith, bump_other led.x i j ne))

      thr : P.q * r + P.p * P.T i ≤ V
      thr = omega (arith, counts, ap (λ z. P.q * z) (due_early P i r u early), ok.virtual i run.runs.below)

      a_own : Row P.q (P.T i) (cap P s' i) (P.p * P.T i) V led.σ (λ v. min v (assured P i)) (s'.job i) (s'.next i) (bump led.x i i)
      a_own =
          let before : Row P.q (P.T i) (cap P s i) (P.p * P.T i) V led.σ (λ v. min v (assured P i)) (live r u) (s.next i) (led.x i) = rw run.runs.pending at (led.rowA i run.runs.below) in
          let raised = row_raise _ _ _ _ _ _ _ (cap P s' i) _ _ _ before (cap_up i run.runs.below) in
          let served = row_serve _ _ _ _ _ _ _ r u _ _ raised (omega arith) from thr in
          row_own _ _ _ _ _ _ (P.C i) _ (s'.job i) r u (s.next i) (s'.next i) (led.x i + 1) (bump led.x i i) served run.runs.job_own held_own own.next_is (kept i run.runs.below) (bump_own led.x i)

      rowA' : (j : ℕ) → j < P.n → Row P.q (P.T j) (cap P s' j) (P.p * P.T j) V led.σ (λ v. min v (assured P j)) (s'.job j) (s'.next j) (bump led.x i j)
      rowA' j l =
          elim (ℕ_discrete j i) [
            | yes ej ↦ rw ej a_own
            | no ne ↦ row_move _ _ _ _ _ _ _ _ _ _ _ _ _ _ (led.rowA j l) (cap_up j l) (run.runs.job_other j l ne) (kept j l) (bump_other led.x i j ne)
          ]

      b_own : Row P.q (P.T i) (past P i) (P.q * P.T i) V led.σ (λ v. v - assured P i) (s'.job i) (s'.next i) (led.y i)
      b_own =
          let before : Row P.q (P.T i) (past P i) (P.q * P.T i) V led.σ (λ v. v - assured P i) (live r u) (s.next i) (led.y i) = rw run.runs.pending at (led.rowB i run.runs.below) in
          let passed = row_pass _ _ _ _ _ _ _ r u _ _ before (omega arith) in
          row_own _ _ _ _ _ _ (P.C i) _ (s'.job i) r u (s.next i) (s'.next i) (led.y i) (led.y i) passed run.runs.job_own (omega (arith, own.short)) own.next_is (kept i run.runs.below) refl

      rowB' : (j : ℕ) → j < P.n → Row P.q (P.T j) (past P j) (P.q * P.T j) V led.σ (λ v. v - assured P j) (s'.job j) (s'.next j) (led.y j)
      rowB' j l =
          elim (ℕ_discrete j i) [
            | yes ej ↦ rw ej b_own
            | no ne ↦ row_move _ _ _ _ _ _ _ _ _ _ _ _ _ _ (led.rowB j l) (omega arith) (run.runs.job_other j l ne) (kept j l) refl
          ]

  serve_b : (V : ℕ) → Low P s V → assured P i ≤ u → P.q * due P i r u ≤ V → Low P s' V
  serve_b V led late counts = record {
    σ = led.σ;
    x = led.x;
    y = bump led.y i;
    total = omega (arith, led.total, run.runs.clock', sums);
    rowA = rowA';
    rowB = rowB';
    new = new_after V led.σ from led.new;
  }
    where
      from : led.σ ≤ r
      from = led.new i r u run.runs.below run.runs.pending counts

      sums : sum P.n (λ j. led.x j + bump led.y i j) ≡ sum P.n (λ j. led.x j + led.y j) + 1
      sums = sum_bump P.n (λ j. led.x j + led.y j) (λ j. led.x j + bump led.y i j) i run.runs.below
          (omega (arith, bump_own led.y i)) (λ j l ne. omega (arith, bump_other led.y i j ne))

      thr : P.q * r + P.q * P.T i ≤ V
      thr = omega (arith, counts, ap (λ z. P.q * z) (due_late P i r u own.short late))

      a_own : Row P.q (P.T i) (cap P s' i) (P.p * P.T i) V led.σ (λ v. min v (assured P i)) (s'.job i) (s'.next i) (led.x i)
      a_own =
          let before : Row P.q (P.T i) (cap P s i) (P.p * P.T i) V led.σ (λ v. min v (assured P i)) (live r u) (s.next i) (led.x i) = rw run.runs.pending at (led.rowA i run.runs.below) in
          let raised = row_raise _ _ _ _ _ _ _ (cap P s' i) _ _ _ before (cap_up i run.runs.below) in
          let passed = row_pass _ _ _ _ _ _ _ r u _ _ raised (omega arith) in
          row_own _ _ _ _ _ _ (P.C i) _ (s'.job i) r u (s.next i) (s'.next i) (led.x i) (led.x i) passed run.runs.job_own held_own own.next_is (kept i run.runs.below) refl

      rowA' : (j : ℕ) → j < P.n → Row P.q (P.T j) (cap P s' j) (P.p * P.T j) V led.σ (λ v. min v (assured P j)) (s'.job j) (s'.next j) (led.x j)
      rowA' j l =
          elim (ℕ_discrete j i) [
            | yes ej ↦ rw ej a_own
            | no ne ↦ row_move _ _ _ _ _ _ _ _ _ _ _ _ _ _ (led.rowA j l) (cap_up j l) (run.runs.job_other j l ne) (kept j l) refl
          ]

      b_own : Row P.q (P.T i) (past P i) (P.q * P.T i) V led.σ (λ v. v - assured P i) (s'.job i) (s'.next i) (bump led.y i i)
      b_own =
          let before : Row P.q (P.T i) (past P i) (P.q * P.T i) V led.σ (λ v. v - assured P i) (live r u) (s.next i) (led.y i) = rw run.runs.pending at (led.rowB i run.runs.below) in
          let served = row_serve _ _ _ _ _ _ _ r u _ _ before (omega arith) from thr in
          row_own _ _ _ _ _ _ (P.C i) _ (s'.job i) r u (s.next i) (s'.next i) (led.y i + 1) (bump led.y i i) served run.runs.job_own (omega (arith, own.short)) own.next_is (kept i run.runs.below) (bump_own led.y i)

      rowB' : (j : ℕ) → j < P.n → Row P.q (P.T j) (past P j) (P.q * P.T j) V led.σ (λ v. v - assured P j) (s'.job j) (s'.next j) (bump led.y i j)
      rowB' j l =
          elim (ℕ_discrete j i) [
            | yes ej ↦ rw ej b_own
            | no ne ↦ row_move _ _ _ _ _ _ _ _ _ _ _ _ _ _ (led.rowB j l) (omega arith) (run.runs.job_other j l ne) (kept j l) (bump_other led.y i j ne)
          ]

  reset : (V : ℕ) → V < P.q * due P i r u → Low P s' V
  reset V over = low_fresh P s' V none
    where
      at_own : (r' u' : ℕ) → s'.job i ≡ live r' u' → P.q * due P i r' u' ≤ V → (s'.job i ≡ idle) ⊎ ((s'.job i ≡ live r (u + 1)) × (u + 1 < P.C i)) → ⊥
      at_own r' u' e h (inl gone) = idle≢live r' u' gone e
      at_own r' u' e h (inr w) =
          let stays = w.0 in
          let er : r' ≡ r = cc in
          let eu : u' ≡ u + 1 = cc in
          let h' : P.q * due P i r (u + 1) ≤ V = rw (er, eu) at h in
          omega (arith, mul-le-mul_left P.q (due_grows P ok i r u run.runs.below))

      none : (j r' u' : ℕ) → j < P.n → s'.job j ≡ live r' u' → P.q * due P j r' u' ≤ V → ⊥
      none j r' u' l e h =
          elim (ℕ_discrete j i) [
            | yes ej ↦ at_own r' u' (rw ej at e) (rw ej at h) run.runs.job_own
            | no ne ↦ omega (arith, mul-le-mul_left P.q (run.first j r' u' l (sym (run.runs.job_other j l ne) ∙ e)))
          ]

  pub low_ledger : (V : ℕ) → Low P s V → Low P s' V
  low_ledger V led =
      elim (dec_le (P.q * due P i r u) V) [
        | yes counts ↦
            elim (dec_le (assured P i) u) [
              | yes late ↦ serve_b V led late counts
              | no early ↦ serve_a V led (omega arith) counts
            ]
        | no over ↦ reset V (omega arith)
      ]
