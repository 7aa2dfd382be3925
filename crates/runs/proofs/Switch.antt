-- At the switch the low ledgers give the high ones.
use Rattle.std.proofs.Common.{◌≡◌, ℕ, zero, suc, ◌+◌, ◌-◌, ◌*◌, ◌<◌, ◌≤◌, ◌⊎◌, sym, refl, ◌∙◌, inl, inr, mul-le-mul_left, arith}
use native.Mathlib.Decide.{ℕ_discrete, dec_le}
use Rattle.runs.proofs.Machine.{Table, Accepted, State, assured, due, Switches}
use Rattle.runs.proofs.Machine.{Pend, idle, live}
use Rattle.runs.specs.declared.answer.Mode.TheVariants.{Low as low}
use Rattle.runs.proofs.Rows.{Row, row_drop, row_move, row_most}
use Rattle.runs.proofs.HighRows.{HRow, hrow_from}
use Rattle.runs.proofs.Ledgers.{cap, past, Facts, Low, High, cap_same, capped_same, loaded_same, due_early}
use Rattle.runs.proofs.LowKeeps.{low≢high, idle≢live}

-- the first arrival of the jobs that are due by d, or t if that is before
record Pick (n : ℕ) (T : ℕ → ℕ) (d t : ℕ) (job : ℕ → Pend) : Type 0 where
  a : ℕ
  top : a ≤ t
  all : (j r u : ℕ) → j < n → job j ≡ live r u → r + T j ≤ d → a ≤ r
  is : (a ≡ t) ⊎ ((j : ℕ) × (r : ℕ) × (u : ℕ) × (j < n) × (job j ≡ live r u) × (r + T j ≤ d) × (a ≡ r))

module _ (k : ℕ) (T : ℕ → ℕ) (d t : ℕ) (job : ℕ → Pend) (p : Pick k T d t job) where
  pick_same : ((r u : ℕ) → job k ≡ live r u → r + T k ≤ d → p.a ≤ r) → Pick (suc k) T d t job
  pick_same here = record {
    a = p.a;
    top = p.top;
    all = λ j r u l e h.
        elim (ℕ_discrete j k) [
          | yes ej ↦ here r u (rw ej at e) (rw ej at h)
          | no ne ↦ p.all j r u (omega arith) e h
        ];
    is = elim p.is [
      | inl e ↦ inl e
      | inr w ↦ inr (w.0, w.1, w.2, omega (arith, w.3), w.4, w.5, w.6)
    ];
  }

  pick_new : (r u : ℕ) → job k ≡ live r u → r + T k ≤ d → r < p.a → Pick (suc k) T d t job
  pick_new r u here due less = record {
    a = r;
    top = omega (arith, p.top);
    all = λ j r' u' l e h.
        elim (ℕ_discrete j k) [
          | yes ej ↦ let e' : job k ≡ live r' u' = rw ej at e in let er : r ≡ r' = cc in omega arith
          | no ne ↦ omega (arith, p.all j r' u' (omega arith) e h)
        ];
    is = inr (k, r, u, omega arith, here, due, refl);
  }

  pick_more : (J : Pend) → job k ≡ J → Pick (suc k) T d t job
  pick_more idle e = pick_same (λ r u e' h. absurd (idle≢live r u e e'))
  pick_more (live r u) e =
      elim (dec_le (r + T k) d) [
        | yes due ↦
            elim (dec_le p.a r) [
              | yes more ↦ pick_same (λ r' u' e' h. let er : r ≡ r' = cc in omega arith)
              | no less ↦ pick_new r u e due (omega arith)
            ]
        | no late ↦ pick_same (λ r' u' e' h. let er : r ≡ r' = cc in absurd (omega arith))
      ]

pick : (n : ℕ) (T : ℕ → ℕ) (d t : ℕ) (job : ℕ → Pend) → Pick n T d t job
pick zero T d t job = record { a = t; top = omega arith; all = λ j r u l e h. absurd (omega arith); is = inl refl }
pick (suc k) T d t job = pick_more k T d t job (pick k T d t job) (job k) refl

due_fits : (q p T D r a δ : ℕ) → q * D ≡ p * T → a ≡ r → T ≤ δ → q * (r + D) ≤ q * a + p * δ
due_fits q p T D r a δ eD ea le = rw ea (omega (arith, mul-le-mul_left p le))

module _ (P : Table) (ok : Accepted P) (s s' : State) (h : Switches P s s') (f : Facts P s) (lowly : s.mode ≡ low) where
  kept : (j : ℕ) → j < P.n → s'.next j ≡ s.next j
  kept j l = h.next' j l

  -- what is pending after the switch was pending before it
  survives : (j r u : ℕ) → j < P.n → s'.job j ≡ live r u → (s.job j ≡ live r u) × (u < assured P j)
  survives j r u l e = go (s.job j) refl
    where
      go : (J : Pend) → s.job j ≡ J → (s.job j ≡ live r u) × (u < assured P j)
      go idle was = absurd (idle≢live r u (h.none j l was) e)
      go (live r' u') was =
          elim (dec_le (assured P j) u') [
            | yes late ↦ absurd (idle≢live r u (h.gone j r' u' l was late) e)
            | no early ↦
                let kept = h.kept j r' u' l was (omega arith) in
                let er : r ≡ r' = cc in
                let eu : u ≡ u' = cc in
                (rw (er, eu) was, omega arith)
          ]

  pub switch_facts : Facts P s'
  switch_facts = record {
    jobs = λ j r u l e.
        let both = survives j r u l e in
        let was = f.jobs j r u l both.0 in
        record {
          since = omega (arith, was.since, h.clock');
          next_is = kept j l ∙ was.next_is;
          short = was.short;
          held = λ m. absurd (low≢high m h.mode');
          within = λ _. both.1;
        };
    capped = capped_same P s s' h.longest' f;
    loaded = loaded_same P s s' h.longest' f;
  }

  -- a row loses its job, or keeps it
  drop_row : (c y V σ : ℕ) (spent : ℕ → ℕ) (j m : ℕ) → j < P.n → Row P.q (P.T j) c y V σ spent (s.job j) (s.next j) m → ((r u : ℕ) → s.job j ≡ live r u → spent u ≤ c) → Row P.q (P.T j) c y V σ spent (s'.job j) (s'.next j) m
  drop_row c y V σ spent j m l row most = go (s.job j) refl
    where
      go : (J : Pend) → s.job j ≡ J → Row P.q (P.T j) c y V σ spent (s'.job j) (s'.next j) m
      go idle was = row_move _ _ _ _ _ _ _ _ _ _ _ _ _ _ row (omega arith) (h.none j l was ∙ sym was) (kept j l) refl
      go (live r u) was =
          elim (dec_le (assured P j) u) [
            | yes late ↦
                rw (h.gone j r u l was late, kept j l)
                (row_drop _ _ _ _ _ _ _ r u (s.next j) m (rw was at row) (most r u was) (f.jobs j r u l was).next_is)
            | no early ↦ row_move _ _ _ _ _ _ _ _ _ _ _ _ _ _ row (omega arith) (h.kept j r u l was (omega arith) ∙ sym was) (kept j l) refl
          ]

  -- the window's start is no later than the pick
  starts : (d δ : ℕ) (c : Pick P.n P.T d s.clock s'.job) → c.a + δ ≡ d → (led : Low P s (P.q * c.a + P.p * δ)) → led.σ ≤ c.a
  starts d δ c ends led = go c.is
    where
      go : (c.a ≡ s.clock) ⊎ ((j : ℕ) × (r : ℕ) × (u : ℕ) × (j < P.n) × (s'.job j ≡ live r u) × (r + P.T j ≤ d) × (c.a ≡ r)) → led.σ ≤ c.a
      go (inl e) = omega (arith, led.total)
      go (inr w) =
          let j = w.0 in
          let r = w.1 in
          let u = w.2 in
          let both = survives j r u w.3 w.4 in
          let fits = due_fits P.q P.p (P.T j) (P.D j) r c.a δ (ok.virtual j w.3) w.6 (omega (arith, w.5, w.6, ends)) in
          omega (arith, w.6, led.new j r u w.3 both.0 (rw (due_early P j r u both.1) fits))

  pub switch_high : (d : ℕ) → s.clock ≤ d → ((V : ℕ) → Low P s V) → High P s' d
  switch_high d td lows = record {
    σ = led.σ;
    a = c.a;
    δ = d - c.a;
    x = led.x;
    y = led.y;
    σ≤a = σ≤a;
    a≤t = omega (arith, c.top, h.clock');
    ends = ends;
    total = led.total ∙ sym h.clock';
    rowA = rowA';
    rowB = rowB';
    new = c.all;
  }
    where
      c : Pick P.n P.T d s.clock s'.job
      c = pick P.n P.T d s.clock s'.job

      ends : c.a + (d - c.a) ≡ d
      ends = omega (arith, c.top)

      led : Low P s (P.q * c.a + P.p * (d - c.a))
      led = lows (P.q * c.a + P.p * (d - c.a))

      σ≤a : led.σ ≤ c.a
      σ≤a = starts d (d - c.a) c ends led

      rowA' : (j : ℕ) → j < P.n → HRow P.q P.p (P.T j) (cap P s' j) (assured P j) led.σ c.a (d - c.a) (s'.job j) (s'.next j) (led.x j)
      rowA' j l =
          rw (cap_same P s s' h.longest' j l)
          (hrow_from _ _ _ _ _ _ _ _ _ _ _
          (drop_row _ _ _ _ _ j (led.x j) l (led.rowA j l) (λ r u e. (f.jobs j r u l e).held lowly))
          ok.p_pos ok.p≤q (f.capped j l)
          (λ r u e. let both = survives j r u l e in (both.1, omega (arith, (f.jobs j r u l both.0).held lowly))))

      rowB' : (j : ℕ) → j < P.n → P.q * (P.T j * led.y j) + past P j * (P.q * led.σ) ≤ past P j * (P.q * c.a + P.p * (d - c.a))
      rowB' j l =
          row_most P.q P.q (P.T j) (past P j) (P.q * c.a + P.p * (d - c.a)) led.σ _ _ _ (led.y j) (led.rowB j l) (omega arith)
          (omega (arith, mul-le-mul_left P.q σ≤a))
          (λ r u e. omega (arith, (f.jobs j r u l e).short))
