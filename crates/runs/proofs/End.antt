-- A job as old as its period contradicts a ledger: one more tick of it would fit the rows and not the time.
use Rattle.std.proofs.Common.{◌≡◌, ℕ, ◌+◌, ◌-◌, ◌*◌, ◌<◌, ◌≤◌, cond, ltb, refl, ap, ◌∙◌, mul-le-mul_left, arith, le-ltb, lt-ltb}
use native.Mathlib.Decide.{ℕ_discrete, dec_le}
use Rattle.table.specs.Sums.{sum}
use Rattle.runs.specs.declared.answer.Mode.{Mode}
use Rattle.runs.proofs.Machine.{Table, Accepted, State, assured, due, Switches}
use Rattle.runs.proofs.Machine.{Pend, idle, live}
use Rattle.runs.specs.declared.answer.Mode.TheVariants.{Low as low, High as high}
use Rattle.runs.proofs.Sums.{sum_bump, bump, bump_own, bump_other}
use Rattle.runs.proofs.Rows.{Row, row_serve, row_most}
use Rattle.runs.proofs.HighRows.{HRow, hrow_serve, hrow_most}
use Rattle.runs.proofs.Capacity.{low_capacity, high_capacity}
use Rattle.runs.proofs.Ledgers.{cap, past, Facts, Low, High, Inv, low_room, high_room, due_late}
use Rattle.runs.proofs.Switch.{switch_facts, switch_high}

part_of : (p q T c g σ a δ m : ℕ) → σ ≤ a → p * (T * m) + q * (c * σ) ≤ q * (c * a) + p * (g * δ) → p * (T * m) ≤ q * (c * (a - σ)) + p * (g * δ)
part_of p q T c g σ a δ m le h =
    let e : a ≡ σ + (a - σ) = omega arith in
    omega (arith, ap (λ z. q * (c * z)) e, by (a - σ) (ap (λ z. q * (c * z)) e))
  where
    by : (X : ℕ) → q * (c * a) ≡ q * (c * (σ + X)) → p * (T * m) ≤ q * (c * X) + p * (g * δ)
    by X e = omega arith

past_of : (p q T e σ a δ m : ℕ) → σ ≤ a → q * (T * m) + e * (q * σ) ≤ e * (q * a + p * δ) → q * (T * m) ≤ e * (q * (a - σ) + p * δ)
past_of p q T e σ a δ m le h =
    let ea : a ≡ σ + (a - σ) = omega arith in
    by (a - σ) (ap (λ z. e * (q * z)) ea)
  where
    by : (X : ℕ) → e * (q * a) ≡ e * (q * (σ + X)) → q * (T * m) ≤ e * (q * X + p * δ)
    by X ex = omega arith

module _ (P : Table) (ok : Accepted P) (s : State) (f : Facts P s) (i r u : ℕ) (l : i < P.n) (pending : s.job i ≡ live r u) (late : r + P.T i ≤ s.clock) where
  pub high_end : s.mode ≡ high → High P s s.clock → ⊥
  high_end highly led = omega (arith, led.total, led.ends, led.σ≤a, sums, room)
    where
      from : led.a ≤ r
      from = led.new i r u l pending late

      sums : sum P.n (λ j. bump led.x i j + led.y j) ≡ sum P.n (λ j. led.x j + led.y j) + 1
      sums = sum_bump P.n (λ j. led.x j + led.y j) (λ j. bump led.x i j + led.y j) i l
          (omega (arith, bump_own led.x i)) (λ j k ne. omega (arith, bump_other led.x i j ne))

      own : HRow P.q P.p (P.T i) (cap P s i) (assured P i) led.σ led.a led.δ (live r (u + 1)) (s.next i) (led.x i + 1)
      own =
          let before : HRow P.q P.p (P.T i) (cap P s i) (assured P i) led.σ led.a led.δ (live r u) (s.next i) (led.x i) = rw pending at (led.rowA i l) in
          hrow_serve _ _ _ _ _ _ _ _ r u _ _ before led.σ≤a (f.capped i l) from (omega (arith, led.ends))

      most_own : (r' u' : ℕ) → live r (u + 1) ≡ live r' u' → u' ≤ assured P i
      most_own r' u' e =
          let eu : u + 1 ≡ u' = cc in
          omega (arith, (f.jobs i r u l pending).within highly)

      full : (j : ℕ) → j < P.n → P.p * (P.T j * bump led.x i j) + P.q * (cap P s j * led.σ) ≤ P.q * (cap P s j * led.a) + P.p * (assured P j * led.δ)
      full j k =
          elim (ℕ_discrete j i) [
            | yes ej ↦ rw (ej, bump_own led.x i) (hrow_most _ _ _ _ _ _ _ _ _ _ _ own ok.p≤q led.σ≤a (f.capped i l) most_own)
            | no ne ↦ rw (bump_other led.x i j ne) (hrow_most _ _ _ _ _ _ _ _ _ _ _ (led.rowA j k) ok.p≤q led.σ≤a (f.capped j k) (λ r' u' e. omega (arith, (f.jobs j r' u' k e).within highly)))
          ]

      room : sum P.n (λ j. bump led.x i j + led.y j) ≤ (led.a - led.σ) + led.δ
      room = high_capacity P.n P.p P.q P.H (led.a - led.σ) led.δ P.T P.w (cap P s) (assured P) (past P) (bump led.x i) led.y
          ok.p_pos (omega (arith, ok.p_pos, ok.p≤q)) ok.HPos ok.weight
          (λ j k. part_of P.p P.q (P.T j) (cap P s j) (assured P j) led.σ led.a led.δ (bump led.x i j) led.σ≤a (full j k))
          (λ j k. past_of P.p P.q (P.T j) (past P j) led.σ led.a led.δ (led.y j) led.σ≤a (led.rowB j k))
          (low_room P ok s f) (high_room P ok)

  pub late_end : s.mode ≡ low → assured P i ≤ u → Low P s (P.q * s.clock) → ⊥
  late_end lowly over led = omega (arith, ap (λ z. P.q * z) sums, room, ok.p_pos, ok.p≤q)
    where
      S : ℕ
      S = sum P.n (λ j. led.x j + led.y j)

      fits : P.q * due P i r u ≤ P.q * s.clock
      fits = rw (due_late P i r u (f.jobs i r u l pending).short over) (mul-le-mul_left P.q late)

      from : led.σ ≤ r
      from = led.new i r u l pending fits

      below : P.q * led.σ ≤ P.q * s.clock
      below = mul-le-mul_left P.q (omega (arith, led.total))

      sums : sum P.n (λ j. led.x j + bump led.y i j) ≡ S + 1
      sums = sum_bump P.n (λ j. led.x j + led.y j) (λ j. led.x j + bump led.y i j) i l
          (omega (arith, bump_own led.y i)) (λ j k ne. omega (arith, bump_other led.y i j ne))

      own : Row P.q (P.T i) (past P i) (P.q * P.T i) (P.q * s.clock) led.σ (λ v. v - assured P i) (live r (u + 1)) (s.next i) (led.y i + 1)
      own =
          let before : Row P.q (P.T i) (past P i) (P.q * P.T i) (P.q * s.clock) led.σ (λ v. v - assured P i) (live r u) (s.next i) (led.y i) = rw pending at (led.rowB i l) in
          row_serve _ _ _ _ _ _ _ r u _ _ before (omega arith) from (omega (arith, mul-le-mul_left P.q late))

      most_own : (r' u' : ℕ) → live r (u + 1) ≡ live r' u' → u' - assured P i ≤ past P i
      most_own r' u' e =
          let eu : u + 1 ≡ u' = cc in
          omega (arith, (f.jobs i r u l pending).short)

      part : (k c m : ℕ) → k * m + c * (P.q * led.σ) ≤ c * (P.q * s.clock) → k * m ≤ c * (P.q * S)
      part k c m h = omega (arith, ap (λ z. c * (P.q * z)) led.total)

      rowA' : (j : ℕ) → j < P.n → P.p * (P.T j * led.x j) ≤ cap P s j * (P.q * S)
      rowA' j k = part P.p (cap P s j) (P.T j * led.x j)
          (row_most _ _ _ _ _ _ _ _ _ _ (led.rowA j k) ok.p≤q below (λ r' u' e. (f.jobs j r' u' k e).held lowly))

      rowB' : (j : ℕ) → j < P.n → P.q * (P.T j * bump led.y i j) ≤ past P j * (P.q * S)
      rowB' j k =
          elim (ℕ_discrete j i) [
            | yes ej ↦ rw (ej, bump_own led.y i) (part P.q (past P i) (P.T i * (led.y i + 1)) (row_most _ _ _ _ _ _ _ _ _ _ own (omega arith) below most_own))
            | no ne ↦ rw (bump_other led.y i j ne) (part P.q (past P j) (P.T j * led.y j) (row_most _ _ _ _ _ _ _ _ _ _ (led.rowB j k) (omega arith) below (λ r' u' e. omega (arith, (f.jobs j r' u' k e).short))))
          ]

      room : P.q * sum P.n (λ j. led.x j + bump led.y i j) ≤ P.q * S
      room = low_capacity P.n P.p P.q P.H (P.q * S) P.T P.w (cap P s) (past P) led.x (bump led.y i)
          ok.p_pos ok.HPos ok.weight rowA' rowB' (low_room P ok s f)

-- the state that a switch would lead to
survivor : ℕ → Pend → Pend
survivor a idle = idle
survivor a (live r u) = cond (ltb u a) (live r u) idle

switched : Table → State → State
switched P s = record {
  clock = s.clock;
  mode = high;
  job = λ j. survivor (assured P j) (s.job j);
  next = s.next;
  longest = s.longest;
}

switched_is : (P : Table) (s : State) → Switches P s (switched P s)
unfolding switched survivor
switched_is P s = record {
  clock' = refl;
  mode' = refl;
  kept = λ j r u l e h. ap (survivor (assured P j)) e ∙ ap (λ b. cond b (live r u) idle) (lt-ltb u (assured P j) h);
  gone = λ j r u l e h. ap (survivor (assured P j)) e ∙ ap (λ b. cond b (live r u) idle) (le-ltb u (assured P j) h);
  none = λ j l e. ap (survivor (assured P j)) e;
  next' = λ j l. refl;
  longest' = λ j l. refl;
}

pub age : (P : Table) → Accepted P → (s : State) → Inv P s → (i r u : ℕ) → i < P.n → s.job i ≡ live r u → s.clock < r + P.T i
age P ok s inv i r u l pending =
    elim (dec_le (r + P.T i) s.clock) [
      | yes late ↦ absurd (never late s.mode refl)
      | no young ↦ omega arith
    ]
  where
    assumed : s.mode ≡ low → r + P.T i ≤ s.clock → u < assured P i → ⊥
    assumed lowly late early =
        let sw = switched_is P s in
        high_end P ok (switched P s) (switch_facts P ok s (switched P s) sw inv.facts lowly) i r u l
        (sw.kept i r u l pending early) (rw sw.clock' late) sw.mode'
        (switch_high P ok s (switched P s) sw inv.facts lowly (switched P s).clock (omega (arith, sw.clock')) (inv.lows lowly))

    never : r + P.T i ≤ s.clock → (m : Mode) → s.mode ≡ m → ⊥
    never late low e =
        elim (dec_le (assured P i) u) [
          | yes over ↦ late_end P ok s inv.facts i r u l pending late e over (inv.lows e (P.q * s.clock))
          | no early ↦ assumed e late (omega arith)
        ]
    never late high e = high_end P ok s inv.facts i r u l pending late e (inv.highs e s.clock (omega arith))
