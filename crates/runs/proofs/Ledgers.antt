-- What is kept of a state, and the two ledgers.
use Rattle.std.proofs.Common.{◌≡◌, ℕ, ◌+◌, ◌-◌, ◌*◌, ◌<◌, ◌≤◌, min, Bool, true, false, cond, ltb, refl, ap, mul-le-mul_right, mul-le-mul_left, arith, le-ltb, lt-ltb}
use native.Mathlib.Nat.{le_of_mul-le-mul_left}
use native.Mathlib.Decide.{dec_le}
use Rattle.table.specs.Sums.{sum}
use Rattle.runs.proofs.Machine.{Table, Accepted, State, assured, due, load, lowAssured, lowRest, highWorst}
use Rattle.runs.proofs.Machine.{live}
use Rattle.runs.specs.declared.answer.Mode.TheVariants.{Low as low, High as high}
use Rattle.runs.proofs.Sums.{sum_add, sum_same}
use Rattle.runs.proofs.Rows.{Row}
use Rattle.runs.proofs.HighRows.{HRow}

-- what the rows of task i may have of a stream: the first, and what is past the assured run
abbrev pub cap : Table → State → ℕ → ℕ
cap P s i = cond (P.isHigh i) (s.longest i) (P.g i)

abbrev pub past : Table → ℕ → ℕ
past P i = P.C i - assured P i

pub record JobFacts (P : Table) (s : State) (i r u : ℕ) : Type 0 where
  pub since : r ≤ s.clock
  pub next_is : s.next i ≡ r + P.T i
  pub short : u < P.C i
  pub held : s.mode ≡ low → min u (assured P i) ≤ cap P s i
  pub within : s.mode ≡ high → u < assured P i

pub record Facts (P : Table) (s : State) : Type 0 where
  pub jobs : (i r u : ℕ) → i < P.n → s.job i ≡ live r u → JobFacts P s i r u
  pub capped : (i : ℕ) → i < P.n → cap P s i ≤ assured P i
  pub loaded : load P s.longest ≤ P.B

pub record Low (P : Table) (s : State) (V : ℕ) : Type 0 where
  pub σ : ℕ
  pub x : ℕ → ℕ
  pub y : ℕ → ℕ
  pub total : σ + sum P.n (λ i. x i + y i) ≡ s.clock
  pub rowA : (i : ℕ) → i < P.n → Row P.q (P.T i) (cap P s i) (P.p * P.T i) V σ (λ u. min u (assured P i)) (s.job i) (s.next i) (x i)
  pub rowB : (i : ℕ) → i < P.n → Row P.q (P.T i) (past P i) (P.q * P.T i) V σ (λ u. u - assured P i) (s.job i) (s.next i) (y i)
  pub new : (i r u : ℕ) → i < P.n → s.job i ≡ live r u → P.q * due P i r u ≤ V → σ ≤ r

pub record High (P : Table) (s : State) (d : ℕ) : Type 0 where
  pub σ : ℕ
  pub a : ℕ
  pub δ : ℕ
  pub x : ℕ → ℕ
  pub y : ℕ → ℕ
  pub σ≤a : σ ≤ a
  pub a≤t : a ≤ s.clock
  pub ends : a + δ ≡ d
  pub total : σ + sum P.n (λ i. x i + y i) ≡ s.clock
  pub rowA : (i : ℕ) → i < P.n → HRow P.q P.p (P.T i) (cap P s i) (assured P i) σ a δ (s.job i) (s.next i) (x i)
  pub rowB : (i : ℕ) → i < P.n → P.q * (P.T i * y i) + past P i * (P.q * σ) ≤ past P i * (P.q * a + P.p * δ)
  pub new : (i r u : ℕ) → i < P.n → s.job i ≡ live r u → r + P.T i ≤ d → a ≤ r

pub record Inv (P : Table) (s : State) : Type 0 where
  pub facts : Facts P s
  pub lows : s.mode ≡ low → (V : ℕ) → Low P s V
  pub highs : s.mode ≡ high → (d : ℕ) → s.clock ≤ d → High P s d

-- the table's numbers

assured_of : (b : Bool) (C g : ℕ) → g ≤ C → cond b C g ≤ C
assured_of true C g h = omega arith
assured_of false C g h = h

pub assured≤C : (P : Table) → Accepted P → (i : ℕ) → i < P.n → assured P i ≤ P.C i
assured≤C P ok i l = assured_of (P.isHigh i) (P.C i) (P.g i) (ok.g≤C i l)

weigh : (b : Bool) (w x y : ℕ) → w * cond b x y ≡ cond b (w * x) 0 + cond b 0 (w * y)
weigh true w x y = omega arith
weigh false w x y = omega arith

weigh_past : (b : Bool) (w C g : ℕ) → w * (C - cond b C g) ≡ cond b 0 (w * (C - g))
weigh_past true w C g =
    let e : C - C ≡ 0 = omega arith in rw e (omega arith)
weigh_past false w C g = refl

pub sum_cap : (P : Table) (s : State) → sum P.n (λ i. P.w i * cap P s i) ≡ load P s.longest + lowAssured P
sum_cap P s = sum_add P.n _ _ _ (λ i l. weigh (P.isHigh i) (P.w i) (s.longest i) (P.g i))

pub sum_assured : (P : Table) → sum P.n (λ i. P.w i * assured P i) ≡ highWorst P + lowAssured P
sum_assured P = sum_add P.n _ _ _ (λ i l. weigh (P.isHigh i) (P.w i) (P.C i) (P.g i))

pub sum_past : (P : Table) → sum P.n (λ i. P.w i * past P i) ≡ lowRest P
sum_past P = sum_same P.n _ _ (λ i l. weigh_past (P.isHigh i) (P.w i) (P.C i) (P.g i))

pub low_room : (P : Table) → Accepted P → (s : State) → Facts P s → P.q * sum P.n (λ i. P.w i * cap P s i) + P.p * sum P.n (λ i. P.w i * past P i) ≤ P.p * P.H
low_room P ok s f =
    rw (sum_cap P s, sum_past P) (omega (arith, ok.low_test, mul-le-mul_left P.q f.loaded))

pub high_room : (P : Table) → Accepted P → P.q * sum P.n (λ i. P.w i * assured P i) + P.p * sum P.n (λ i. P.w i * past P i) ≤ P.q * P.H
high_room P ok = rw (sum_assured P, sum_past P) (omega (arith, ok.high_test))

-- deadlines

early_of : (b : Bool) (u C g x y : ℕ) → u < cond b C g → cond b x (cond (ltb u g) x y) ≡ x
early_of true u C g x y h = refl
early_of false u C g x y h = ap (λ t. cond t x y) (lt-ltb u g h)

late_of : (b : Bool) (u C g x y : ℕ) → u < C → cond b C g ≤ u → cond b x (cond (ltb u g) x y) ≡ y
late_of true u C g x y short h = absurd (omega arith)
late_of false u C g x y short h = ap (λ t. cond t x y) (le-ltb u g h)

grows_from : (t : Bool) (x y : ℕ) → x ≤ y → x ≤ cond t x y
grows_from true x y h = omega arith
grows_from false x y h = h

pub due_early : (P : Table) (i r u : ℕ) → u < assured P i → due P i r u ≡ r + P.D i
due_early P i r u h = early_of (P.isHigh i) u (P.C i) (P.g i) (r + P.D i) (r + P.T i) h

pub due_late : (P : Table) (i r u : ℕ) → u < P.C i → assured P i ≤ u → due P i r u ≡ r + P.T i
due_late P i r u short h = late_of (P.isHigh i) u (P.C i) (P.g i) (r + P.D i) (r + P.T i) short h

grows_of : (b : Bool) (u g x y : ℕ) → x ≤ y → cond b x (cond (ltb u g) x y) ≤ cond b x (cond (ltb (u + 1) g) x y)
grows_of true u g x y le = omega arith
grows_of false u g x y le =
    elim (dec_le g u) [
      | yes over ↦ rw (le-ltb u g over, le-ltb (u + 1) g (omega arith)) (omega arith)
      | no under ↦ rw (lt-ltb u g (omega arith)) (grows_from (ltb (u + 1) g) x y le)
    ]

pub D≤T : (P : Table) → Accepted P → (i : ℕ) → i < P.n → P.D i ≤ P.T i
D≤T P ok i l = le_of_mul-le-mul_left {k = P.q} (omega (arith, ok.virtual i l, mul-le-mul_right (P.T i) ok.p≤q)) (omega (arith, ok.p_pos, ok.p≤q))

pub due_grows : (P : Table) → Accepted P → (i r u : ℕ) → i < P.n → due P i r u ≤ due P i r (u + 1)
due_grows P ok i r u l = grows_of (P.isHigh i) u (P.g i) (r + P.D i) (r + P.T i) (omega (arith, D≤T P ok i l))

-- where the longest runs stay

pub cap_same : (P : Table) (s s' : State) → ((j : ℕ) → j < P.n → s'.longest j ≡ s.longest j) → (j : ℕ) → j < P.n → cap P s' j ≡ cap P s j
cap_same P s s' same j l = ap (λ z. cond (P.isHigh j) z (P.g j)) (same j l)

pub capped_same : (P : Table) (s s' : State) → ((j : ℕ) → j < P.n → s'.longest j ≡ s.longest j) → Facts P s → (j : ℕ) → j < P.n → cap P s' j ≤ assured P j
capped_same P s s' same f j l = rw (cap_same P s s' same j l) (f.capped j l)

pub loaded_same : (P : Table) (s s' : State) → ((j : ℕ) → j < P.n → s'.longest j ≡ s.longest j) → Facts P s → load P s'.longest ≤ P.B
loaded_same P s s' same f =
    let e : load P s'.longest ≡ load P s.longest = sum_same P.n _ _ (λ j l. ap (λ z. cond (P.isHigh j) (P.w j * z) 0) (same j l)) in
    omega (arith, e, f.loaded)
