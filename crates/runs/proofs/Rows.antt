-- One stream of work of one task in a window that begins at σ: what it may have had, and how that changes.
--
use Rattle.std.proofs.Common.{◌≡◌, ℕ, ◌+◌, ◌-◌, ◌*◌, ◌<◌, ◌≤◌, ◌⊎◌, refl, inl, inr, mul-le-mul_left, arith}
use Rattle.runs.proofs.Machine.{Pend, idle, live}

-- two orders multiplied crosswise
cross_by : (a k x y : ℕ) → x ≤ y → (a + k) * x + a * y ≤ (a + k) * y + a * x
cross_by a k x y h = omega (arith, mul-le-mul_left k h)

pub cross : (a b x y : ℕ) → a ≤ b → x ≤ y → b * x + a * y ≤ b * y + a * x
cross a b x y le h =
    let e : b ≡ a + (b - a) = omega arith in
    rw e (cross_by a (b - a) x y h)

abbrev pub arrival : Pend → ℕ
arrival idle = 0
arrival (live r u) = r

abbrev pub had : Pend → ℕ
had idle = 0
had (live r u) = u

-- where the next piece of work can begin
abbrev pub fence : Pend → ℕ → ℕ
fence idle N = N
fence (live r u) N = r

pub data Row (q T c y V σ : ℕ) (spent : ℕ → ℕ) (J : Pend) (N m : ℕ) : Type 0 where
  empty : m ≡ 0 → Row q T c y V σ spent J N m
  old : (ℓ : ℕ) → σ ≤ ℓ → T * m + c * σ ≤ c * ℓ + T * c → q * ℓ + y ≤ V → ℓ + T ≤ fence J N → Row q T c y V σ spent J N m
  cur : (r u : ℕ) → J ≡ live r u → σ ≤ r → T * m + c * σ ≤ c * r + T * spent u → q * r + y ≤ V → Row q T c y V σ spent J N m

module _ (q T c y V σ : ℕ) (spent : ℕ → ℕ) where
  -- the job has a tick of this stream
  pub row_serve : (r u N m : ℕ) → Row q T c y V σ spent (live r u) N m → spent (u + 1) ≡ spent u + 1 → σ ≤ r → q * r + y ≤ V → Row q T c y V σ spent (live r (u + 1)) N (m + 1)
  row_serve r u N m (empty e) more from thr =
      cur r (u + 1) refl from
      (rw (more, e) (omega (arith, mul-le-mul_left c from)))
      thr
  row_serve r u N m (old ℓ s b t f) more from thr =
      cur r (u + 1) refl from
      (rw more (omega (arith, mul-le-mul_left c f)))
      thr
  row_serve r u N m (cur r' u' e s b t) more from thr =
      let er : r ≡ r' = cc in
      let eu : u ≡ u' = cc in
      cur r (u + 1) refl from
      (rw (more, er, eu) (omega arith))
      thr

  -- it has a tick of the other stream
  pub row_pass : (r u N m : ℕ) → Row q T c y V σ spent (live r u) N m → spent (u + 1) ≡ spent u → Row q T c y V σ spent (live r (u + 1)) N m
  row_pass r u N m (empty e) same = empty e
  row_pass r u N m (old ℓ s b t f) same = old ℓ s b t f
  row_pass r u N m (cur r' u' e s b t) same =
      let er : r ≡ r' = cc in
      let eu : u ≡ u' = cc in
      cur r (u + 1) refl (rw er s) (rw (same, er, eu) b) (rw er t)

  -- it goes
  pub row_drop : (r u N m : ℕ) → Row q T c y V σ spent (live r u) N m → spent u ≤ c → N ≡ r + T → Row q T c y V σ spent idle N m
  row_drop r u N m (empty e) most next = empty e
  row_drop r u N m (old ℓ s b t f) most next = old ℓ s b t (omega arith)
  row_drop r u N m (cur r' u' e s b t) most next =
      let er : r ≡ r' = cc in
      let eu : u ≡ u' = cc in
      let h : spent u' ≤ c = rw (← eu) most in
      old r' s (omega (arith, mul-le-mul_left T h)) t (omega arith)

  pub row_arrive : (now N N' m : ℕ) → Row q T c y V σ spent idle N m → N ≤ now → Row q T c y V σ spent (live now 0) N' m
  row_arrive now N N' m (empty e) le = empty e
  row_arrive now N N' m (old ℓ s b t f) le = old ℓ s b t (omega arith)
  row_arrive now N N' m (cur r' u' e s b t) le =
      let z : ◌≡◌ {A = ℕ} 0 1 = cc in absurd (omega arith)

  -- its cap is raised
  pub row_raise : (c' : ℕ) (J : Pend) (N m : ℕ) → Row q T c y V σ spent J N m → c ≤ c' → Row q T c' y V σ spent J N m
  row_raise c' J N m (empty e) le = empty e
  row_raise c' J N m (old ℓ s b t f) le = old ℓ s (omega (arith, cross c c' σ ℓ le s, mul-le-mul_left T le)) t f
  row_raise c' J N m (cur r u e s b t) le = cur r u e s (omega (arith, cross c c' σ r le s)) t

-- what a row comes to, at the threshold p: high, or below its assured run
pub row_most : (q p T c V σ : ℕ) (spent : ℕ → ℕ) (J : Pend) (N m : ℕ) → Row q T c (p * T) V σ spent J N m → p ≤ q → q * σ ≤ V → ((r u : ℕ) → J ≡ live r u → spent u ≤ c) → p * (T * m) + c * (q * σ) ≤ c * V
row_most q p T c V σ spent J N m row pq sv most = go row
  where
    body : (ℓ k : ℕ) → σ ≤ ℓ → k ≤ T * c → T * m + c * σ ≤ c * ℓ + k → q * ℓ + p * T ≤ V → p * (T * m) + c * (q * σ) ≤ c * V
    body ℓ k s kk b t = omega (arith, mul-le-mul_left p b, mul-le-mul_left p kk, mul-le-mul_left c t, mul-le-mul_left c (cross p q σ ℓ pq s))

    go : Row q T c (p * T) V σ spent J N m → p * (T * m) + c * (q * σ) ≤ c * V
    go (empty e) = rw e (omega (arith, mul-le-mul_left c sv))
    go (old ℓ s b t f) = body ℓ (T * c) s (omega arith) b t
    go (cur r u e s b t) = body r (T * spent u) s (mul-le-mul_left T (most r u e)) b t

-- the same row, at equal parts
pub row_move : (q T c c' y V σ : ℕ) (spent : ℕ → ℕ) (J J' : Pend) (N N' m m' : ℕ) → Row q T c y V σ spent J N m → c ≤ c' → J' ≡ J → N' ≡ N → m' ≡ m → Row q T c' y V σ spent J' N' m'
row_move q T c c' y V σ spent J J' N N' m m' row le eJ eN em = rw (eJ, eN, em) (row_raise q T c y V σ spent c' J N m row le)

-- the job that was served goes on, or ends
pub row_own : (q T c y V σ most : ℕ) (spent : ℕ → ℕ) (J' : Pend) (r u N N' m m' : ℕ) → Row q T c y V σ spent (live r (u + 1)) N m → (J' ≡ idle) ⊎ ((J' ≡ live r (u + 1)) × (u + 1 < most))
    → spent (u + 1) ≤ c → N ≡ r + T → N' ≡ N → m' ≡ m → Row q T c y V σ spent J' N' m'
row_own q T c y V σ most spent J' r u N N' m m' row (inl e) le eN eN' em = rw (e, eN', em) (row_drop q T c y V σ spent r (u + 1) N m row le eN)
row_own q T c y V σ most spent J' r u N N' m m' row (inr w) le eN eN' em = rw (w.0, eN', em) row
