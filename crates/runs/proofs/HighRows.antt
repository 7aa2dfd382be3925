-- One stream of work of one task in a window from σ with a switch in it: a is where the late part begins, and a + δ where it ends.
--
use Rattle.std.proofs.Common.{◌≡◌, ℕ, ◌+◌, ◌*◌, ◌<◌, ◌≤◌, min, ◌⊎◌, refl, inl, inr, mul-le-mul_left, arith}
use native.Mathlib.Nat.{le_of_mul-le-mul_left}
use native.Mathlib.Decide.{dec_le}
use Rattle.runs.proofs.Machine.{Pend, idle, live}
use Rattle.runs.proofs.Rows.{Row, cross, fence}

pub data HRow (q p T c g σ a δ : ℕ) (J : Pend) (N m : ℕ) : Type 0 where
  empty : m ≡ 0 → HRow q p T c g σ a δ J N m
  early : (ℓ : ℕ) → ℓ < a → σ ≤ ℓ → T * m + c * σ ≤ c * ℓ + T * c → q * ℓ + p * T ≤ q * a + p * δ → ℓ + T ≤ fence J N → HRow q p T c g σ a δ J N m
  stale : (ℓ u : ℕ) → J ≡ live ℓ u → ℓ < a → σ ≤ ℓ → T * m + c * σ ≤ c * ℓ + T * c → q * ℓ + p * T ≤ q * a + p * δ → HRow q p T c g σ a δ J N m
  late : (ℓ : ℕ) → a ≤ ℓ → T * m + c * σ + g * a ≤ c * a + g * ℓ + T * g → ℓ + T ≤ a + δ → ℓ + T ≤ fence J N → HRow q p T c g σ a δ J N m
  fresh : (r u : ℕ) → J ≡ live r u → a ≤ r → T * m + c * σ + g * a ≤ c * a + g * r + T * u → r + T ≤ a + δ → HRow q p T c g σ a δ J N m

module _ (q p T c g σ a δ : ℕ) where
  pub hrow_serve : (r u N m : ℕ) → HRow q p T c g σ a δ (live r u) N m → σ ≤ a → c ≤ g → a ≤ r → r + T ≤ a + δ → HRow q p T c g σ a δ (live r (u + 1)) N (m + 1)
  hrow_serve r u N m (empty e) sa cg from thr =
      fresh r (u + 1) refl from (rw e (omega (arith, mul-le-mul_left c sa, mul-le-mul_left g from))) thr
  hrow_serve r u N m (early ℓ la s b t f) sa cg from thr =
      fresh r (u + 1) refl from (omega (arith, mul-le-mul_left c f, cross c g a r cg from)) thr
  hrow_serve r u N m (stale ℓ v e la s b t) sa cg from thr =
      let er : r ≡ ℓ = cc in absurd (omega arith)
  hrow_serve r u N m (late ℓ al b t f) sa cg from thr =
      fresh r (u + 1) refl from (omega (arith, mul-le-mul_left g f)) thr
  hrow_serve r u N m (fresh r' u' e al b t) sa cg from thr =
      let er : r ≡ r' = cc in
      let eu : u ≡ u' = cc in
      fresh r (u + 1) refl from (rw (er, eu) (omega arith)) thr

  pub hrow_drop : (r u N m : ℕ) → HRow q p T c g σ a δ (live r u) N m → u ≤ g → N ≡ r + T → HRow q p T c g σ a δ idle N m
  hrow_drop r u N m (empty e) most next = empty e
  hrow_drop r u N m (early ℓ la s b t f) most next = early ℓ la s b t (omega arith)
  hrow_drop r u N m (stale ℓ v e la s b t) most next =
      let er : r ≡ ℓ = cc in early ℓ la s b t (omega arith)
  hrow_drop r u N m (late ℓ al b t f) most next = late ℓ al b t (omega arith)
  hrow_drop r u N m (fresh r' u' e al b t) most next =
      let er : r ≡ r' = cc in
      let eu : u ≡ u' = cc in
      let h : u' ≤ g = rw (← eu) most in
      late r' al (omega (arith, mul-le-mul_left T h)) t (omega arith)

  pub hrow_arrive : (now N N' m : ℕ) → HRow q p T c g σ a δ idle N m → N ≤ now → HRow q p T c g σ a δ (live now 0) N' m
  hrow_arrive now N N' m (empty e) le = empty e
  hrow_arrive now N N' m (early ℓ la s b t f) le = early ℓ la s b t (omega arith)
  hrow_arrive now N N' m (stale ℓ v e la s b t) le = let z : ◌≡◌ {A = ℕ} 0 1 = cc in absurd (omega arith)
  hrow_arrive now N N' m (late ℓ al b t f) le = late ℓ al b t (omega arith)
  hrow_arrive now N N' m (fresh r' u' e al b t) le = let z : ◌≡◌ {A = ℕ} 0 1 = cc in absurd (omega arith)

  late_most : (ℓ k m : ℕ) → p ≤ q → c * σ ≤ c * a → k ≤ T * g → T * m + c * σ + g * a ≤ c * a + g * ℓ + k → ℓ + T ≤ a + δ → p * (T * m) + q * (c * σ) ≤ q * (c * a) + p * (g * δ)
  late_most ℓ k m pq ca kk b t =
      omega (arith, mul-le-mul_left p b, mul-le-mul_left p kk, mul-le-mul_left (p * g) t, cross p q (c * σ) (c * a) pq ca)

  early_most : (ℓ m : ℕ) → p ≤ q → c ≤ g → σ ≤ ℓ → T * m + c * σ ≤ c * ℓ + T * c → q * ℓ + p * T ≤ q * a + p * δ → p * (T * m) + q * (c * σ) ≤ q * (c * a) + p * (g * δ)
  early_most ℓ m pq cg s b t =
      omega (arith, mul-le-mul_left p b, mul-le-mul_left c t, mul-le-mul_left c (cross p q σ ℓ pq s), mul-le-mul_left (p * δ) cg)

  pub hrow_most : (J : Pend) (N m : ℕ) → HRow q p T c g σ a δ J N m → p ≤ q → σ ≤ a → c ≤ g → ((r u : ℕ) → J ≡ live r u → u ≤ g) → p * (T * m) + q * (c * σ) ≤ q * (c * a) + p * (g * δ)
  hrow_most J N m (empty e) pq sa cg most = rw e (omega (arith, mul-le-mul_left (q * c) sa))
  hrow_most J N m (early ℓ la s b t f) pq sa cg most = early_most ℓ m pq cg s b t
  hrow_most J N m (stale ℓ v e la s b t) pq sa cg most = early_most ℓ m pq cg s b t
  hrow_most J N m (late ℓ al b t f) pq sa cg most = late_most ℓ (T * g) m pq (mul-le-mul_left c sa) (omega arith) b t
  hrow_most J N m (fresh r u e al b t) pq sa cg most = late_most r (T * u) m pq (mul-le-mul_left c sa) (mul-le-mul_left T (most r u e)) b t

  -- a threshold after a is one before a + δ
  ahead : (ℓ : ℕ) → 1 ≤ p → p ≤ q → a ≤ ℓ → q * ℓ + p * T ≤ q * a + p * δ → ℓ + T ≤ a + δ
  ahead ℓ one pq al t = le_of_mul-le-mul_left {k = p} (omega (arith, cross p q a ℓ pq al)) one

  pub hrow_from : (J : Pend) (N m : ℕ) → Row q T c (p * T) (q * a + p * δ) σ (λ u. min u g) J N m → 1 ≤ p → p ≤ q → c ≤ g → ((r u : ℕ) → J ≡ live r u → (u < g) × (u ≤ c)) → HRow q p T c g σ a δ J N m
  hrow_from J N m (Row.empty e) one pq cg most = empty e
  hrow_from J N m (Row.old ℓ s b t f) one pq cg most =
      elim (dec_le a ℓ) [
        | yes al ↦ late ℓ al (omega (arith, cross c g a ℓ cg al, mul-le-mul_left T cg)) (ahead ℓ one pq al t) f
        | no al ↦ early ℓ (omega arith) s b t f
      ]
  hrow_from J N m (Row.cur r u e s b t) one pq cg most =
      let both = most r u e in
      let em : min u g ≡ u = omega (arith, both.0) in
      let b' : T * m + c * σ ≤ c * r + T * u = rw em at b in
      elim (dec_le a r) [
        | yes al ↦ fresh r u e al (omega (arith, cross c g a r cg al)) (ahead r one pq al t)
        | no al ↦ stale r u e (omega arith) s (omega (arith, mul-le-mul_left T both.1)) t
      ]

-- the same row, at equal parts
pub hrow_move : (q p T c c' g σ a δ : ℕ) (J J' : Pend) (N N' m m' : ℕ) → HRow q p T c g σ a δ J N m → c' ≡ c → J' ≡ J → N' ≡ N → m' ≡ m → HRow q p T c' g σ a δ J' N' m'
hrow_move q p T c c' g σ a δ J J' N N' m m' row ec eJ eN em = rw (ec, eJ, eN, em) row

-- the job that was served goes on, or ends
pub hrow_own : (q p T c c' g σ a δ most : ℕ) (J' : Pend) (r u N N' m m' : ℕ) → HRow q p T c g σ a δ (live r (u + 1)) N m → (J' ≡ idle) ⊎ ((J' ≡ live r (u + 1)) × (u + 1 < most))
    → u + 1 ≤ g → N ≡ r + T → c' ≡ c → N' ≡ N → m' ≡ m → HRow q p T c' g σ a δ J' N' m'
hrow_own q p T c c' g σ a δ most J' r u N N' m m' row (inl e) le eN ec eN' em = rw (ec, e, eN', em) (hrow_drop q p T c g σ a δ r (u + 1) N m row le eN)
hrow_own q p T c c' g σ a δ most J' r u N N' m m' row (inr w) le eN ec eN' em = rw (ec, w.0, eN', em) row
