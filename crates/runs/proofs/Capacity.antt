-- The rows of a ledger sum to no more than the time that they had.
use Rattle.std.proofs.Common.{◌≡◌, ℕ, ◌+◌, ◌*◌, ◌<◌, ◌≤◌, mul-le-mul_left, mul-pos, mul-add, arith}
use native.Mathlib.Nat.{le_of_mul-le-mul_left}
use Rattle.table.specs.Sums.{sum}
use Rattle.runs.proofs.Sums.{sum_bound}

term_low : (p q H T w c e W x y : ℕ) → w * T ≡ H → p * (T * x) ≤ c * W → q * (T * y) ≤ e * W → (p * q * H) * (x + y) ≤ (q * W) * (w * c) + 0 * 0 + (p * W) * (w * e)
term_low p q H T w c e W x y eH hx hy =
    rw (← eH) (omega (arith, mul-le-mul_left (q * w) hx, mul-le-mul_left (p * w) hy))

pub low_capacity : (n p q H W : ℕ) (T w c e x y : ℕ → ℕ) → 1 ≤ p → 1 ≤ H
    → ((i : ℕ) → i < n → w i * T i ≡ H)
    → ((i : ℕ) → i < n → p * (T i * x i) ≤ c i * W)
    → ((i : ℕ) → i < n → q * (T i * y i) ≤ e i * W)
    → q * sum n (λ i. w i * c i) + p * sum n (λ i. w i * e i) ≤ p * H
    → q * sum n (λ i. x i + y i) ≤ W
low_capacity n p q H W T w c e x y p1 H1 scaled hx hy test =
    let all = sum_bound n (p * q * H) (q * W) 0 (p * W) (λ i. x i + y i) (λ i. w i * c i) (λ i. 0) (λ i. w i * e i)
    (λ i l. term_low p q H (T i) (w i) (c i) (e i) W (x i) (y i) (scaled i l) (hx i l) (hy i l)) in
    le_of_mul-le-mul_left {k = p * H} (omega (arith, all, mul-le-mul_left W test)) (mul-pos p1 H1)

high_a : (p q H T w c g X δ x : ℕ) → w * T ≡ H → p * (T * x) ≤ q * (c * X) + p * (g * δ)
    → (p * q * H) * x ≤ (q * q * X) * (w * c) + (q * p * δ) * (w * g)
high_a p q H T w c g X δ x eH hx = rw (← eH) (omega (arith, mul-le-mul_left (q * w) hx))

high_b : (p q H T w e X δ y : ℕ) → w * T ≡ H → q * (T * y) ≤ e * (q * X + p * δ)
    → (p * q * H) * y ≤ (p * (q * X + p * δ)) * (w * e)
high_b p q H T w e X δ y eH hy = rw (← eH) (omega (arith, mul-le-mul_left (p * w) hy))

term_high : (p q H T w c g e X δ x y : ℕ) → w * T ≡ H → p * (T * x) ≤ q * (c * X) + p * (g * δ) → q * (T * y) ≤ e * (q * X + p * δ)
    → (p * q * H) * (x + y) ≤ (q * q * X) * (w * c) + (q * p * δ) * (w * g) + (p * (q * X + p * δ)) * (w * e)
term_high p q H T w c g e X δ x y eH hx hy =
    let ha = high_a p q H T w c g X δ x eH hx in
    let hb = high_b p q H T w e X δ y eH hy in
    rw (mul-add (p * q * H) x y) (omega arith)

pub high_capacity : (n p q H X δ : ℕ) (T w c g e x y : ℕ → ℕ) → 1 ≤ p → 1 ≤ q → 1 ≤ H
    → ((i : ℕ) → i < n → w i * T i ≡ H)
    → ((i : ℕ) → i < n → p * (T i * x i) ≤ q * (c i * X) + p * (g i * δ))
    → ((i : ℕ) → i < n → q * (T i * y i) ≤ e i * (q * X + p * δ))
    → q * sum n (λ i. w i * c i) + p * sum n (λ i. w i * e i) ≤ p * H
    → q * sum n (λ i. w i * g i) + p * sum n (λ i. w i * e i) ≤ q * H
    → sum n (λ i. x i + y i) ≤ X + δ
high_capacity n p q H X δ T w c g e x y p1 q1 H1 scaled hx hy low high =
    let all = sum_bound n (p * q * H) (q * q * X) (q * p * δ) (p * (q * X + p * δ)) (λ i. x i + y i) (λ i. w i * c i) (λ i. w i * g i) (λ i. w i * e i)
    (λ i l. term_high p q H (T i) (w i) (c i) (g i) (e i) X δ (x i) (y i) (scaled i l) (hx i l) (hy i l)) in
    le_of_mul-le-mul_left {k = p * q * H} (omega (arith, all, mul-le-mul_left (q * X) low, mul-le-mul_left (p * δ) high)) (mul-pos (mul-pos p1 q1) H1)
