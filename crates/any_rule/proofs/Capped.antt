-- A ceiling over the same rule with the same numbers.
use Rattle.std.proofs.Common.{◌≡◌, ℕ, Bool, ap, ◌∙◌}
use mathlib.Core.Path.{fun_ext}
use Rattle.budget.specs.Meaning.{Meaning}
use Rattle.budget.specs.Rules.{under_ceiling, policy_under}

pub ceiling_same : (m n : Meaning) (c d : ℕ → ℕ) → m ≡ n → ((i : ℕ) → c i ≡ d i) → under_ceiling m c ≡ under_ceiling n d
ceiling_same m n c d e f = ap (λ x. under_ceiling x c) e ∙ ap (under_ceiling n) (fun_ext f)

pub policy_same : (p q : (ℕ → ℕ) → ℕ → ℕ → Bool) (c d : ℕ → ℕ) → p ≡ q → ((i : ℕ) → c i ≡ d i) → policy_under p c ≡ policy_under q d
policy_same p q c d e f = ap (λ x. policy_under x c) e ∙ ap (policy_under q) (fun_ext f)
