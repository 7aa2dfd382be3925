-- What an accepted table is, as plain inequalities.
use Rattle.std.specs.Prelude.{◌≡◌, ℕ, ◌+◌, ◌*◌, ◌<◌, ◌≤◌}
use Rattle.tasks.specs.declared.units.Shares.{Shares}
use Rattle.tasks.specs.declared.task.Task.{Task}
use Rattle.tasks.specs.declared.task.Factor.{Factor}
use Rattle.table.specs.Tasks.{weight, virtual_deadline, low_assured, low_rest, high_worst, weighted}
use Rattle.table.specs.Verdict.{Draft}

-- 1 ≤ T ≤ 100,000, T divides H, D is whole, 1 ≤ C ≤ T and g ≤ C
pub record Sound (h : Shares) (f : Factor) (t : Task) : Type 0 where
  pub period_low : 1 ≤ t.period.0
  pub period_high : t.period.0 ≤ 100000
  pub divides : weight h t * t.period.0 ≡ h.0
  pub whole : f.q * virtual_deadline f t ≡ f.p * t.period.0
  pub worst_low : 1 ≤ t.worst.0
  pub worst_high : t.worst.0 ≤ t.period.0
  pub assured_high : low_assured t ≤ t.worst.0

-- G, S and K of a draft
abbrev pub low_assured_sum : Draft → ℕ
low_assured_sum d = weighted d.scale d.count d.task low_assured

abbrev pub low_rest_sum : Draft → ℕ
low_rest_sum d = weighted d.scale d.count d.task low_rest

abbrev pub high_worst_sum : Draft → ℕ
high_worst_sum d = weighted d.scale d.count d.task high_worst

pub record Accepted (d : Draft) : Type 0 where
  pub some : 1 ≤ d.count
  pub few : d.count ≤ 32
  pub scale_low : 1 ≤ d.scale.0
  pub scale_high : d.scale.0 ≤ 1000000
  pub p_low : 1 ≤ d.factor.p
  pub p_high : d.factor.p ≤ d.factor.q
  pub q_high : d.factor.q ≤ 1000
  pub total_high : d.total.0 ≤ 1000000
  pub each : (k : ℕ) → k < d.count → Sound d.scale d.factor (d.task k)
  pub low_test : d.factor.q * d.total.0 + d.factor.q * low_assured_sum d + d.factor.p * low_rest_sum d ≤ d.factor.p * d.scale.0
  pub high_test : d.factor.p * low_rest_sum d + d.factor.q * (high_worst_sum d + low_assured_sum d) ≤ d.factor.q * d.scale.0
