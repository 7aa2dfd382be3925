-- Which tables are accepted: the tests in their order, and the first refusal.
use Rattle.std.specs.Prelude.{ℕ, ◌+◌, ◌*◌, ◌%◌, Bool, ◌&&◌, List, [], ◌∷◌, ◌++◌, Some, None, Option, ◌==◌, nat_le}
use Rattle.tasks.specs.declared.units.Shares.{Shares}
use Rattle.tasks.specs.declared.task.Task.{Task}
use Rattle.tasks.specs.declared.task.Factor.{Factor}
use Rattle.tasks.specs.declared.task.Figures.{Figures}
use Rattle.tasks.specs.declared.task.Tests.{Tests}
use Rattle.tasks.specs.declared.refusal.TableRefusal.{TableRefusal}
use Rattle.tasks.specs.declared.refusal.TableRefusal.TheVariants.{Count, Scale, Factor as FactorOut, Total, Period, VirtualDeadline, Service, LowTest, HighTest}
pub use Rattle.tasks.specs.Comparisons.{passes}
use Rattle.table.specs.Firsts.{first_of, first_below, unless}
use Rattle.table.specs.Tasks.{shares, slot, low_assured, low_rest, high_worst, weighted}

-- A table as a caller drafts it: nothing of it has been tested.
pub record Draft : Type 0 where
  pub scale : Shares
  pub total : Shares
  pub factor : Factor
  pub count : ℕ
  pub task : ℕ → Task

abbrev pub drafted : Shares → Shares → Factor → ℕ → List Task → Draft
drafted h b f n ts = record { scale = h; total = b; factor = f; count = n; task = slot ts }

abbrev pub in_range : ℕ → ℕ → ℕ → Bool
in_range low high n = nat_le low n && nat_le n high

-- 1
abbrev pub count_fault : ℕ → Option TableRefusal
count_fault n = unless (in_range 1 32 n) (Count n)

-- 2
abbrev pub scale_fault : Shares → Option TableRefusal
scale_fault h = unless (in_range 1 1000000 h.0) (Scale h)

-- 3
abbrev pub factor_fault : Factor → Option TableRefusal
factor_fault f = unless (in_range 1 1000 f.q && in_range 1 f.q f.p) (FactorOut f)

-- 4
abbrev pub total_fault : Shares → Option TableRefusal
total_fault b = unless (nat_le b.0 1000000) (Total b)

-- 5
abbrev pub period_fault : Shares → ℕ → Task → Option TableRefusal
period_fault h i t = unless (in_range 1 100000 t.period.0 && h.0 % t.period.0 == 0) (Period i t)

-- 6, where the factor is known
abbrev pub deadline_fault : Option Factor → ℕ → Task → Option TableRefusal
deadline_fault None i t = None
deadline_fault (Some f) i t = unless (f.p * t.period.0 % f.q == 0) (VirtualDeadline i t)

-- 7
abbrev pub service_fault : ℕ → Task → Option TableRefusal
service_fault i t = unless (in_range 1 t.period.0 t.worst.0 && nat_le (low_assured t) t.worst.0) (Service i t)

abbrev pub task_fault : Shares → Option Factor → ℕ → Task → Option TableRefusal
task_fault h f i t = first_of (period_fault h i t ∷ deadline_fault f i t ∷ service_fault i t ∷ [])

abbrev pub tasks_fault : Shares → Option Factor → ℕ → (ℕ → Task) → Option TableRefusal
tasks_fault h f n task = first_below n (λ k. task_fault h f (k + 1) (task k))

-- G, S and K
abbrev pub figures_of : Shares → ℕ → (ℕ → Task) → Figures
figures_of h n task = record { assured = shares (weighted h n task low_assured); optional = shares (weighted h n task low_rest); high = shares (weighted h n task high_worst) }

-- the figures want neither factor nor total: 1, 2, 5 and 7
abbrev pub figures_fault : Shares → ℕ → (ℕ → Task) → Option TableRefusal
figures_fault h n task = first_of (count_fault n ∷ scale_fault h ∷ tasks_fault h None n task ∷ [])

-- q * B + q * G + p * S ≤ p * H, and p * S + q * (K + G) ≤ q * H
abbrev pub tests_by : Shares → Shares → Factor → Figures → Tests
tests_by h b f s = record {
  low = record { demand = shares (f.q * b.0 + f.q * s.assured.0 + f.p * s.optional.0); supply = shares (f.p * h.0) };
  high = record { demand = shares (f.p * s.optional.0 + f.q * (s.high.0 + s.assured.0)); supply = shares (f.q * h.0) };
}

abbrev pub tests_of : Draft → Tests
tests_of d = tests_by d.scale d.total d.factor (figures_of d.scale d.count d.task)

-- 8
abbrev pub low_fault : Tests → Option TableRefusal
low_fault t = unless (passes t.low) (LowTest t.low)

-- 9
abbrev pub high_fault : Tests → Option TableRefusal
high_fault t = unless (passes t.high) (HighTest t.high)

-- 1 to 7, in their order
abbrev pub shape_faults : Draft → List (Option TableRefusal)
shape_faults d = count_fault d.count ∷ scale_fault d.scale ∷ factor_fault d.factor ∷ total_fault d.total ∷ tasks_fault d.scale (Some d.factor) d.count d.task ∷ []

abbrev pub shape_fault : Draft → Option TableRefusal
shape_fault d = first_of (shape_faults d)

-- the first refusal that applies; none where the table is accepted
abbrev pub verdict : Draft → Option TableRefusal
verdict d = first_of (shape_faults d ++ (low_fault (tests_of d) ∷ high_fault (tests_of d) ∷ []))
