-- When two dispatchers over one table and order agree, so that the same calls lead them the same way until one of them switches.
use Rattle.std.specs.Prelude.{◌≡◌, ℕ, ◌≤◌, List, map}
use Rattle.table.specs.Verdict.{Draft}
use Rattle.order.specs.Orders.{Ahead, TieLaws}
use Rattle.budget.specs.Meaning.{Meaning}
use Rattle.runs.specs.declared.entry.Entry.{Entry}
use Rattle.runs.specs.Numbers.{call_of}
use Rattle.runs.specs.States.{State}
use Rattle.runs.specs.Logs.{before_switch}
use Rattle.runs.specs.Produced.{lawful, exact, Keeps, Follows}

pub record Agree (s t : State) : Type 0 where
  pub foreigns : s.foreign ≡ t.foreign
  pub clocks : s.clock ≡ t.clock
  pub modes : s.mode ≡ t.mode
  pub jobs : (i : ℕ) → s.job i ≡ t.job i
  pub lasts : (i : ℕ) → s.last i ≡ t.last i

-- two rules with the same weights, total and longest runs; their yes sets may differ
pub record Alike (m n : Meaning) : Type 0 where
  pub weights : (i : ℕ) → m.weight i ≡ n.weight i
  pub totals : m.total ≡ n.total
  pub longests : (i : ℕ) → m.longest i ≡ n.longest i

-- From any two agreeing states, under the same calls, the shared rule has its first switch no sooner than the other.
abbrev pub Lockstep : Type 0
Lockstep = (d : Draft) (ahead : Ahead) → TieLaws ahead → (m₀ n₀ : Meaning) (s₀ t₀ : State) → Agree s₀ t₀ → Alike m₀ n₀ → Keeps exact m₀ → Keeps lawful n₀
    → (shared other : List Entry) (m n : Meaning) (s t : State) → Follows exact d ahead m₀ s₀ shared m s → Follows lawful d ahead n₀ t₀ other n t
    → map call_of shared ≡ map call_of other → before_switch other ≤ before_switch shared
