-- Tie orders by what they mean: which of two candidates goes ahead.
use Rattle.std.specs.Prelude.{◌≡◌, ℕ, ◌<◌, Bool, true, not, ◌≢◌}
use Rattle.tasks.specs.declared.task.Level.{Level}
use Rattle.table.specs.Tasks.{ticks}
use Rattle.order.specs.declared.candidate.Candidate.{Candidate}

-- the one way to make a candidate
abbrev pub candidate : ℕ → Level → ℕ → Candidate
candidate deadline level number = record { deadline = ticks deadline; level = level; number = number }

abbrev pub Ahead : Type 0
Ahead = Candidate → Candidate → Bool

-- of two candidates of different numbers exactly one is ahead
abbrev pub OneWay : Ahead → Type 0
OneWay ahead = (a b : Candidate) → a.number ≢ b.number → ahead b a ≡ not (ahead a b)

abbrev pub Transitive : Ahead → Type 0
Transitive ahead = (a b c : Candidate) → a.number ≢ b.number → b.number ≢ c.number → a.number ≢ c.number → ahead a b ≡ true → ahead b c ≡ true → ahead a c ≡ true

-- the earlier deadline goes first
abbrev pub RefinesDeadlines : Ahead → Type 0
RefinesDeadlines ahead = (a b : Candidate) → a.number ≢ b.number → a.deadline.0 < b.deadline.0 → ahead a b ≡ true

pub record TieLaws (ahead : Ahead) : Type 0 where
  pub one_way : OneWay ahead
  pub transitive : Transitive ahead
  pub refines_deadlines : RefinesDeadlines ahead
