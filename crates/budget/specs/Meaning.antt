-- What a budget rule means, and what a question, a grant and a rest may do to it.
use Rattle.std.specs.Prelude.{◌≡◌, ℕ, suc, ◌+◌, ◌*◌, ◌<◌, ◌≤◌, max, Bool, true, false, cond, ◌==◌}
use Rattle.table.specs.Sums.{sum}

-- Weights, the total, the longest run of each task since the last rest, and whether a job of a task that ran so far may have one more tick.
-- All by task number; a task that is low or absent has weight 0.
pub record Meaning : Type 0 where
  pub weight : ℕ → ℕ
  pub total : ℕ
  pub longest : ℕ → ℕ
  pub yes : ℕ → ℕ → Bool

-- the sum of weight * longest run over the task numbers 1 to 32
abbrev pub load : (ℕ → ℕ) → (ℕ → ℕ) → ℕ
load weight longest = sum 32 (λ k. weight (suc k) * longest (suc k))

-- the longest runs, with that of task i raised to at least run + 1
abbrev pub raised : (ℕ → ℕ) → ℕ → ℕ → ℕ → ℕ
raised longest i run k = cond (k == i) (max (longest k) (run + 1)) (longest k)

abbrev pub raised_load : Meaning → ℕ → ℕ → ℕ
raised_load m i run = load m.weight (raised m.longest i run)

-- a yes is only for a task with a weight
abbrev pub Silent : Meaning → Type 0
Silent m = (i run : ℕ) → m.weight i ≡ 0 → m.yes i run ≡ false

-- a yes fits: the raised load is at most the total
abbrev pub Fits : Meaning → Type 0
Fits m = (i run : ℕ) → m.yes i run ≡ true → raised_load m i run ≤ m.total

-- numbers outside 1 to 32 are absent
pub record Bounded (m : Meaning) : Type 0 where
  pub zeroth : m.weight 0 ≡ 0
  pub above : (i : ℕ) → 32 < i → m.weight i ≡ 0

pub record Lawful (m : Meaning) : Type 0 where
  pub bounded : Bounded m
  pub silent : Silent m
  pub fits : Fits m

-- A grant answers as the question does. On yes that longest run is raised and no other changes; on no the meaning is unaltered.
-- After a yes the new yes set is the rule's own, bound by the laws above.
pub record Granted (m n : Meaning) (i run : ℕ) (b : Bool) : Type 0 where
  pub said : b ≡ m.yes i run
  pub weights : (k : ℕ) → n.weight k ≡ m.weight k
  pub total : n.total ≡ m.total
  pub longest : (k : ℕ) → n.longest k ≡ cond b (raised m.longest i run k) (m.longest k)
  pub denied : b ≡ false → n ≡ m

-- A rest makes every longest run 0; the new yes set is the rule's own.
pub record Rested (m n : Meaning) : Type 0 where
  pub weights : (k : ℕ) → n.weight k ≡ m.weight k
  pub total : n.total ≡ m.total
  pub longest : (k : ℕ) → n.longest k ≡ 0

-- the shared rule's yes set: the task has a weight and the raised load is at most the total
abbrev pub SharedYes : Meaning → Type 0
SharedYes m = (i run : ℕ) → (m.yes i run ≡ true → raised_load m i run ≤ m.total) × (0 < m.weight i → raised_load m i run ≤ m.total → m.yes i run ≡ true)
