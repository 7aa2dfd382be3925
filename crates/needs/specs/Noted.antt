-- Needs by task number.
use Rattle.std.specs.Prelude.{ℕ, cond}
use Rattle.table.specs.Verdict.{in_range}
use Rattle.runs.specs.States.{put}

-- the needs with that of task i; a number outside 1 to 32 is no task
abbrev pub noted : (ℕ → ℕ) → ℕ → ℕ → ℕ → ℕ
noted need i n = cond (in_range 1 32 i) (put need i n) need
