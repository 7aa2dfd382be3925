-- Tasks under the numbers that a table knows.
use Rattle.std.proofs.Common.{◌≡◌, ℕ, ◌+◌, ◌-◌, ◌*◌, ◌^◌, ◌<◌, ◌≤◌, true, leb, mul-le-mul, div-le_self, arith}
use Rattle.std.proofs.lemmas.Bool.{le-leb, leb-true, and_parts, and_from}
use Rattle.table.specs.declared.table.Table.{Table}
use Rattle.table.specs.Accepted.{Sound}
use Rattle.table.specs.Tables.{draft_of}
use Rattle.table.specs.Tasks.{virtual_deadline}
use Rattle.table.specs.Verdict.{Draft}
use Rattle.table.proofs.Tables.{table_accepted}
use Rattle.runs.specs.States.{known, the_task, period}

-- a slot below the count is a known number
pub known_slot : (d : Draft) (k : ℕ) → k < d.count → known d (k + 1) ≡ true
known_slot d k h = and_from (leb 1 (k + 1)) (leb (k + 1) d.count) (le-leb 1 (k + 1) (omega arith)) (le-leb (k + 1) d.count (omega arith))

pub known_low : (d : Draft) (i : ℕ) → known d i ≡ true → 1 ≤ i
known_low d i e = leb-true 1 i (and_parts (leb 1 i) (leb i d.count) e).0

pub known_high : (d : Draft) (i : ℕ) → known d i ≡ true → i ≤ d.count
known_high d i e = leb-true i d.count (and_parts (leb 1 i) (leb i d.count) e).1

pub known_sound : (t : Table) (i : ℕ) → known (draft_of t) i ≡ true → Sound t.scale t.factor (the_task (draft_of t) i)
known_sound t i e = (table_accepted t).each (i - 1) (omega (arith, known_low (draft_of t) i e, known_high (draft_of t) i e))

pub period_small : (t : Table) (i : ℕ) → known (draft_of t) i ≡ true → period (draft_of t) i ≤ 100000
period_small t i e = (known_sound t i e).period_high

pub deadline_small : (t : Table) (i : ℕ) → known (draft_of t) i ≡ true → virtual_deadline t.factor (the_task (draft_of t) i) ≤ 2 ^ 40
deadline_small t i e =
    let a = table_accepted t in
    let p : t.factor.p ≤ 1000 = omega (arith, a.p_high, a.q_high) in
    let most : t.factor.p * period (draft_of t) i ≤ 1000 * 100000 = mul-le-mul p (period_small t i e) in
    omega (arith, div-le_self (t.factor.p * period (draft_of t) i) t.factor.q, most)
