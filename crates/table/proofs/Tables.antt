-- A table is accepted, and so is each task under a number.
use Rattle.std.proofs.Common.{◌≡◌, ℕ, zero, suc, ◌-◌, ◌<◌, ◌≤◌, true, false, cond, leb, List, length, take, Some, None, refl, ap, ◌∙◌, arith}
use native.Mathlib.Decide.{dec_le}
use Rattle.std.proofs.lemmas.Bool.{leb-true, le-leb, lt-leb, and_parts}
use Rattle.std.proofs.lemmas.List.{get_or-take, length-take-le}
use Rattle.std.proofs.lemmas.Option.{cond_some, slice_get-get_or, slice_get_past}
use Rattle.table.specs.declared.table.Table.{Table}
use Rattle.tasks.specs.declared.task.Task.{Task}
use Rattle.tasks.specs.Slots.{at_number}
use Rattle.table.specs.Tasks.{blank, slot}
use Rattle.table.specs.Accepted.{Sound, Accepted}
use Rattle.table.specs.Readers.{task_at}
use Rattle.table.specs.Tables.{draft_of}
use Rattle.table.specs.Verdict.{Draft, in_range}
use Rattle.table.proofs.Accepted.{accepted, none_is}

pub table_accepted : (t : Table) → Accepted (draft_of t)
table_accepted t = accepted (draft_of t) (none_is _ t.accepted)

pub task_sound : (d : Draft) → Accepted d → (i : ℕ) (t : Task) → task_at d i ≡ Some t → Sound d.scale d.factor t
task_sound d a i t e =
    let p = cond_some _ _ _ e in
    let within = and_parts (leb 1 i) (leb i d.count) p.0 in
    let low = leb-true 1 i within.0 in
    let high = leb-true i d.count within.1 in
    rw p.1 at (a.each (i - 1) (omega arith))

-- the first n tasks under their numbers
pub numbered : (ts : List Task) (n i : ℕ) → n ≤ length ts → at_number (take n ts) i ≡ cond (in_range 1 n i) (Some (slot ts (i - 1))) None
numbered ts n zero l = refl
numbered ts n (suc k) l =
    let one : leb 1 (suc k) ≡ true = le-leb 1 (suc k) (omega arith) in
    elim (dec_le (suc k) n) [
      | yes h ↦
          let low : k < length (take n ts) = omega (arith, length-take-le n ts l) in
          let there : leb (suc k) n ≡ true = le-leb (suc k) n h in
          let back : suc k - 1 ≡ k = omega arith in
          rw (one, there, back) (slice_get-get_or (take n ts) k blank low ∙ ap Some (get_or-take n ts k blank (omega arith)))
      | no h ↦
          let past : length (take n ts) ≤ k = omega (arith, length-take-le n ts l) in
          let gone : leb (suc k) n ≡ false = lt-leb (suc k) n (omega arith) in
          rw (one, gone) (slice_get_past (take n ts) k past)
    ]
