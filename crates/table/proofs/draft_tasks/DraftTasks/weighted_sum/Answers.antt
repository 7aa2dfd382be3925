use Rattle.std.proofs.Common.{◌≡◌, ◌+◌, ◌*◌, ◌≤◌, None, sym, refl, arith}
use Rattle.std.proofs.lemmas.Fn.{says_at}
use Rattle.table.specs.Tasks.{slot, weight}
use Rattle.table.specs.Verdict.{task_fault}
use Rattle.table.proofs.Accepted.{period_low_of, worst_high_of, assured_high_of}
use Rattle.table.proofs.Firsts.{first_below_at}
use Rattle.table.proofs.Sums.{sum_none, sum_next}
use Rattle.table.proofs.draft_tasks.DraftTasks.weighted_sum.Goals as goal

pub share_of-sum-requires : goal.share_of-sum-requires
share_of-sum-requires g c =
    let x = c.args.self.now in
    let i = c.loop-i.i in
    let t = slot x.tasks.now i in
    let e : task_fault x.scale x.factor (i + 1) t ≡ None = first_below_at _ _ c.requires.1.0 i c.loop-i-test.true in
    let most : g.part_of t ≤ t.worst.0 = c.requires.1.1.1.1 t (assured_high_of x.scale x.factor (i + 1) t e) in
    let part : c.part.result.0 ≡ g.part_of t = c.requires.1.1.1.0 t c.part.result (says_at g.F.Fn c.part.ensures refl) in
    (period_low_of x.scale x.factor (i + 1) t e, omega (arith, worst_high_of x.scale x.factor (i + 1) t e))

pub loop-i-init : goal.loop-i-init
loop-i-init g c = (sym (sum_none _), omega arith)

pub loop-i-preserved : goal.loop-i-preserved
loop-i-preserved g c =
    let x = c.args.self.now in
    let t = slot x.tasks.now c.loop-i.i in
    let part : c.part.result.0 ≡ g.part_of t = c.requires.1.1.1.0 t c.part.result (says_at g.F.Fn c.part.ensures refl) in
    let share : c.share_of-sum.result.0 ≡ weight x.scale t * g.part_of t = rw part at c.share_of-sum.ensures.is in
    (sum_next c.loop-i.i _ _ (λ k. weight x.scale (slot x.tasks.now k) * g.part_of (slot x.tasks.now k)) c.loop-i.invariant.0 share, omega (arith, c.share_of-sum.ensures.small, c.loop-i.invariant.1, x.small))
