use Rattle.std.proofs.Common.{◌≡◌, ℕ, ◌+◌, length, drop, take, replicate, get_or, ap, ◌∙◌}
use Rattle.std.proofs.Math.Nat.{min_comm}
use Rattle.std.proofs.lemmas.List.{get_or-drop, take_min}
use Rattle.tasks.proofs.Blanks.{blanks, behind}
use Rattle.tasks.proofs.slots.filled.Goals as goal

pub returns : goal.returns
returns g c k =
    let n = c.min-count.result in
    let xs = c.args.items.now in
    let b = c.args.blank in
    let past = λ (j : ℕ). get_or-drop n (replicate 32 b) j b ∙ blanks b 32 (n + j) in
    let same : take n xs ≡ take 32 xs = rw (c.min-count.ensures, min_comm (length xs) 32) (take_min 32 xs) in
    rw c.copy_from_slice.ensures.after (behind b (take n xs) (drop n (replicate 32 b)) past k ∙ ap (λ ys. get_or ys k b) same)
