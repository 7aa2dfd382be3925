-- One task more of an outline.
use Rattle.std.proofs.Common.{◌≡◌, ℕ, ◌+◌, ◌<◌, cond, List, [], ◌∷◌, ◌++◌, length, take, set, sym, ap, ◌∙◌, arith, length-take-le, lt-ltb}
use Rattle.std.proofs.lemmas.List.{take_more_set}
use Rattle.tasks.specs.declared.task.Task.{Task}
use Rattle.transcript.specs.Steps.{with_task}

pub pushed : (xs : List Task) (n : ℕ) (t : Task) → n < 33 → length xs ≡ 33 → take (n + 1) (set xs n t) ≡ with_task (take n xs) t
pushed xs n t h long =
    let few : length (take n xs) < 33 = omega (arith, length-take-le n xs (omega (arith, long))) in
    take_more_set xs n t (omega (arith, long)) ∙ sym (ap (λ b. cond b (take n xs ++ (t ∷ [])) (take n xs)) (lt-ltb (length (take n xs)) 33 few))
