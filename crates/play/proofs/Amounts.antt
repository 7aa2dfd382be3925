-- One number more of a list.
use Rattle.std.proofs.Common.{◌≡◌, ℕ, ◌+◌, ◌<◌, List, [], ◌∷◌, ◌++◌, length, take, set, Some, sym, ap, ◌∙◌, append_assoc, arith}
use Rattle.std.proofs.lemmas.List.{take_more_set}
use Rattle.tasks.specs.declared.units.Ticks.{Ticks}
use Rattle.table.specs.Tasks.{ticks}
use Rattle.scenario.specs.Left.{first, others}
use Rattle.transcript.specs.Steps.{amount, amounts}

-- the list as its first and its others
pub amounts_first : (fs gs : List (List ℕ)) (f : List ℕ) → Some f ≡ first fs → gs ≡ others fs → amounts fs ≡ ticks (amount f) ∷ amounts gs
amounts_first [] gs f e o = let z : ◌≡◌ {A = ℕ} 0 1 = cc in absurd (omega arith)
amounts_first (x ∷ fs) gs f e o = let s : f ≡ x = cc in rw (s, o)

pub others_fewer : (fs gs : List (List ℕ)) (f : List ℕ) → Some f ≡ first fs → gs ≡ others fs → length fs ≡ length gs + 1
others_fewer [] gs f e o = let z : ◌≡◌ {A = ℕ} 0 1 = cc in absurd (omega arith)
others_fewer (x ∷ fs) gs f e o = omega (arith, ap length o)

pub amounts_more : (xs : List Ticks) (n : ℕ) (t : Ticks) (fs gs : List (List ℕ)) (f : List ℕ) → n < length xs → t.0 ≡ amount f → Some f ≡ first fs → gs ≡ others fs
    → take (n + 1) (set xs n t) ++ amounts gs ≡ take n xs ++ amounts fs
amounts_more xs n t fs gs f h is e o =
    ap (λ ys. ys ++ amounts gs) (take_more_set xs n t h)
    ∙ append_assoc (take n xs) (t ∷ []) (amounts gs)
    ∙ ap (λ z. take n xs ++ (ticks z ∷ amounts gs)) is
    ∙ ap (λ ys. take n xs ++ ys) (sym (amounts_first fs gs f e o))
