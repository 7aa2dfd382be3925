-- The shared rule: exactly its yes set, and the weights of its table.
use Rattle.std.proofs.Common.{◌≡◌, ℕ, zero, suc, ◌-◌, ◌<◌, ◌≤◌, Bool, true, false, cond, eqb, leb, sym, refl, ap, ◌∙◌, arith}
use Rattle.std.proofs.lemmas.Bool.{leb-true, le-leb, ne_eqb, eq-eqb}
use Rattle.tasks.specs.declared.task.Criticality.{Criticality}
use Rattle.tasks.specs.declared.task.Criticality.TheVariants.{High, Low}
use Rattle.table.specs.Tasks.{weight}
use Rattle.table.specs.Verdict.{Draft, in_range}
use Rattle.budget.specs.declared.shared.Shared.{Shared}
use Rattle.budget.specs.Meaning.{Meaning, SharedYes, load, raised}
use Rattle.budget.specs.OfRules.{meaning_of_shared, NewOf}
use Rattle.budget.specs.Weights.{rule_weight as own_weight, weight_by as own_by}
use Rattle.runs.specs.States.{OfTable, Judged, rule_weight, weight_by}
use Rattle.runs.specs.Produced.{exact, Keeps}

shared_yes : (b : Bool) (w l t : ℕ) → b ≡ eqb w 0 → (cond b false (leb l t) ≡ true → l ≤ t) × (0 < w → l ≤ t → cond b false (leb l t) ≡ true)
shared_yes true w l t e = (λ q. let z : ◌≡◌ {A = ℕ} 0 1 = cc in absurd (omega arith), λ some h. sym (e ∙ ne_eqb w 0 (λ q. omega (arith, some, q))))
shared_yes false w l t e = (λ q. leb-true l t q, λ some h. le-leb l t h)

pub shared_exactly : (r : Shared) → SharedYes (meaning_of_shared r)
shared_exactly r i run =
    let m = meaning_of_shared r in
    shared_yes (eqb (m.weight i) 0) (m.weight i) (load m.weight (raised m.longest i run)) m.total refl

same_by : (c : Criticality) (w : ℕ) → own_by c w ≡ weight_by c w
same_by High w = refl
same_by (Low g) w = refl

same_weight : (d : Draft) (i : ℕ) → own_weight d i ≡ rule_weight d i
same_weight d i = ap (λ w. cond (in_range 1 d.count i) w 0) (same_by (d.task (i - 1)).criticality (weight d.scale (d.task (i - 1))))

pub new_own : (d : Draft) (m : Meaning) → NewOf d m → OfTable d m
new_own d m n = record { weights = λ i l h. n.weights i ∙ same_weight d i; total = n.total }

silent_by : (w l t : ℕ) → w ≡ 0 → cond (eqb w 0) false (leb l t) ≡ false
silent_by w l t e = ap (λ b. cond b false (leb l t)) (eq-eqb w 0 e)

above : (r : Shared) (i : ℕ) → 32 < i → (meaning_of_shared r).weight i ≡ 0
above r zero h = absurd (omega arith)
above r (suc k) h = r.tally.weights.absent k (omega (arith, r.tally.weights.few))

pub shared_keeps : (r : Shared) → Keeps exact (meaning_of_shared r)
shared_keeps r = record {
  law = record {
    bounded = record { zeroth = refl; above = above r };
    silent = λ i run e. silent_by ((meaning_of_shared r).weight i) (load (meaning_of_shared r).weight (raised (meaning_of_shared r).longest i run)) (meaning_of_shared r).total e;
    fits = λ i run e. (shared_exactly r i run).0 e;
  };
  exactly = shared_exactly r;
}

-- whether the rule is the table's, by the flag

pub judged_own : (b : Bool) (d : Draft) (m : Meaning) → Judged b d m → b ≡ false → OfTable d m
judged_own true d m j e = let z : ◌≡◌ {A = ℕ} 0 1 = cc in absurd (omega arith)
judged_own false d m j e = j

pub judged_foreign : (b : Bool) (d : Draft) (m : Meaning) → Judged b d m → b ≡ true → OfTable d m → ⊥
judged_foreign true d m j e = j
judged_foreign false d m j e = let z : ◌≡◌ {A = ℕ} 0 1 = cc in absurd (omega arith)
