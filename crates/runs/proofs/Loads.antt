-- Known numbers, and the load of a rule whose weights are the table's.
use Rattle.std.proofs.Common.{◌≡◌, ℕ, zero, suc, ◌*◌, ◌<◌, ◌≤◌, true, false, cond, leb, refl, ap, ◌∙◌, arith}
use native.Mathlib.Decide.{dec_le}
use Rattle.std.proofs.lemmas.Bool.{leb-true, le-leb, lt-leb, and_parts, and_from, and_right}
use Rattle.tasks.specs.declared.task.Criticality.{Criticality}
use Rattle.tasks.specs.declared.task.Criticality.TheVariants.{High, Low}
use Rattle.table.specs.Sums.{sum}
use Rattle.table.specs.Tasks.{weight}
use Rattle.table.specs.Verdict.{Draft}
use Rattle.budget.specs.Meaning.{Meaning, load}
use Rattle.runs.specs.States.{the_task, rank, is_high, known, weight_by, OfTable}
use Rattle.runs.specs.Laws.{Known}
use Rattle.runs.proofs.Machine as machine
use Rattle.runs.proofs.Sums.{sum_same}
use Rattle.runs.proofs.View.{plan}

pub known_is : (d : Draft) (i : ℕ) → Known d i → known d i ≡ true
known_is d i k = and_from (leb 1 i) (leb i d.count) (le-leb 1 i k.low) (le-leb i d.count k.high)

pub known_of : (d : Draft) (i : ℕ) → known d i ≡ true → Known d i
known_of d i e =
    let both = and_parts (leb 1 i) (leb i d.count) e in
    record { low = leb-true 1 i both.0; high = leb-true i d.count both.1 }

-- nothing is added above n
sum_cut : (N n : ℕ) (f : ℕ → ℕ) → n ≤ N → ((k : ℕ) → n ≤ k → k < N → f k ≡ 0) → sum N f ≡ sum n f
unfolding sum
sum_cut zero n f le none = let z : n ≡ 0 = omega arith in rw z
sum_cut (suc K) n f le none =
    elim (dec_le n K) [
      | yes below ↦ omega (arith, sum_cut K n f below (λ k lo hi. none k lo (omega arith)), none K below (omega arith))
      | no above ↦ let z : n ≡ suc K = omega arith in rw z
    ]

rule_part : (c : Criticality) (w L : ℕ) → weight_by c w * L ≡ cond (is_high c) (w * L) 0
rule_part High w L = refl
rule_part (Low g) w L = omega arith

pub load_is : (d : Draft) (m : Meaning) → d.count ≤ 32 → OfTable d m → (L : ℕ → ℕ) → load m.weight L ≡ machine.load (plan d) (λ k. L (suc k))
load_is d m few of L =
    sum_cut 32 d.count _ few above ∙ sum_same d.count _ _ below
  where
    known_at : (k : ℕ) → k < d.count → known d (suc k) ≡ true
    known_at k l = known_is d (suc k) (record { low = omega arith; high = l })

    absent : (k : ℕ) → d.count ≤ k → known d (suc k) ≡ false
    absent k l = and_right (leb 1 (suc k)) (leb (suc k) d.count) (lt-leb (suc k) d.count (omega arith))

    above : (k : ℕ) → d.count ≤ k → k < 32 → m.weight (suc k) * L (suc k) ≡ 0
    above k lo hi =
        let e : m.weight (suc k) ≡ 0 = of.weights (suc k) (omega arith) hi ∙ ap (λ b. cond b (weight_by (rank d (suc k)) (weight d.scale (the_task d (suc k)))) 0) (absent k lo) in
        rw e (omega arith)

    below : (k : ℕ) → k < d.count → m.weight (suc k) * L (suc k) ≡ cond (is_high (rank d (suc k))) (weight d.scale (the_task d (suc k)) * L (suc k)) 0
    below k l =
        let e : m.weight (suc k) ≡ weight_by (rank d (suc k)) (weight d.scale (the_task d (suc k))) =
        of.weights (suc k) (omega arith) (omega arith) ∙ ap (λ b. cond b (weight_by (rank d (suc k)) (weight d.scale (the_task d (suc k)))) 0) (known_at k l) in
        rw e (rule_part (rank d (suc k)) (weight d.scale (the_task d (suc k))) (L (suc k)))
