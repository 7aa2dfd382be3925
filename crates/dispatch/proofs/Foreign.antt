-- Whether a rule's weights are the table's, from the answer at each slot.
use Rattle.std.proofs.Common.{◌≡◌, ℕ, suc, ◌+◌, ◌<◌, Bool, true, false, eqb, Some, None, Option, sym, refl, ap, add-one, zero-add, arith}
use Rattle.std.specs.Bool.{MatchBool}
use Rattle.std.specs.List.{range_with_len, AllWithin, HoldsAt}
use Rattle.std.proofs.lemmas.List.FromFn.{get_or-range_with_len}
use Rattle.table.specs.Firsts.{first_below, unless}
use Rattle.table.specs.Verdict.{Draft}
use Rattle.table.proofs.Firsts.{first_below_all, first_below_at}
use Rattle.budget.specs.Meaning.{Meaning}
use Rattle.runs.specs.States.{foreign_weight, is_none, rule_weight}

module _ (d : Draft) (m : Meaning) where
  -- whether the weights of the task of a slot are the same
  abbrev pub Same : Bool → ℕ → Type 0
  Same b slot = eqb (m.weight (slot + 1)) (rule_weight d (slot + 1)) ≡ b

  told : (b : Bool) (k : ℕ) → Same b k → foreign_weight d m k ≡ unless b (suc k)
  told b k e = ap (λ x. unless x (suc k)) (rw (add-one k) at e)

  pub weights_told : (r : Bool) → MatchBool r (AllWithin (Same true) (range_with_len 0 32) 0 32) ((k : ℕ) × (k < 32) × HoldsAt (Same false) (range_with_len 0 32) k)
      → r ≡ is_none (first_below 32 (foreign_weight d m))
  weights_told true all = ap is_none (sym (first_below_all 32 (foreign_weight d m) (λ k h. told true k (rw (get_or-range_with_len 0 32 k 0 h, zero-add k) at (all k 0 (omega arith) h)))))
  weights_told false (k, h, other) = by (first_below 32 (foreign_weight d m)) refl
    where
      here : foreign_weight d m k ≡ Some (suc k)
      here = told false k (rw (get_or-range_with_len 0 32 k 0 h, zero-add k) at (other 0))

      by : (o : Option ℕ) → first_below 32 (foreign_weight d m) ≡ o → false ≡ is_none o
      by None q = let z : foreign_weight d m k ≡ None = first_below_at 32 (foreign_weight d m) q k h in cc here
      by (Some i) q = refl
