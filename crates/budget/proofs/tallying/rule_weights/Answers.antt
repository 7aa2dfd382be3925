use Rattle.std.proofs.Common.{◌≡◌, ℕ, zero, suc, ◌+◌, ◌<◌, ◌≤◌, List, get_or, sym, refl, ap, subst, ◌∙◌, add-one, arith, rules}
use Rattle.std.specs.Array.{IsFromFnResultFrom}
use Rattle.std.specs.Fn.{Called, Mut}
use Rattle.std.proofs.lemmas.List.{get_or_past}
use native.Mathlib.Decide.{dec_le, ℕ_discrete}
use Rattle.table.specs.Tables.{draft_of}
use Rattle.table.specs.Tasks.{shares}
use Rattle.table.proofs.Tables.{table_accepted}
use Rattle.budget.specs.Slots.{weight_in}
use Rattle.budget.specs.Weights.{rule_weight}
use Rattle.budget.proofs.Weighing.{rule_weight_past}
use Rattle.budget.proofs.tallying.rule_weights.Goals as goal

-- what calls that leave the closure as it was put at each slot from i on
made : {F B : Type 0} (g : Mut F (ℕ × Unit {0}) B) (v : B → ℕ) (w : ℕ → ℕ) (f : F) (ys : List B) (d : B)
    → ((k : ℕ) (y : B) (q : F) → Called g f (k, tt) y q → (v y ≡ w k) × (q ≡ f)) → (n i : ℕ) → IsFromFnResultFrom g f ys i n → (k : ℕ) → i ≤ k → k < i + n → v (get_or ys k d) ≡ w k
made g v w f ys d each zero i r k low high = absurd (omega arith)
made g v w f ys d each (suc n) i r k low high =
    let one = each i r.1 r.0 r.3 in
    elim (ℕ_discrete k i) [
      | yes e ↦ rw e (ap v (r.2.1 d) ∙ one.0)
      | no ne ↦ made g v w f ys d each n (i + 1) (subst (λ p. IsFromFnResultFrom g p ys (i + 1) n) one.1 r.4) k (omega arith) (omega arith)
    ]

pub returns : goal.returns
returns c = go
  where
    go : (i : ℕ) → weight_in c.from_fn.result i ≡ rule_weight (draft_of c.args.table.now) i
    go zero = refl
    go (suc j) =
        elim (dec_le 32 j) [
          | yes l ↦
              ap (λ w. w.0) (get_or_past c.from_fn.result j (shares 0) (omega (arith, c.from_fn.ensures.items.long)))
              ∙ sym (rule_weight_past (draft_of c.args.table.now) j (omega (arith, (table_accepted c.args.table.now).few)))
          | no l ↦
              made _ (λ w. w.0) (λ k. rule_weight (draft_of c.args.table.now) (k + 1)) _ c.from_fn.result (shares 0) (λ k y q called. search rules) 32 0 c.from_fn.ensures.items.each j (omega arith) (omega arith)
              ∙ ap (rule_weight (draft_of c.args.table.now)) (add-one j)
        ]
