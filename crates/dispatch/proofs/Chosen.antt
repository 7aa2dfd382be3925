-- What the chooser finds in a mask is the defined turn.
use Rattle.std.proofs.Common.{◌≡◌, ℕ, zero, suc, ◌+◌, ◌^◌, ◌<◌, Bool, true, false, cond, ltb, List, get_or, is_some, Some, None, Option, sym, refl, ap, ◌∙◌, add-one, arith, lt-ltb}
use native.Mathlib.Decide.{dec_le}
use Rattle.table.specs.Verdict.{Draft}
use Rattle.order.specs.declared.candidate.Candidate.{Candidate}
use Rattle.order.specs.Bits.{bit}
use Rattle.order.specs.Choice.{First as Leads, Chosen}
use Rattle.order.specs.Orders.{Ahead, TieLaws}
use Rattle.order.proofs.Bits.{bit_above}
use Rattle.runs.specs.declared.answer.Mode.{Mode}
use Rattle.runs.specs.declared.answer.Job.{Job}
use Rattle.runs.specs.Choices.{contender, turn}
use Rattle.dispatch.specs.Cores.{Offered, masked}
use Rattle.dispatch.specs.Turns.{rival, slot_of}
use Rattle.runs.specs.Laws.{First}
use Rattle.runs.specs.States.{State}
use Rattle.runs.specs.declared.answer.Mode.TheVariants.{Low}
use Rattle.runs.proofs.Choosing.{Seated, turn_some, turn_none}

pub some_of : {A : Type 0} (o : Option A) → is_some o ≡ true → (a : A) × (o ≡ Some a)
some_of None e = let z : ◌≡◌ {A = ℕ} 0 1 = cc in absurd (omega arith)
some_of (Some a) e = (a, refl)

-- a slot of a mask is below 32
pub slot_below : (mask k : ℕ) → mask < 2 ^ 32 → bit mask k ≡ true → k < 32
slot_below mask k word e = elim (dec_le 32 k) [
  | yes h ↦ let none : bit mask k ≡ false = bit_above 32 mask k word h in let z : ◌≡◌ {A = ℕ} 0 1 = cc in absurd (omega arith)
  | no h ↦ omega arith
]

module _ (ahead : Ahead) (laws : TieLaws ahead) (mode : Mode) (d : Draft) (mask : ℕ) (jobs : List (Option Job)) (word : mask < 2 ^ 32) (offered : Offered mask jobs) where
  abbrev pub at : ℕ → Candidate
  at k = rival mode d k (slot_of jobs k)

  at_is : (k : ℕ) (j : Job) → bit mask k ≡ true → get_or jobs k None ≡ Some j → at k ≡ contender mode d (suc k) j
  at_is k j e is =
      let low : ltb k 32 ≡ true = lt-ltb k 32 (slot_below mask k word e) in
      let here : slot_of jobs k ≡ Some j = ap (λ b. cond b (get_or jobs k None) None) low ∙ is in
      ap (rival mode d k) here ∙ ap (λ i. contender mode d i j) (add-one k)

  -- a job that is offered stands at a slot of the mask
  masked_from : (i : ℕ) (j : Job) → masked mask jobs i ≡ Some j → (k : ℕ) × (i ≡ suc k) × (bit mask k ≡ true) × (get_or jobs k None ≡ Some j)
  masked_from zero j e = let z : ◌≡◌ {A = ℕ} 0 1 = cc in absurd (omega arith)
  masked_from (suc k) j e = by (bit mask k) refl e
    where
      by : (b : Bool) → bit mask k ≡ b → cond b (get_or jobs k None) None ≡ Some j → (n : ℕ) × (suc k ≡ suc n) × (bit mask n ≡ true) × (get_or jobs n None ≡ Some j)
      by true q w = (k, refl, q, w)
      by false q w = let z : ◌≡◌ {A = ℕ} 0 1 = cc in absurd (omega arith)

  seated : Seated (masked mask jobs)
  seated i j e = let f = masked_from i j e in (omega (arith, f.1), omega (arith, f.1, slot_below mask f.0 word f.2))

  -- only its jobs matter
  abbrev only : State
  only = record { foreign = false; clock = 0; mode = Low; job = masked mask jobs; last = λ i. None }

  pub none_turn : Chosen ahead at (bit mask) None → turn ahead mode d (masked mask jobs) ≡ None
  none_turn none = turn_none d ahead laws mode (masked mask jobs) (λ i l h. by i)
    where
      by : (i : ℕ) → masked mask jobs i ≡ None
      by zero = refl
      by (suc k) = ap (λ b. cond b (get_or jobs k None) None) (none k)

  pub first_turn : (k : ℕ) (j : Job) → Leads ahead at (bit mask) k → get_or jobs k None ≡ Some j
      → turn ahead mode d (masked mask jobs) ≡ Some (record { number = k + 1; job = j })
  first_turn k j f is =
      turn_some d ahead laws mode only seated (suc k) j leads
      ∙ ap (λ i. Some (record { number = i; job = j })) (sym (add-one k))
    where
      leads : First d ahead mode only (suc k) j
      leads = record {
        pending = ap (λ b. cond b (get_or jobs k None) None) f.is_offered ∙ is;
        first = λ i b ne e.
            let o = masked_from i b e in
            let there : i ≡ suc o.0 = o.1 in
            let ahead_of_lem = f.leads o.0 o.2 (λ q. ne (there ∙ ap suc q)) in
            rw there (ap (λ x. ahead x (contender mode d (suc o.0) b)) (sym (at_is k j f.is_offered is)) ∙ ap (ahead (at k)) (sym (at_is o.0 b o.2 o.3)) ∙ ahead_of_lem);
      }
