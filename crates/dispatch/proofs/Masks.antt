-- Masks bit by bit.
use Rattle.std.proofs.Common.{◌≡◌, ℕ, suc, ◌-◌, ◌^◌, ◌<◌, Bool, not, ◌&&◌, List, get_or, is_some, Some, None, Option, sym, refl, ap, ◌∙◌, arith}
use native.Mathlib.Decide.{dec_le}
use lib.Bits.{bit_and}
use Rattle.table.specs.Verdict.{Draft}
use Rattle.order.specs.Bits.{bit}
use Rattle.order.proofs.Bits.{bit_above, bit_of_and, bit_not, bits_same}
use Rattle.runs.specs.declared.answer.Job.{Job}
use Rattle.runs.specs.Masks.{mask, in_mask}
use Rattle.runs.specs.Slots.{seat}
use Rattle.runs.proofs.Masks.{mask_small, in_mask_is}
use Rattle.runs.specs.Ticking.{drops, drops_by}
use Rattle.dispatch.specs.Cores.{drops_at}

mask_bit : (among : ℕ → Bool) (k : ℕ) → k < 32 → bit (mask 32 among) k ≡ among (suc k)
unfolding bit in_mask
mask_bit among k h = let e : k ≡ suc k - 1 = omega arith in ap (bit (mask 32 among)) e ∙ in_mask_is 32 among (suc k) (omega arith) h

-- a mask is known by its bits
pub mask_is : (m : ℕ) (among : ℕ → Bool) → m < 2 ^ 32 → ((k : ℕ) → bit m k ≡ among (suc k)) → m ≡ mask 32 among
mask_is m among word f = bits_same 32 m (mask 32 among) word (mask_small 32 among) (λ k h. f k ∙ sym (mask_bit among k h))

-- the jobs that a switch drops

pub drops_seat : (d : Draft) (jobs : List (Option Job)) (k : ℕ) → drops_at d jobs k ≡ drops d (seat jobs) (suc k)
drops_seat d jobs k = let e : k ≡ suc k - 1 = omega arith in ap (λ i. drops_by (d.task i).criticality (get_or jobs k None)) e

pub drops_pending : (d : Draft) (jobs : List (Option Job)) (k : ℕ) → (is_some (get_or jobs k None) && drops_at d jobs k) ≡ drops_at d jobs k
drops_pending d jobs k = by (get_or jobs k None)
  where
    by : (o : Option Job) → (is_some o && drops_by (d.task k).criticality o) ≡ drops_by (d.task k).criticality o
    by None = refl
    by (Some j) = refl

pub bit_without_others : (m o k : ℕ) → m < 2 ^ 32 → o < 2 ^ 32 → bit (bit_and m (4294967295 - o)) k ≡ (bit m k && not (bit o k))
bit_without_others m o k hm ho = bit_of_and m (4294967295 - o) k ∙ by_width
  where
    by_width : (bit m k && bit (4294967295 - o) k) ≡ (bit m k && not (bit o k))
    by_width = elim (dec_le 32 k) [
      | yes a ↦ rw (bit_above 32 m k hm a) refl
      | no a ↦ let b : k < 32 = omega arith in ap (λ x. bit m k && x) (bit_not 32 o k ho b)
    ]
