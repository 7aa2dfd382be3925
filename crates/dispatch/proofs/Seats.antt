-- Slots that are written, by task number, and states field by field.
use Rattle.std.proofs.Common.{◌≡◌, ℕ, zero, suc, ◌^◌, ◌<◌, Bool, true, false, cond, eqb, ◌≢◌, List, length, slice_get, get_or, set, is_some, Some, None, Option, sym, refl, ap, ◌∙◌, arith, get_or-set_other, get_or-set_same}
use mathlib.Core.Path.{fun_ext}
use native.Mathlib.Decide.{ℕ_discrete}
use lib.Count.{count_trailing_zeros}
use Rattle.std.specs.Option.{option_flatten, unwrap_or}
use Rattle.std.proofs.lemmas.Bool.{ne_eqb, eq-eqb}
use Rattle.std.proofs.lemmas.Option.{unwrap_or-slice_get}
use Rattle.tasks.specs.Slots.{at_number}
use Rattle.order.specs.Bits.{bit}
use Rattle.order.proofs.Bits.{bit_none, lowest_set}
use Rattle.runs.specs.declared.answer.Job.{Job}
use Rattle.runs.specs.Slots.{seat}
use Rattle.runs.specs.States.{State, put}
use Rattle.runs.specs.Ticking.{none_pending}
use Rattle.runs.proofs.Choosing.{none_pending_true, none_pending_false}
use Rattle.dispatch.specs.Cores.{Agrees, masked}
use Rattle.dispatch.proofs.Chosen.{some_of}

-- what a list of options has for a number
pub seat_numbered : {A : Type 0} (xs : List (Option A)) (i : ℕ) → option_flatten (at_number xs i) ≡ seat xs i
seat_numbered xs zero = refl
seat_numbered xs (suc k) = flat (slice_get xs k) ∙ unwrap_or-slice_get xs k None
  where
    flat : {A : Type 0} (o : Option (Option A)) → option_flatten o ≡ unwrap_or o None
    flat None = refl
    flat (Some o) = refl

pub state_is : (s t : State) → s.foreign ≡ t.foreign → s.clock ≡ t.clock → s.mode ≡ t.mode → s.job ≡ t.job → s.last ≡ t.last → s ≡ t
state_is s t ef ec em ej el =
    ap (λ x. record { foreign = x; clock = s.clock; mode = s.mode; job = s.job; last = s.last }) ef
    ∙ ap (λ x. record { foreign = t.foreign; clock = x; mode = s.mode; job = s.job; last = s.last }) ec
    ∙ ap (λ x. record { foreign = t.foreign; clock = t.clock; mode = x; job = s.job; last = s.last }) em
    ∙ ap (λ x. record { foreign = t.foreign; clock = t.clock; mode = t.mode; job = x; last = s.last }) ej
    ∙ ap (λ x. record { foreign = t.foreign; clock = t.clock; mode = t.mode; job = t.job; last = x }) el

eqb_suc : (a b : ℕ) → eqb (suc a) (suc b) ≡ eqb a b
eqb_suc a b = elim (ℕ_discrete a b) [
  | yes e ↦ eq-eqb (suc a) (suc b) (ap suc e) ∙ sym (eq-eqb a b e)
  | no ne ↦ ne_eqb (suc a) (suc b) (λ q. ne (omega (arith, q))) ∙ sym (ne_eqb a b ne)
]

pub get_d_set : {A : Type 0} (xs : List (Option A)) (k : ℕ) (v : Option A) → k < length xs → (i : ℕ) → get_or (set xs k v) i None ≡ cond (eqb i k) v (get_or xs i None)
get_d_set xs k v h i = elim (ℕ_discrete i k) [
  | yes e ↦ rw e (get_or-set_same xs k v None h ∙ ap (λ b. cond b v (get_or xs k None)) (sym (eq-eqb k k refl)))
  | no ne ↦ get_or-set_other xs k i v None (λ q. ne q) ∙ ap (λ b. cond b v (get_or xs i None)) (sym (ne_eqb i k ne))
]

pub seat_set : {A : Type 0} (xs : List (Option A)) (k : ℕ) (v : Option A) → k < length xs → seat (set xs k v) ≡ put (seat xs) (suc k) v
seat_set xs k v h = fun_ext (λ i. at i)
  where
    at : (i : ℕ) → seat (set xs k v) i ≡ put (seat xs) (suc k) v i
    at zero = ap (λ b. cond b v None) (sym (ne_eqb 0 (suc k) (λ q. omega (arith, q))))
    at (suc i) = get_d_set xs k v h i ∙ ap (λ b. cond b v (get_or xs i None)) (sym (eqb_suc i k))

-- what holds of every filled slot still does, if it does of the one that is written
pub all_set : {A : Type 0} (P : ℕ → A → Type 0) (xs : List (Option A)) (k : ℕ) (v : Option A) → k < length xs
    → ((i : ℕ) (a : A) → get_or xs i None ≡ Some a → P i a) → ((a : A) → v ≡ Some a → P k a) → (i : ℕ) (a : A) → get_or (set xs k v) i None ≡ Some a → P i a
all_set P xs k v h old new i a e = elim (ℕ_discrete i k) [
  | yes q ↦ let there : v ≡ Some a = sym (get_or-set_same xs k v None h) ∙ (rw q at e) in rw q (new a there)
  | no ne ↦ old i a (sym (get_or-set_other xs k i v None (λ q. ne q)) ∙ e)
]

pub agrees_set : (mask mask' : ℕ) (jobs : List (Option Job)) (k : ℕ) (v : Option Job) → k < length jobs → Agrees mask jobs
    → ((i : ℕ) → bit mask' i ≡ cond (eqb i k) (is_some v) (bit mask i)) → Agrees mask' (set jobs k v)
agrees_set mask mask' jobs k v h agrees bits i = bits i ∙ ap (λ b. cond (eqb i k) (is_some v) b) (agrees i) ∙ by (eqb i k) ∙ ap is_some (sym (get_d_set jobs k v h i))
  where
    by : (b : Bool) → cond b (is_some v) (is_some (get_or jobs i None)) ≡ is_some (cond b v (get_or jobs i None))
    by true = refl
    by false = refl

-- whether a job is pending, by the mask

none_of : {A : Type 0} (o : Option A) → is_some o ≡ false → o ≡ None
none_of None e = refl
none_of (Some a) e = let z : ◌≡◌ {A = ℕ} 0 1 = cc in absurd (omega arith)

pub empty_none : (mask : ℕ) (jobs : List (Option Job)) → Agrees mask jobs → mask ≡ 0 → (k : ℕ) → get_or jobs k None ≡ None
empty_none mask jobs agrees e k = none_of (get_or jobs k None) (sym (agrees k) ∙ ap (λ m. bit m k) e ∙ bit_none k)

pub none_pending_is : (mask : ℕ) (jobs : List (Option Job)) → Agrees mask jobs → mask ≡ 0 → none_pending (seat jobs) ≡ true
none_pending_is mask jobs agrees e = none_pending_true (seat jobs) (λ i l h. by i)
  where
    by : (i : ℕ) → seat jobs i ≡ None
    by zero = refl
    by (suc k) = empty_none mask jobs agrees e k

pub some_pending_is : (mask : ℕ) (jobs : List (Option Job)) → mask < 2 ^ 32 → Agrees mask jobs → mask ≢ 0 → none_pending (seat jobs) ≡ false
some_pending_is mask jobs word agrees ne =
    let low = lowest_set 32 mask word ne in
    let s = some_of (get_or jobs (count_trailing_zeros 32 mask) None) (sym (agrees (count_trailing_zeros 32 mask)) ∙ low.0) in
    none_pending_false (seat jobs) (suc (count_trailing_zeros 32 mask)) s.0 (omega arith) (omega (arith, low.1)) s.1

-- the jobs at the slots of a mask that agrees are all
pub masked_all : (mask : ℕ) (jobs : List (Option Job)) → Agrees mask jobs → masked mask jobs ≡ seat jobs
masked_all mask jobs agrees = fun_ext (λ i. by i)
  where
    at : (b : Bool) (o : Option Job) → b ≡ is_some o → cond b o None ≡ o
    at true o e = refl
    at false None e = refl
    at false (Some j) e = let z : ◌≡◌ {A = ℕ} 0 1 = cc in absurd (omega arith)

    by : (i : ℕ) → masked mask jobs i ≡ seat jobs i
    by zero = refl
    by (suc k) = at (bit mask k) (get_or jobs k None) (agrees k)
