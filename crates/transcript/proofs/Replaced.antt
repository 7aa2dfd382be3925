-- Lines of which one with fixed budgets is replaced by M.
use Rattle.std.proofs.Common.{◌≡◌, ℕ, zero, suc, ◌+◌, ◌≤◌, Bool, true, false, cond, eqb, List, [], ◌∷◌, ◌++◌, length, get_or, set, Some, None, Option, refl, ap, ◌∙◌, arith, length-append}
use Rattle.std.proofs.lemmas.Bool.{both_ways}
use Rattle.scenario.specs.declared.kind.Kind.{Kind}
use Rattle.scenario.specs.declared.kind.Kind.TheVariants.{Scale, High, Low, Shared, Fixed, Ceiling, Arrival, Run}
use Rattle.scenario.specs.declared.kind.Phase.{Phase}
use Rattle.scenario.specs.Items.{item, item_fault, judged, by_kind, by_fields, read}
use Rattle.scenario.specs.Kinds.{kind_of}
use Rattle.scenario.specs.Laws.{Without, ended, finished}
use Rattle.output.specs.Lines.{lines, fields}
use Rattle.scenario.proofs.Joined.{lines_joined}
use Rattle.transcript.specs.Contests.{is_fixed_kind, are_fixed, is_fixed}

pub data Replaced : List (List ℕ) → List (List ℕ) → Type 0 where
  here : (l : List ℕ) (ls : List (List ℕ)) → is_fixed l ≡ true → Replaced (l ∷ ls) ((77 ∷ []) ∷ ls)
  later : (l : List ℕ) (ls ms : List (List ℕ)) → Replaced ls ms → Replaced (l ∷ ls) (l ∷ ms)

pub set_replaced : (ls : List (List ℕ)) (k : ℕ) → is_fixed (get_or ls k []) ≡ true → Replaced ls (set ls k (77 ∷ []))
set_replaced [] zero e = absurd (both_ways false refl e)
set_replaced [] (suc k) e = absurd (both_ways false refl e)
set_replaced (l ∷ ls) zero e = Replaced.here l ls e
set_replaced (l ∷ ls) (suc k) e = Replaced.later l ls (set ls k (77 ∷ [])) (set_replaced ls k e)

-- how the line is read

fixed_kind : (k : Option Kind) → is_fixed_kind k ≡ true → k ≡ Some Fixed
fixed_kind None e = absurd (both_ways false refl e)
fixed_kind (Some Scale) e = absurd (both_ways false refl e)
fixed_kind (Some High) e = absurd (both_ways false refl e)
fixed_kind (Some Low) e = absurd (both_ways false refl e)
fixed_kind (Some Shared) e = absurd (both_ways false refl e)
fixed_kind (Some Fixed) e = refl
fixed_kind (Some Ceiling) e = absurd (both_ways false refl e)
fixed_kind (Some Arrival) e = absurd (both_ways false refl e)
fixed_kind (Some Run) e = absurd (both_ways false refl e)

fixed_fields : (p : Phase) (fs : List (List ℕ)) → are_fixed fs ≡ true → (ns : List (List ℕ)) × (by_fields p fs ≡ judged (item_fault p Fixed ns) (item Fixed ns))
fixed_fields p [] e = absurd (both_ways false refl e)
fixed_fields p (f ∷ []) e = absurd (both_ways false refl e)
fixed_fields p (f ∷ g ∷ gs) e = (g ∷ gs, ap (λ k. by_kind p k (g ∷ gs)) (fixed_kind (kind_of f) e))

pub fixed_read : (p : Phase) (l : List ℕ) → is_fixed l ≡ true → (ns : List (List ℕ)) × (read p l ≡ judged (item_fault p Fixed ns) (item Fixed ns))
fixed_read p l e = fixed_fields p (fields l) e

-- the text does not grow, though its last line may have lacked its byte 10

one_short : (b : ℕ) (t : Bool) → are_fixed (cond t ([] ∷ [] ∷ []) ((b ∷ []) ∷ [])) ≡ true → ⊥
one_short b true e = both_ways false refl e
one_short b false e = both_ways false refl e

fixed_long : (l : List ℕ) → is_fixed l ≡ true → 2 ≤ length l
fixed_long [] e = absurd (both_ways false refl e)
fixed_long (b ∷ []) e = absurd (one_short b (eqb b 32) e)
fixed_long (b ∷ c ∷ bs) e = omega arith

ended_length : (l : List ℕ) (ls : List (List ℕ)) → length (ended (l ∷ ls)) ≡ length l + 1 + length (ended ls)
ended_length l ls = length-append l (10 ∷ ended ls) ∙ omega arith

shorter : (ls ms : List (List ℕ)) → Replaced ls ms → length (ended ms) + 1 ≤ length (ended ls)
shorter ls ms (Replaced.here l rest e) = omega (arith, ended_length l rest, ended_length (77 ∷ []) rest, fixed_long l e)
shorter ls ms (Replaced.later l rest rest' r) = omega (arith, ended_length l rest, ended_length l rest', shorter rest rest' r)

ended_within : (text : List ℕ) → length (ended (lines text)) ≤ length text + 1
ended_within text = omega (arith, ap length (lines_joined text), go (finished text))
  where
    go : (b : Bool) → length (cond b text (text ++ (10 ∷ []))) ≤ length text + 1
    go true = omega arith
    go false = omega (arith, length-append text (10 ∷ []))

pub no_longer : (text : List ℕ) (ms : List (List ℕ)) → Replaced (lines text) ms → length (ended ms) ≤ length text
no_longer text ms r = omega (arith, shorter (lines text) ms r, ended_within text)

pub replaced_lacks : (ls ms : List (List ℕ)) → Replaced ls ms → Without 10 ls → Without 10 ms
replaced_lacks ls ms (Replaced.here l rest e) h = (((λ z. omega arith), tt), h.1)
replaced_lacks ls ms (Replaced.later l rest rest' r) h = (h.0, replaced_lacks rest rest' r h.1)
