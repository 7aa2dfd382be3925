-- What a line says, and the fault of a line.
use Rattle.std.specs.Prelude.{ℕ, ◌+◌, Bool, true, false, cond, ◌&&◌, List, [], ◌∷◌, length, Some, None, Ok, Err, Option, Result, ◌==◌}
use Rattle.table.specs.Firsts.{first_of, unless}
use Rattle.scenario.specs.declared.kind.Kind.{Kind}
use Rattle.scenario.specs.declared.kind.Kind.TheVariants.{Scale, High, Low, Shared, Fixed, Ceiling, Arrival, Run}
use Rattle.scenario.specs.declared.kind.Phase.{Phase}
use Rattle.output.specs.declared.fault.ReaderRefusal.{ReaderRefusal}
use Rattle.output.specs.declared.fault.ReaderRefusal.TheVariants.{Letter, Count, Number, Order}
use Rattle.scenario.specs.Kinds.{kind_of, allowed}
use Rattle.output.specs.Lines.{fields}
use Rattle.scenario.specs.Numbers.{in_range, value}

-- a line's kind and the fields of its numbers
pub record Item : Type 0 where
  pub kind : Kind
  pub numbers : List (List ℕ)

abbrev pub item : Kind → List (List ℕ) → Item
item k ns = record { kind = k; numbers = ns }

-- how many numbers a line has
abbrev pub right_count : Kind → ℕ → Bool
right_count Scale n = n == 4
right_count High n = n == 2
right_count Low n = n == 3
right_count Shared n = n == 0
right_count Fixed n = in_range 1 32 n
right_count Ceiling n = in_range 1 32 n
right_count Arrival n = n == 2
right_count Run n = n == 1

-- the least that the number at a place, from 0, may be: a need and a count of ticks are at least 1
abbrev pub least : Kind → ℕ → ℕ
least Scale i = 0
least High i = 0
least Low i = 0
least Shared i = 0
least Fixed i = 0
least Ceiling i = 0
least Arrival i = cond (i == 1) 1 0
least Run i = 1

-- the most: 100,000 for a need, 10,000 for a count of ticks, else what nine digits hold
abbrev pub most : Kind → ℕ → ℕ
most Scale i = 999999999
most High i = 999999999
most Low i = 999999999
most Shared i = 999999999
most Fixed i = 999999999
most Ceiling i = 999999999
most Arrival i = cond (i == 1) 100000 999999999
most Run i = 10000

abbrev pub right_value : Kind → ℕ → Option ℕ → Bool
right_value k i None = false
right_value k i (Some v) = in_range (least k i) (most k i) v

-- the numbers from place i on are well-formed and in range
abbrev pub right_numbers : Kind → ℕ → List (List ℕ) → Bool
right_numbers k i [] = true
right_numbers k i (f ∷ fs) = right_value k i (value f) && right_numbers k (i + 1) fs

-- 23, 21 and 22, in this order
abbrev pub item_fault : Phase → Kind → List (List ℕ) → Option ReaderRefusal
item_fault p k ns = first_of (unless (allowed p k) Order ∷ unless (right_count k (length ns)) Count ∷ unless (right_numbers k 0 ns) Number ∷ [])

abbrev pub judged : Option ReaderRefusal → Item → Result Item ReaderRefusal
judged None i = Ok i
judged (Some e) i = Err e

-- 20 comes first
abbrev pub by_kind : Phase → Option Kind → List (List ℕ) → Result Item ReaderRefusal
by_kind p None ns = Err Letter
by_kind p (Some k) ns = judged (item_fault p k ns) (item k ns)

abbrev pub by_fields : Phase → List (List ℕ) → Result Item ReaderRefusal
by_fields p [] = Err Letter
by_fields p (f ∷ fs) = by_kind p (kind_of f) fs

-- what a line says in a phase, or its fault
abbrev pub read : Phase → List ℕ → Result Item ReaderRefusal
read p line = by_fields p (fields line)
