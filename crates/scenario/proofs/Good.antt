-- A line that is read is a good one.
use Rattle.std.proofs.Common.{◌≡◌, ℕ, Bool, true, false, List, [], ◌∷◌, length, Some, None, Ok, Option, refl, arith}
use Rattle.table.specs.Firsts.{first_of, unless}
use Rattle.output.specs.declared.fault.ReaderRefusal.TheVariants.{Order, Count, Number}
use Rattle.scenario.specs.declared.kind.Kind.{Kind}
use Rattle.scenario.specs.declared.kind.Phase.{Phase}
use Rattle.scenario.specs.Items.{Item, item, by_kind, by_fields, judged, read, right_count, right_numbers}
use Rattle.scenario.specs.Kinds.{kind_of, allowed}
use Rattle.output.specs.Lines.{fields}

abbrev Right : Item → Type 0
Right i = (right_count i.kind (length i.numbers) ≡ true) × (right_numbers i.kind 0 i.numbers ≡ true)

tests : (x y z : Bool) (a b : Item) → judged (first_of (unless x Order ∷ unless y Count ∷ unless z Number ∷ [])) a ≡ Ok b → (y ≡ true) × (z ≡ true) × (a ≡ b)
tests true true true a b e = (refl, refl, cc)
tests true true false a b e = let w : ◌≡◌ {A = ℕ} 0 1 = cc in absurd (omega arith)
tests true false z a b e = let w : ◌≡◌ {A = ℕ} 0 1 = cc in absurd (omega arith)
tests false y z a b e = let w : ◌≡◌ {A = ℕ} 0 1 = cc in absurd (omega arith)

kinds : (p : Phase) (o : Option Kind) (ns : List (List ℕ)) (i : Item) → by_kind p o ns ≡ Ok i → Right i
kinds p None ns i e = let w : ◌≡◌ {A = ℕ} 0 1 = cc in absurd (omega arith)
kinds p (Some k) ns i e = let t = tests (allowed p k) (right_count k (length ns)) (right_numbers k 0 ns) (item k ns) i e in rw (← t.2) (t.0, t.1)

lists : (p : Phase) (fs : List (List ℕ)) (i : Item) → by_fields p fs ≡ Ok i → Right i
lists p [] i e = let w : ◌≡◌ {A = ℕ} 0 1 = cc in absurd (omega arith)
lists p (f ∷ fs) i e = kinds p (kind_of f) fs i e

pub read_good : (p : Phase) (line : List ℕ) (i : Item) → read p line ≡ Ok i → Right i
read_good p line i e = lists p (fields line) i e
