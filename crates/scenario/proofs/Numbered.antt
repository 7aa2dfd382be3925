-- The numbers of a line, each with its place.
use Rattle.std.proofs.Common.{◌≡◌, ℕ, ◌+◌, ◌&&◌, List, [], ◌∷◌, refl, ap}
use Rattle.std.specs.List.{list_all, enumerate_from}
use Rattle.scenario.specs.declared.kind.Kind.{Kind}
use Rattle.scenario.specs.Items.{right_value, right_numbers}
use Rattle.scenario.specs.Numbers.{value}

pub numbers_by_place : (k : Kind) (i : ℕ) (fs : List (List ℕ)) → list_all (λ p. right_value k p.0 (value p.1)) (enumerate_from i fs) ≡ right_numbers k i fs
numbers_by_place k i [] = refl
numbers_by_place k i (f ∷ fs) = ap (λ rest. right_value k i (value f) && rest) (numbers_by_place k (i + 1) fs)
