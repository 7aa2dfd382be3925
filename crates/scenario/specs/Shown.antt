-- A line as the reader hands it out, as what it says.
use Rattle.std.specs.Prelude.{[], ◌∷◌, Some, None, Ok, Err, Option, Result}
use Rattle.scenario.specs.declared.kind.Kind.TheVariants.{Scale as S, High as H, Low as L, Shared as M, Fixed as F, Ceiling as C, Arrival as A, Run as R}
use Rattle.scenario.specs.declared.lines.Line.{Line}
use Rattle.scenario.specs.declared.lines.Line.TheVariants.{Scale, High, Low, Shared, Fixed, Ceiling, Arrival, Run}
use Rattle.scenario.specs.Items.{Item, item}
use Rattle.scenario.specs.Left.{to_come}

abbrev pub shown : Line → Item
shown (Scale a b c d) = item S (a.now ∷ b.now ∷ c.now ∷ d.now ∷ [])
shown (High a b) = item H (a.now ∷ b.now ∷ [])
shown (Low a b c) = item L (a.now ∷ b.now ∷ c.now ∷ [])
shown Shared = item M []
shown (Fixed f) = item F (to_come f)
shown (Ceiling f) = item C (to_come f)
shown (Arrival a b) = item A (a.now ∷ b.now ∷ [])
shown (Run a) = item R (a.now ∷ [])

abbrev pub shown_some : Option Line → Option Item
shown_some None = None
shown_some (Some l) = Some (shown l)

abbrev pub shown_ok : {E : Type 0} → Result Line E → Result Item E
shown_ok (Ok l) = Ok (shown l)
shown_ok (Err e) = Err e
