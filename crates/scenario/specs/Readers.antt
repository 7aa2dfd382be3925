-- A reader's text, its place, and the lines that are still to come.
use Rattle.std.specs.Prelude.{ℕ, List, drop}
use Rattle.scenario.specs.declared.place.Place.{Place}
use Rattle.scenario.specs.declared.place.Reader.{Reader}
use Rattle.output.specs.Lines.{lines}

abbrev pub text_of : Reader → List ℕ
text_of r = r.text.now

abbrev pub place_of : Reader → Place
place_of r = r.place

abbrev pub lines_left : Reader → List (List ℕ)
lines_left r = lines (drop (place_of r).at (text_of r))
