-- The next item of a text at a place, by the bytes from there.
use Rattle.std.proofs.Common.{◌≡◌, ℕ, ◌+◌, ◌-◌, ◌<◌, ◌≤◌, List, ◌∷◌, length, take, drop, sym, ap, ◌∙◌, add_assoc, arith, length-drop}
use Rattle.std.proofs.lemmas.List.{drop_all, drop-drop}
use Rattle.std.proofs.lemmas.Bool.{le-leb}
use Rattle.scenario.specs.declared.place.Place.{Place}
use Rattle.scenario.specs.Items.{read}
use Rattle.output.specs.Lines.{lines, before}
use Rattle.scenario.specs.Reading.{next, at_end, on_line}
use Rattle.scenario.proofs.Pieces.{before_part, lines_first}

pub lines_at : (text : List ℕ) (at : ℕ) → at < length text → lines (drop at text) ≡ before 10 (drop at text) ∷ lines (drop (at + length (before 10 (drop at text)) + 1) text)
lines_at text at h =
    let n = length (before 10 (drop at text)) in
    let some : 0 < length (drop at text) = simp length-drop (omega arith) in
    lines_first (drop at text) some ∙ ap (λ xs. before 10 (drop at text) ∷ lines xs) (drop-drop (n + 1) at text ∙ ap (λ m. drop m text) (sym (add_assoc at n 1)))

pub next_end : (text : List ℕ) (s : Place) → length text ≤ 65536 → length text ≤ s.at → next text s ≡ at_end s.phase s.line
next_end text s h e = rw (le-leb (length text) 65536 h, drop_all s.at text e)

pub next_line : (text : List ℕ) (s : Place) → length text ≤ 65536 → s.at < length text → next text s ≡ on_line s.line (read s.phase (before 10 (drop s.at text)))
next_line text s h e = rw (le-leb (length text) 65536 h, lines_at text s.at e)

-- the part of the text that is its line
pub line_part : (text : List ℕ) (at end : ℕ) → end ≡ at + length (before 10 (drop at text)) → take (end - at) (drop at text) ≡ before 10 (drop at text)
line_part text at end e = let n : end - at ≡ length (before 10 (drop at text)) = omega arith in rw n (before_part 10 (drop at text))
