-- One line more of a text: the fault of what is left stays, and fewer lines are left.
use Rattle.std.proofs.Common.{◌≡◌, ℕ, ◌<◌, ◌≤◌, Bool, true, false, cond, leb, List, length, drop, Some, None, Ok, Err, Option, Result, is_some, sym, refl, ap, ◌∙◌, arith}
use native.Mathlib.Decide.{dec_le}
use Rattle.std.proofs.lemmas.Bool.{leb-true, le-leb, false≢true}
use Rattle.output.specs.declared.fault.Fault.{Fault}
use Rattle.output.specs.declared.fault.ReaderRefusal.{ReaderRefusal}
use Rattle.output.specs.declared.fault.ReaderRefusal.TheVariants.{Order}
use Rattle.scenario.specs.declared.lines.Line.{Line}
use Rattle.scenario.specs.declared.place.Place.{Place}
use Rattle.output.specs.Faults.{fault_at}
use Rattle.scenario.specs.Items.{Item, read}
use Rattle.scenario.specs.Kinds.{may_end}
use Rattle.output.specs.Lines.{lines, before}
use Rattle.scenario.specs.Reading.{next, next_of, on_line, moved, lines_after, shown_next}
use Rattle.scenario.specs.Shown.{shown}
use Rattle.scenario.specs.Whole.{fault_from}
use Rattle.scenario.proofs.Reading.{lines_at, next_end, next_line}

within : (b : Bool) (x : Result _ Fault) (f : Fault) (i : Item) → cond b x (Err f) ≡ Ok (Some i) → b ≡ true
within true x f i e = refl
within false x f i e = let w : ◌≡◌ {A = ℕ} 0 1 = cc in absurd (omega arith)

not_end : (b : Bool) (f : Fault) (i : Item) → cond b (Ok None) (Err f) ≡ Ok (Some i) → ⊥
not_end true f i e = let w : ◌≡◌ {A = ℕ} 0 1 = cc in omega arith
not_end false f i e = let w : ◌≡◌ {A = ℕ} 0 1 = cc in omega arith

was_read : (n : ℕ) (r : Result Item ReaderRefusal) (i : Item) → on_line n r ≡ Ok (Some i) → r ≡ Ok i
was_read n (Ok j) i e = let s : j ≡ i = cc in ap Ok s
was_read n (Err f) i e = let w : ◌≡◌ {A = ℕ} 0 1 = cc in absurd (omega arith)

module _ (text : List ℕ) (s : Place) (i : Item) (e : next text s ≡ Ok (Some i)) where
  short : length text ≤ 65536
  short = leb-true (length text) 65536 (within (leb (length text) 65536) (next_of s.phase s.line (lines (drop s.at text))) _ i e)

  inside : s.at < length text
  inside = elim (dec_le (length text) s.at) [
    | yes h ↦ absurd (not_end (may_end s.phase) (fault_at s.line Order) i (sym (next_end text s short h) ∙ e))
    | no h ↦ omega (arith, h)
  ]

  read_is : read s.phase (before 10 (drop s.at text)) ≡ Ok i
  read_is = was_read s.line (read s.phase (before 10 (drop s.at text))) i (sym (next_line text s short inside) ∙ e)

  pub fault_same : fault_from text (moved text s (Ok (Some i))) ≡ fault_from text s
  fault_same = rw (le-leb (length text) 65536 short, lines_at text s.at inside, read_is)

  pub fewer : length (lines_after (Ok (Some i)) (lines (drop s.at text))) < length (lines (drop s.at text))
  fewer = rw (lines_at text s.at inside) (omega arith)

-- the same of a reader's answer that is a line
pub answer_same : (text : List ℕ) (s : Place) (o : Option Line) → is_some o ≡ true → shown_next (Ok o) ≡ next text s → fault_from text (moved text s (shown_next (Ok o))) ≡ fault_from text s
answer_same text s None some is = absurd (false≢true some)
answer_same text s (Some l) some is = fault_same text s (shown l) (sym is)

-- and fewer lines are left behind it
module _ (text : List ℕ) (s : Place) (r : Result (Option Line) Fault) (o : Option Line) (l : Line) (ok : r ≡ Ok o) (some : o ≡ Some l) (is : shown_next r ≡ next text s) where
  item : shown_next r ≡ Ok (Some (shown l))
  item = rw (ok, some)

  pub answer_fewer : length (lines_after (shown_next r) (lines (drop s.at text))) < length (lines (drop s.at text))
  answer_fewer = rw item (fewer text s (shown l) (sym is ∙ item))
