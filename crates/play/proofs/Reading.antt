-- One line more of a text: its transcript by what the reader says.
use Rattle.std.proofs.Common.{◌≡◌, ℕ, ◌+◌, ◌<◌, Bool, true, false, cond, leb, List, [], ◌∷◌, length, drop, Some, None, Ok, Err, Option, Result, sym, refl, ap, ◌∙◌, arith}
use mathlib.Core.Path.{fun_ext}
use native.Mathlib.Decide.{dec_le}
use Rattle.std.proofs.lemmas.List.{drop_all}
use Rattle.output.specs.declared.fault.Fault.{Fault}
use Rattle.output.specs.declared.fault.ReaderRefusal.{ReaderRefusal}
use Rattle.output.specs.declared.fault.ReaderRefusal.TheVariants.{Order, Length}
use Rattle.output.specs.declared.output.OutputLine.{OutputLine}
use Rattle.scenario.specs.declared.place.Place.{Place}
use Rattle.output.specs.Faults.{fault_at}
use Rattle.scenario.specs.Items.{Item, read}
use Rattle.scenario.specs.Kinds.{next_phase, may_end}
use Rattle.output.specs.Lines.{lines, before}
use Rattle.scenario.specs.Reading.{next, next_of, on_line, moved}
use Rattle.scenario.proofs.Reading.{lines_at}
use Rattle.transcript.specs.Stages.{Stage}
use Rattle.transcript.specs.Steps.{step}
use Rattle.transcript.specs.Transcripts.{fault_lines, carried_out, by_reading, lines_transcript, transcript_from}

-- what an answer of the reader leads to
abbrev pub by_next : List ℕ → Place → Stage → Result (Option Item) Fault → List OutputLine
by_next text s stage (Ok None) = []
by_next text s stage (Ok (Some i)) = carried_out (step s.line i stage) (λ nx. transcript_from text (moved text s (Ok (Some i))) nx)
by_next text s stage (Err f) = fault_lines f

module _ (text : List ℕ) (s : Place) (stage : Stage) where
  inside : (l : List ℕ) (ls : List (List ℕ)) → lines (drop s.at text) ≡ l ∷ ls → s.at < length text
  inside l ls e = elim (dec_le (length text) s.at) [
    | yes h ↦
        let none : lines (drop s.at text) ≡ [] = ap lines (drop_all s.at text h) in
        let z : ◌≡◌ {A = ℕ} 0 1 = cc in
        absurd (omega arith)
    | no h ↦ omega (arith, h)
  ]

  behind : (l : List ℕ) (ls : List (List ℕ)) → lines (drop s.at text) ≡ l ∷ ls → lines (drop (s.at + length (before 10 (drop s.at text)) + 1) text) ≡ ls
  behind l ls e = let at = lines_at text s.at (inside l ls e) in cc

  by : (b : Bool) (ls : List (List ℕ)) → leb (length text) 65536 ≡ b → lines (drop s.at text) ≡ ls
      → cond b (lines_transcript ls s.phase s.line stage) (fault_lines (fault_at 0 Length)) ≡ by_next text s stage (cond b (next_of s.phase s.line ls) (Err (fault_at 0 Length)))
  unfolding lines_transcript
  by false ls eb el = refl
  by true [] eb el = ended (may_end s.phase)
    where
      ended : (m : Bool) → cond m [] (fault_lines (fault_at s.line Order)) ≡ by_next text s stage (cond m (Ok None) (Err (fault_at s.line Order)))
      ended true = refl
      ended false = refl
  by true (l ∷ ls) eb el = reading (read s.phase l)
    where
      rest : (i : Item) (nx : Stage) → lines_transcript ls (next_phase i.kind) (s.line + 1) nx ≡ transcript_from text (moved text s (Ok (Some i))) nx
      rest i nx =
          ap (λ x. lines_transcript x (next_phase i.kind) (s.line + 1) nx) (sym (behind l ls el))
          ∙ ap (λ b. cond b (lines_transcript (lines (drop (s.at + length (before 10 (drop s.at text)) + 1) text)) (next_phase i.kind) (s.line + 1) nx) (fault_lines (fault_at 0 Length))) (sym eb)

      reading : (r : Result Item ReaderRefusal) → by_reading s.line stage r (λ q nx. lines_transcript ls q (s.line + 1) nx) ≡ by_next text s stage (on_line s.line r)
      reading (Ok i) = ap (carried_out (step s.line i stage)) (fun_ext (rest i))
      reading (Err e) = refl

  pub from_next : transcript_from text s stage ≡ by_next text s stage (next text s)
  from_next = by (leb (length text) 65536) (lines (drop s.at text)) refl refl
