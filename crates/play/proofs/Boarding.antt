-- What a board has still to print, before and after it reads a line.
use Rattle.std.proofs.Common.{◌≡◌, ℕ, zero, suc, ◌-◌, ◌<◌, List, [], ◌∷◌, ◌++◌, length, drop, Some, None, Ok, Err, Option, Result, sym, ap, ◌∙◌, subst, arith}
use Rattle.std.proofs.lemmas.List.{append-nil}
use Rattle.runs.specs.declared.answer.Answer.{Answer}
use Rattle.output.specs.declared.fault.Fault.{Fault}
use Rattle.output.specs.declared.output.OutputLine.{OutputLine}
use Rattle.output.specs.declared.output.OutputLine.TheVariants.{Faulted}
use Rattle.scenario.specs.declared.place.Place.{Place}
use Rattle.scenario.specs.declared.place.Reader.{Reader}
use Rattle.scenario.specs.Items.{Item}
use Rattle.scenario.specs.Left.{first, others}
use Rattle.scenario.specs.Readers.{text_of, place_of, lines_left}
use Rattle.output.specs.Lines.{lines}
use Rattle.scenario.specs.Reading.{next, moved}
use Rattle.scenario.proofs.Whole.{fewer}
use Rattle.transcript.specs.Shows.{answer_lines, listed}
use Rattle.transcript.specs.Stages.{Stage, left_lines, left_stage}
use Rattle.transcript.specs.Steps.{Step, step}
use Rattle.transcript.specs.Transcripts.{transcript_from, carried_out}
use Rattle.play.specs.declared.board.Board.{Board}
use Rattle.play.specs.declared.course.Course.{Course}
use Rattle.play.specs.declared.course.Printed.{Printed}
use Rattle.play.specs.Boards.{upcoming, to_come, turns_of, LeadsOn, CarriesOn, Reads}
use Rattle.play.specs.Courses.{stage_of, result_of, Goes_on, Halts}
use Rattle.play.proofs.Reading.{by_next, from_next}
use Rattle.play.proofs.Ticked.{upcoming_none, upcoming_halts, upcoming_goes}

-- a tick of those that are left

module _ (r : Option Reader) where
  pub left_halts : (n : ℕ) (s s' : Stage) → 0 < n → Halts s s' → upcoming r 0 s' ≡ upcoming r n s
  left_halts zero s s' h halts = absurd (omega arith)
  left_halts (suc k) s s' h halts = upcoming_halts r k s s' halts

  pub left_goes : (n : ℕ) (s s' : Stage) (a : Answer) → 0 < n → Goes_on s s' a → upcoming r n s ≡ answer_lines a ++ upcoming r (n - 1) s'
  left_goes zero s s' a h goes = absurd (omega arith)
  left_goes (suc k) s s' a h goes =
      let less : suc k - 1 ≡ k = omega arith in
      upcoming_goes r k s s' a goes ∙ ap (λ m. answer_lines a ++ upcoming r m s') (sym less)

-- with nothing left, nothing is to come once the board is over
pub nothing_to_come : (left : ℕ) (s : Stage) → left ≡ 0 → upcoming None left s ≡ []
nothing_to_come left s el = ap (λ n. upcoming None n s) el ∙ upcoming_none None s

-- a line is read

module _ (text : List ℕ) (s : Place) (stage : Stage) where
  by_line : (r : Result (Option Item) Fault) → r ≡ next text s → by_next text s stage r ≡ transcript_from text s stage
  by_line r is = ap (by_next text s stage) is ∙ sym (from_next text s stage)

  pub ends : Ok None ≡ next text s → [] ≡ transcript_from text s stage
  ends is = by_line (Ok None) is

  pub faults : (f : Fault) → Err f ≡ next text s → Faulted f ∷ [] ≡ transcript_from text s stage
  faults f is = by_line (Err f) is

  module _ (i : Item) (is : Ok (Some i) ≡ next text s) (n : ℕ) (numbered : n ≡ s.line) where
    behind : Stage → List OutputLine
    behind nx = transcript_from text (moved text s (Ok (Some i))) nx

    by_step : (r : Result Step Fault) → r ≡ step n i stage → carried_out r behind ≡ transcript_from text s stage
    unfolding behind
    by_step r e = ap (λ x. carried_out x behind) (e ∙ ap (λ k. step k i stage) numbered) ∙ by_line (Ok (Some i)) is

    pub stops : (f : Fault) → Err f ≡ step n i stage → Faulted f ∷ [] ≡ transcript_from text s stage
    stops f e = by_step (Err f) e

    pub leads_on : (p : Printed) (after : Stage) (r : Reader) → Ok (record { printed = p.line; left = p.left; stage = after }) ≡ step n i stage
        → text_of r ≡ text → place_of r ≡ moved text s (Ok (Some i)) → listed p.line ++ upcoming (Some r) p.left after ≡ transcript_from text s stage
    unfolding behind
    leads_on p after r e et ep =
        ap (λ x. listed p.line ++ (left_lines p.left after ++ transcript_from x (place_of r) (left_stage p.left after))) et
        ∙ ap (λ x. listed p.line ++ (left_lines p.left after ++ transcript_from text x (left_stage p.left after))) ep
        ∙ by_step (Ok (record { printed = p.line; left = p.left; stage = after })) e

    pub fewer_lines : (ls : List (List ℕ)) → ls ≡ others (lines (drop s.at text)) → length ls < length (lines (drop s.at text))
    fewer_lines ls e = omega (arith, ap length e, fewer text s i (sym is))

-- a line that is carried out, as the board is told

abbrev pub told : Result Printed Fault → Result (Option Printed) Fault
told (Ok p) = Ok (Some p)
told (Err f) = Err f

pub carries_on : (r r' : Reader) (c c' : Course) (i : Item) (n : ℕ) (q : Result Printed Fault) (m : Result (Option Printed) Fault)
    → Ok (Some i) ≡ next (text_of r) (place_of r) → n ≡ (place_of r).line → text_of r' ≡ text_of r → place_of r' ≡ moved (text_of r) (place_of r) (Ok (Some i)) → lines_left r' ≡ others (lines_left r)
    → result_of q (stage_of c') ≡ step n i (stage_of c) → m ≡ told q → CarriesOn m r c r' c'
carries_on r r' c c' i n q m is numbered et ep el e em = subst Carries (sym em) (by q e)
  where
    Carries : Result (Option Printed) Fault → Type 0
    Carries x = CarriesOn x r c r' c'

    by : (q : Result Printed Fault) → result_of q (stage_of c') ≡ step n i (stage_of c) → CarriesOn (told q) r c r' c'
    by (Ok p) e = record {
      same = leads_on (text_of r) (place_of r) (stage_of c) i is n numbered p (stage_of c') r' e et ep;
      fewer = fewer_lines (text_of r) (place_of r) (stage_of c) i is n numbered (lines_left r') el;
    }
    by (Err f) e = stops (text_of r) (place_of r) (stage_of c) i is n numbered f e

-- a board that waits for its next line

pub over_behind : (held : Option OutputLine) (o : Option Reader) (left : ℕ) (s : Stage) → o ≡ None → left ≡ 0 → listed held ++ upcoming o left s ≡ listed held
over_behind held o left s er el =
    ap (λ x. listed held ++ upcoming x left s) er
    ∙ ap (λ n. listed held ++ upcoming None n s) el
    ∙ ap (λ ls. listed held ++ ls) (upcoming_none None s)
    ∙ append-nil (listed held)

module _ (b b' : Board) (r : Reader) (held : b.held ≡ None) (left : b.left ≡ 0) (there : Some r ≡ b.reader) where
  pub rest_to_come : transcript_from (text_of r) (place_of r) (stage_of b.course) ≡ to_come b
  rest_to_come =
      sym (upcoming_none (Some r) (stage_of b.course))
      ∙ ap (λ n. upcoming (Some r) n (stage_of b.course)) (sym left)
      ∙ ap (λ x. upcoming x b.left (stage_of b.course)) there
      ∙ ap (λ x. listed x ++ upcoming b.reader b.left (stage_of b.course)) (sym held)

  -- reads a line
  pub goes_on : (p : Printed) (r' : Reader) → LeadsOn p r (stage_of b.course) r' (stage_of b'.course) → b'.held ≡ p.line → b'.left ≡ p.left → b'.reader ≡ Some r' → Reads b b'
  goes_on p r' on eh el er = record {
    same =
        ap (λ x. listed x ++ upcoming b'.reader b'.left (stage_of b'.course)) eh
        ∙ ap (λ n. listed p.line ++ upcoming b'.reader n (stage_of b'.course)) el
        ∙ ap (λ x. listed p.line ++ upcoming x p.left (stage_of b'.course)) er
        ∙ on.same
        ∙ rest_to_come;
    fewer = omega (arith, on.fewer, ap turns_of there, ap turns_of er);
  }

  -- comes to the end of its text or to a fault
  pub comes_to_end : listed b'.held ≡ transcript_from (text_of r) (place_of r) (stage_of b.course) → b'.left ≡ 0 → b'.reader ≡ None → Reads b b'
  comes_to_end last el er = record { same = over_behind b'.held b'.reader b'.left (stage_of b'.course) er el ∙ last ∙ rest_to_come; fewer = omega (arith, ap turns_of there, ap turns_of er) }

-- the first line and the others

pub line_first : (ls rest : List OutputLine) (l : OutputLine) → ls ≡ l ∷ rest → (Some l ≡ first ls) × (rest ≡ others ls)
line_first ls rest l e = (ap first (sym e), ap others (sym e))

pub none_first : (ls : List OutputLine) → ls ≡ [] → (None ≡ first ls) × (ls ≡ others ls)
none_first ls e = (ap first (sym e), e ∙ ap others (sym e))
