-- Every text stays young: by the lines of the text, and by the ticks of a run.
use Rattle.std.proofs.Common.{◌≡◌, ℕ, zero, suc, ◌+◌, Bool, true, false, cond, leb, List, [], ◌∷◌, ◌++◌, length, take, Some, None, Ok, Err, Option, Result, refl}
use mathlib.Core.List.{reverse_aux, reverse_aux-append}
use Rattle.tasks.specs.declared.refusal.TableRefusal.{TableRefusal}
use Rattle.tasks.specs.declared.task.Task.{Task}
use Rattle.tasks.specs.declared.units.Ticks.{Ticks}
use Rattle.table.specs.Accepted.{Accepted}
use Rattle.table.specs.Verdict.{Draft, drafted, verdict}
use Rattle.table.proofs.Accepted.{accepted}
use Rattle.budget.specs.declared.refusal.CeilingRefusal.{CeilingRefusal}
use Rattle.budget.specs.declared.refusal.FixedRefusal.{FixedRefusal}
use Rattle.budget.specs.Making.{fixed_fault, ceiling_fault}
use Rattle.budget.specs.Slots.{ticks_in}
use Rattle.runs.specs.declared.answer.Answer.{Answer}
use Rattle.runs.specs.declared.refusal.TickRefusal.{TickRefusal}
use Rattle.runs.proofs.Keeps.{none≢some}
use Rattle.output.specs.declared.fault.Fault.{Fault}
use Rattle.output.specs.declared.fault.ReaderRefusal.{ReaderRefusal}
use Rattle.output.specs.declared.fault.ReaderRefusal.TheVariants.{Order, Length}
use Rattle.scenario.specs.declared.kind.Kind.{Kind}
use Rattle.scenario.specs.declared.kind.Kind.TheVariants.{Scale as S, High as H, Low as L, Shared as M, Fixed as F, Ceiling as C, Arrival as A, Run as R}
use Rattle.scenario.specs.declared.kind.Phase.{Phase}
use Rattle.scenario.specs.declared.kind.Phase.TheVariants.{Start}
use Rattle.output.specs.declared.output.OutputLine.{OutputLine}
use Rattle.output.specs.declared.output.OutputLine.TheVariants.{Switched}
use Rattle.output.specs.Faults.{fault_at}
use Rattle.scenario.specs.Items.{Item, read}
use Rattle.scenario.specs.Kinds.{next_phase, may_end}
use Rattle.output.specs.Lines.{lines}
use Rattle.transcript.specs.Ages.{shown_age, written_period, EveryTextStaysYoung}
use Rattle.transcript.specs.Policies.{shared_policy}
use Rattle.transcript.specs.Shows.{Show, new_show, ticking, after_ticking, listed, tick_line, answer_lines, lines_by, show_by, run_lines, run_show}
use Rattle.transcript.specs.Stages.{Stage, opening, tabling, ruled, showing, left_lines, left_stage}
use Rattle.transcript.specs.Steps.{nth, amounts, high_of, low_of, with_task, Step, on_rule, on_show, add_task, if_accepted, accepting, silent, if_fixed, if_ceiling, make_fixed, make_ceiling, arrive, run, step_by, step}
use Rattle.transcript.specs.Transcripts.{fault_lines, carried_out, by_reading, lines_transcript, transcript}
use Rattle.transcript.proofs.Lawfully.{Made}
use Rattle.transcript.proofs.Periods.{Behind, behind_none, behind_here, behind_next, first_number, Listed, listed_none, listed_more, linked}
use Rattle.transcript.proofs.Told.{YoungLines, Linked, Told, told_young, told_new, told_arrival, told_tick, switch_told}

-- lines behind those printed before, of which P has the latest first: each leaves every pending task young
abbrev pub AllYoung : List ℕ → List OutputLine → List OutputLine → Type 0
AllYoung text P [] = YoungLines text P
AllYoung text P (l ∷ out) = YoungLines text P × AllYoung text (l ∷ P) out

all_append : (text : List ℕ) (P xs ys : List OutputLine) → AllYoung text P xs → AllYoung text (reverse_aux xs P) ys → AllYoung text P (xs ++ ys)
all_append text P [] ys h g = g
all_append text P (x ∷ xs) ys h g = (h.0, all_append text (x ∷ P) xs ys h.1 g)

all_upto : (text : List ℕ) (P out : List OutputLine) (n : ℕ) → AllYoung text P out → YoungLines text (reverse_aux (take n out) P)
all_upto text P [] zero h = h
all_upto text P [] (suc n) h = h
all_upto text P (l ∷ out) zero h = h.0
all_upto text P (l ∷ out) (suc n) h = all_upto text (l ∷ P) out n h.1

fault_young : (text : List ℕ) (P : List OutputLine) (f : Fault) → YoungLines text P → AllYoung text P (fault_lines f)
unfolding shown_age
fault_young text P f h = (h, h)

-- no task is pending
abbrev pub Quiet : List OutputLine → Type 0
Quiet P = (i : ℕ) → shown_age i P ≡ None

quiet_young : (text : List ℕ) (P : List OutputLine) → Quiet P → YoungLines text P
quiet_young text P h i a e = absurd (none≢some a (h i) e)

-- ticks

answer_young : (text : List ℕ) (P : List OutputLine) (a : Answer) (b : Bool) → YoungLines text P
    → YoungLines text (reverse_aux (listed (cond b (Some (Switched a.clock a.dropped)) None) ++ (tick_line a ∷ [])) P)
    → AllYoung text P (listed (cond b (Some (Switched a.clock a.dropped)) None) ++ (tick_line a ∷ []))
answer_young text P a true h g = (h, ((λ i x e. h i x (switch_told i x a P e)), g))
answer_young text P a false h g = (h, g)

-- what n ticks print is young, and the dispatcher behind them is told by the lines behind them
pub record Ran (text : List ℕ) (P out : List OutputLine) (w : Show) : Type 0 where
  pub young : AllYoung text P out
  pub told : Told text w (reverse_aux out P)

ran_more : (text : List ℕ) (P xs ys : List OutputLine) (w : Show) → AllYoung text P xs → Ran text (reverse_aux xs P) ys w → Ran text P (xs ++ ys) w
ran_more text P xs ys w h r = record {
  young = all_append text P xs ys h r.young;
  told = rw (reverse_aux-append xs ys P) r.told;
}

runs : (text : List ℕ) (n : ℕ) (w : Show) (P : List OutputLine) → Told text w P → Ran text P (run_lines n w) (run_show n w)
unfolding run_lines run_show
runs text zero w P t = record { young = told_young text w P t; told = t }
runs text (suc n) w P t = go (ticking w) refl (runs text n (after_ticking w))
  where
    go : (r : Result Answer TickRefusal) → ticking w ≡ r → ((Q : List OutputLine) → Told text (after_ticking w) Q → Ran text Q (run_lines n (after_ticking w)) (run_show n (after_ticking w)))
        → Ran text P (lines_by r (run_lines n (after_ticking w))) (show_by r w (run_show n (after_ticking w)))
    go (Ok a) e rest =
        let t' = told_tick text w P a t e in
        ran_more text P (answer_lines a) (run_lines n (after_ticking w)) _
        (answer_young text P a a.switched (told_young text w P t) (told_young text (after_ticking w) _ t'))
        (rest (reverse_aux (answer_lines a) P) t')
    go (Err x) e rest = record { young = told_young text w P t; told = t }

-- stages

-- after n lines of a text, with these lines printed
abbrev pub Fine : List ℕ → ℕ → Stage → List OutputLine → Type 0
Fine text n opening P = (n ≡ 0) × Quiet P
Fine text n (tabling h b f ts) P = Listed text n ts × Quiet P
Fine text n (ruled d policy) P = Accepted d × Linked text d × Made d policy × Quiet P
Fine text n (showing w) P = Told text w P

fine_young : (text : List ℕ) (n : ℕ) (s : Stage) (P : List OutputLine) → Fine text n s P → YoungLines text P
fine_young text n opening P h = quiet_young text P h.1
fine_young text n (tabling x b f ts) P h = quiet_young text P h.1
fine_young text n (ruled d policy) P h = quiet_young text P h.3
fine_young text n (showing w) P h = told_young text w P h

pub record Left (text : List ℕ) (n : ℕ) (P out : List OutputLine) (s : Stage) : Type 0 where
  pub young : AllYoung text P out
  pub fine : Fine text n s (reverse_aux out P)

left_fine : (text : List ℕ) (n k : ℕ) (s : Stage) (P : List OutputLine) → Fine text n s P → Left text n P (left_lines k s) (left_stage k s)
left_fine text n k opening P h = record { young = quiet_young text P h.1; fine = h }
left_fine text n k (tabling x b f ts) P h = record { young = quiet_young text P h.1; fine = h }
left_fine text n k (ruled d policy) P h = record { young = quiet_young text P h.3; fine = h }
left_fine text n k (showing w) P h = let r = runs text k w P h in record { young = r.young; fine = r.told }

-- steps

abbrev pub Steps : List ℕ → ℕ → List OutputLine → Result Step Fault → Type 0
Steps text n P (Ok s) = Left text n P (listed s.printed) s.stage
Steps text n P (Err f) = Unit {0}

module _ (text : List ℕ) (n line : ℕ) (P : List OutputLine) where
  silent_fine : (s : Stage) → Fine text n s P → Left text n P [] s
  silent_fine s h = record { young = fine_young text n s P h; fine = h }

  accepted_fine : (d : Draft) (v : Option TableRefusal) (r : Result Step Fault) → verdict d ≡ v → (Accepted d → Steps text n P r) → Steps text n P (if_accepted v r)
  accepted_fine d None r e h = h (accepted d e)
  accepted_fine d (Some x) r e h = tt

  fixed_fine : (v : Option FixedRefusal) (r : Result Step Fault) → (v ≡ None → Steps text n P r) → Steps text n P (if_fixed line v r)
  fixed_fine None r h = h refl
  fixed_fine (Some x) r h = tt

  ceiling_fine : (v : Option CeilingRefusal) (r : Result Step Fault) → Steps text n P r → Steps text n P (if_ceiling line v r)
  ceiling_fine None r h = h
  ceiling_fine (Some x) r h = tt

  make_fixed_fine : (budgets : List Ticks) (d : Draft) → Accepted d → Linked text d → Quiet P → Steps text n P (make_fixed line budgets d)
  make_fixed_fine budgets d ok link q = fixed_fine (fixed_fault d budgets) _ (λ e. silent_fine (ruled d _) (ok, link, Made.fixed budgets e, q))

module _ (text : List ℕ) (n line : ℕ) (P : List OutputLine) (ns : List (List ℕ)) (first : nth ns 0 ≡ written_period text n) where
  start_fine : (s : Stage) → Fine text n s P → Steps text (n + 1) P (step_by line S ns s)
  start_fine opening h = silent_fine text (n + 1) line P (tabling _ _ _ []) (listed_none text n h.0, h.1)
  start_fine (tabling x b f ts) h = tt
  start_fine (ruled d policy) h = tt
  start_fine (showing w) h = tt

  task_fine : (t : Task) → t.period.0 ≡ written_period text n → (s : Stage) → Fine text n s P → Steps text (n + 1) P (add_task line t s)
  task_fine t e opening h = tt
  task_fine t e (tabling x b f ts) h = silent_fine text (n + 1) line P (tabling x b f (with_task ts t)) (listed_more text n ts t h.0 e, h.1)
  task_fine t e (ruled d policy) h = tt
  task_fine t e (showing w) h = tt

  accepting_fine : (make : Draft → Result Step Fault) → ((d : Draft) → Accepted d → Linked text d → Quiet P → Steps text (n + 1) P (make d)) → (s : Stage) → Fine text n s P → Steps text (n + 1) P (accepting line make s)
  accepting_fine make g opening h = tt
  accepting_fine make g (tabling x b f ts) h =
      let d = drafted x b f (length ts) ts in
      accepted_fine text (n + 1) line P d (verdict d) (make d) refl (λ ok. g d ok (linked text n x b f ts h.0) h.1)
  accepting_fine make g (ruled d policy) h = tt
  accepting_fine make g (showing w) h = tt

  rule_fine : (ceilings : List Ticks) (s : Stage) → Fine text n s P → Steps text (n + 1) P (on_rule line (make_ceiling line ceilings) s)
  rule_fine ceilings opening h = tt
  rule_fine ceilings (tabling x b f ts) h = tt
  rule_fine ceilings (ruled d policy) h =
      ceiling_fine text (n + 1) line P (ceiling_fault d ceilings) _
      (silent_fine text (n + 1) line P (showing _) (told_new text d _ P h.0 h.1 (Made.under (ticks_in ceilings) h.2) h.3))
  rule_fine ceilings (showing w) h = tt

  show_fine : (go : Show → Result Step Fault) → ((w : Show) → Told text w P → Steps text (n + 1) P (go w)) → (s : Stage) → Fine text n s P → Steps text (n + 1) P (on_show line go s)
  show_fine go g opening h = tt
  show_fine go g (tabling x b f ts) h = tt
  show_fine go g (ruled d policy) h = g (new_show d policy) (told_new text d policy P h.0 h.1 h.2 h.3)
  show_fine go g (showing w) h = g w h

  arrive_fine : (i need : ℕ) (w : Show) → Told text w P → Steps text (n + 1) P (arrive i need w)
  arrive_fine i need w t =
      let t' = told_arrival text w P i need t in
      record { young = (told_young text w P t, told_young text _ _ t'); fine = t' }

  step_fine : (k : Kind) (s : Stage) → Fine text n s P → Steps text (n + 1) P (step_by line k ns s)
  step_fine S s h = start_fine s h
  step_fine H s h = task_fine (high_of (nth ns 0) (nth ns 1)) first s h
  step_fine L s h = task_fine (low_of (nth ns 0) (nth ns 1) (nth ns 2)) first s h
  step_fine M s h = accepting_fine (λ d. silent (ruled d (shared_policy d))) (λ d ok link q. silent_fine text (n + 1) line P (ruled d _) (ok, link, Made.shared, q)) s h
  step_fine F s h = accepting_fine (make_fixed line (amounts ns)) (make_fixed_fine text (n + 1) line P (amounts ns)) s h
  step_fine C s h = rule_fine (amounts ns) s h
  step_fine A s h = show_fine (arrive (nth ns 0) (nth ns 1)) (arrive_fine (nth ns 0) (nth ns 1)) s h
  step_fine R s h = show_fine (run (nth ns 0)) (λ w t. silent_fine text (n + 1) line P (showing w) t) s h

-- lines

carried_young : (text : List ℕ) (n : ℕ) (P : List OutputLine) (r : Result Step Fault) (rest : Stage → List OutputLine) → YoungLines text P → Steps text n P r
    → ((s : Stage) (Q : List OutputLine) → Fine text n s Q → AllYoung text Q (rest s)) → AllYoung text P (carried_out r rest)
carried_young text n P (Ok s) rest y h g =
    let l = left_fine text n s.left s.stage (reverse_aux (listed s.printed) P) h.fine in
    all_append text P (listed s.printed) _ h.young (all_append text _ (left_lines s.left s.stage) _ l.young (g (left_stage s.left s.stage) _ l.fine))
carried_young text n P (Err f) rest y h g = fault_young text P f y

end_young : (text : List ℕ) (P : List OutputLine) (f : Fault) (b : Bool) → YoungLines text P → AllYoung text P (cond b [] (fault_lines f))
end_young text P f true h = h
end_young text P f false h = fault_young text P f h

lines_young : (text : List ℕ) (ls : List (List ℕ)) (n : ℕ) (p : Phase) (line : ℕ) (s : Stage) (P : List OutputLine) → Behind (lines text) n ls → Fine text n s P → AllYoung text P (lines_transcript ls p line s)
unfolding lines_transcript
lines_young text [] n p line s P at h = end_young text P (fault_at line Order) (may_end p) (fine_young text n s P h)
lines_young text (l ∷ ls) n p line s P at h = go (read p l) refl (λ q next Q. lines_young text ls (n + 1) q (line + 1) next Q (behind_next (lines text) n l ls at))
  where
    go : (r : Result Item ReaderRefusal) → read p l ≡ r → ((q : Phase) (next : Stage) (Q : List OutputLine) → Fine text (n + 1) next Q → AllYoung text Q (lines_transcript ls q (line + 1) next))
        → AllYoung text P (by_reading line s r (λ q next. lines_transcript ls q (line + 1) next))
    go (Ok i) e rest =
        carried_young text (n + 1) P (step line i s) _ (fine_young text n s P h)
        (step_fine text n line P i.numbers (first_number text n p l i (behind_here (lines text) n l ls at) e) i.kind s h)
        (rest (next_phase i.kind))
    go (Err x) e rest = fault_young text P (fault_at line x) (fine_young text n s P h)

nothing : Quiet []
unfolding shown_age
nothing i = refl

transcript_young : (text : List ℕ) → AllYoung text [] (transcript text)
transcript_young text = go (leb (length text) 65536)
  where
    go : (b : Bool) → AllYoung text [] (cond b (lines_transcript (lines text) Start 1 opening) (fault_lines (fault_at 0 Length)))
    go true = lines_young text (lines text) 0 Start 1 opening [] (behind_none (lines text)) (refl, nothing)
    go false = fault_young text [] (fault_at 0 Length) (quiet_young text [] nothing)

pub every_text_stays_young : EveryTextStaysYoung
every_text_stays_young text n i a e = all_upto text [] (transcript text) n (transcript_young text) i a e
