-- With the shared rule in the place of fixed budgets, the first switch comes no sooner.
use Rattle.std.proofs.Common.{◌≡◌, ℕ, ◌+◌, ◌-◌, ◌≤◌, Bool, true, false, cond, leb, List, [], ◌∷◌, length, set, Some, None, Ok, Err, Option, Result, sym, refl, ap, ◌∙◌, arith}
use Rattle.std.proofs.lemmas.Bool.{le-leb, leb-true}
use Rattle.output.specs.declared.fault.Fault.{Fault}
use Rattle.output.specs.declared.fault.ReaderRefusal.{ReaderRefusal}
use Rattle.output.specs.declared.fault.ReaderRefusal.TheVariants.{Order, Length}
use Rattle.scenario.specs.declared.kind.Kind.TheVariants.{Shared, Fixed}
use Rattle.scenario.specs.declared.kind.Phase.{Phase}
use Rattle.scenario.specs.declared.kind.Phase.TheVariants.{Start, Tasks, Ruled, Events}
use Rattle.output.specs.declared.output.OutputLine.{OutputLine}
use Rattle.output.specs.Faults.{fault_at}
use Rattle.scenario.specs.Items.{Item, item, item_fault, judged, read}
use Rattle.scenario.specs.Kinds.{next_phase}
use Rattle.output.specs.Lines.{lines}
use Rattle.scenario.proofs.Joined.{lines_lack, lines_only}
use Rattle.transcript.specs.Contests.{is_fixed, under_shared, SharedLastsLongest}
use Rattle.transcript.specs.Shows.{listed}
use Rattle.transcript.specs.Stages.{Stage, opening, left_lines, left_stage}
use Rattle.transcript.specs.Steps.{Step, step}
use Rattle.transcript.specs.Transcripts.{fault_lines, carried_out, by_reading, lines_transcript, transcript}
use Rattle.transcript.proofs.Counted.{Sooner, sooner_behind, fault_sooner}
use Rattle.transcript.proofs.Beside.{Beside, rules_paired, carried_sooner, lines_sooner}
use Rattle.transcript.proofs.Replaced.{Replaced, set_replaced, fixed_read, no_longer, replaced_lacks}

-- the replaced line

judged_sooner : (n : ℕ) (s : Stage) (ns : List (List ℕ)) (rest : Phase → Stage → List OutputLine) → ((t t' : Stage) → Beside t t' → Sooner (rest Ruled t') (rest Ruled t)) → (f : Option ReaderRefusal)
    → Sooner (by_reading n s (judged f (item Fixed ns)) rest) (by_reading n s (Ok (item Shared [])) rest)
judged_sooner n s ns rest g None = carried_sooner _ _ (rules_paired n ns s) (rest Ruled) g
judged_sooner n s ns rest g (Some e) = fault_sooner (fault_at n e) _

rule_sooner : (p : Phase) (n : ℕ) (s : Stage) (ns : List (List ℕ)) (rest : Phase → Stage → List OutputLine) → ((t t' : Stage) → Beside t t' → Sooner (rest Ruled t') (rest Ruled t))
    → Sooner (by_reading n s (judged (item_fault p Fixed ns) (item Fixed ns)) rest) (by_reading n s (read p (77 ∷ [])) rest)
rule_sooner Start n s ns rest g = fault_sooner (fault_at n Order) _
rule_sooner Tasks n s ns rest g = judged_sooner n s ns rest g (item_fault Tasks Fixed ns)
rule_sooner Ruled n s ns rest g = fault_sooner (fault_at n Order) _
rule_sooner Events n s ns rest g = fault_sooner (fault_at n Order) _

line_sooner : (p : Phase) (n : ℕ) (s : Stage) (l : List ℕ) (rest : Phase → Stage → List OutputLine) → ((t t' : Stage) → Beside t t' → Sooner (rest Ruled t') (rest Ruled t)) → is_fixed l ≡ true
    → (r : Result Item ReaderRefusal) → read p l ≡ r → Sooner (by_reading n s r rest) (by_reading n s (read p (77 ∷ [])) rest)
line_sooner p n s l rest g e r q =
    let f = fixed_read p l e in
    let same : r ≡ judged (item_fault p Fixed f.0) (item Fixed f.0) = sym q ∙ f.1 in
    rw same (rule_sooner p n s f.0 rest g)

-- the lines before it are carried out alike

carried_alike : (r : Result Step Fault) (xs ys : Stage → List OutputLine) → ((s : Stage) → Sooner (xs s) (ys s)) → Sooner (carried_out r xs) (carried_out r ys)
carried_alike (Ok s) xs ys h = sooner_behind (listed s.printed) _ _ (sooner_behind (left_lines s.left s.stage) _ _ (h (left_stage s.left s.stage)))
carried_alike (Err f) xs ys h = fault_sooner f _

read_alike : (n : ℕ) (s : Stage) (r : Result Item ReaderRefusal) (xs ys : Phase → Stage → List OutputLine) → ((p : Phase) (t : Stage) → Sooner (xs p t) (ys p t)) → Sooner (by_reading n s r xs) (by_reading n s r ys)
read_alike n s (Ok i) xs ys h = carried_alike (step n i s) _ _ (h (next_phase i.kind))
read_alike n s (Err e) xs ys h = fault_sooner (fault_at n e) _

replaced_sooner : (ls ms : List (List ℕ)) → Replaced ls ms → (p : Phase) (n : ℕ) (s : Stage) → Sooner (lines_transcript ls p n s) (lines_transcript ms p n s)
unfolding lines_transcript
replaced_sooner ls ms (Replaced.here l rest e) p n s = line_sooner p n s l _ (lines_sooner rest Ruled (n + 1)) e (read p l) refl
replaced_sooner ls ms (Replaced.later l rest rest' r) p n s = read_alike n s (read p l) _ _ (λ q t. replaced_sooner rest rest' r q (n + 1) t)

-- the text

text_is : (text : List ℕ) (ls : List (List ℕ)) → length text ≤ 65536 → lines text ≡ ls → transcript text ≡ lines_transcript ls Start 1 opening
text_is text ls h e = ap (λ b. cond b (lines_transcript (lines text) Start 1 opening) (fault_lines (fault_at 0 Length))) (le-leb (length text) 65536 h) ∙ ap (λ x. lines_transcript x Start 1 opening) e

pub shared_lasts_longest : SharedLastsLongest
shared_lasts_longest text n e = go (leb (length text) 65536) refl
  where
    r : Replaced (lines text) (set (lines text) (n - 1) (77 ∷ []))
    r = set_replaced (lines text) (n - 1) e

    go : (b : Bool) → leb (length text) 65536 ≡ b → Sooner (cond b (lines_transcript (lines text) Start 1 opening) (fault_lines (fault_at 0 Length))) (transcript (under_shared text n))
    go true q =
        let short = no_longer text _ r in
        let few = leb-true (length text) 65536 q in
        rw (text_is (under_shared text n) _ (omega arith) (lines_only _ (replaced_lacks _ _ r (lines_lack text)))) (replaced_sooner _ _ r Start 1 opening)
    go false q = fault_sooner (fault_at 0 Length) _
