-- The periods of a table are those on the lines of its tasks.
use Rattle.std.proofs.Common.{◌≡◌, ℕ, suc, ◌+◌, ◌-◌, ◌<◌, ◌≤◌, Bool, true, false, cond, ltb, List, [], ◌∷◌, ◌++◌, length, get_or, Some, None, Ok, Option, sym, refl, ap, ◌∙◌, arith, length-append}
use native.Mathlib.Decide.{ℕ_discrete}
use lib.ListN.{get_or-append}
use lib.Seq.{get_or-append_seam}
use Rattle.std.proofs.lemmas.Bool.{ltb-true, ltb-false}
use Rattle.tasks.specs.declared.task.Factor.{Factor}
use Rattle.tasks.specs.declared.task.Task.{Task}
use Rattle.tasks.specs.declared.units.Shares.{Shares}
use Rattle.table.specs.Tasks.{blank, slot}
use Rattle.table.specs.Verdict.{drafted}
use Rattle.output.specs.declared.fault.ReaderRefusal.{ReaderRefusal}
use Rattle.scenario.specs.declared.kind.Kind.{Kind}
use Rattle.scenario.specs.declared.kind.Phase.{Phase}
use Rattle.scenario.specs.Items.{Item, item, item_fault, judged, by_kind, by_fields, read}
use Rattle.scenario.specs.Kinds.{kind_of}
use Rattle.output.specs.Lines.{lines, fields}
use Rattle.transcript.specs.Ages.{written_period}
use Rattle.transcript.specs.Steps.{amount, nth, with_task}
use Rattle.transcript.proofs.Told.{Linked}

-- the lines behind the first n
abbrev pub Behind : List (List ℕ) → ℕ → List (List ℕ) → Type 0
Behind all n rest = (k : ℕ) → get_or all (n + k) [] ≡ get_or rest k []

pub behind_none : (all : List (List ℕ)) → Behind all 0 all
behind_none all k = let e : 0 + k ≡ k = omega arith in ap (λ x. get_or all x []) e

pub behind_here : (all : List (List ℕ)) (n : ℕ) (l : List ℕ) (ls : List (List ℕ)) → Behind all n (l ∷ ls) → get_or all n [] ≡ l
behind_here all n l ls h = let e : n ≡ n + 0 = omega arith in ap (λ x. get_or all x []) e ∙ h 0

pub behind_next : (all : List (List ℕ)) (n : ℕ) (l : List ℕ) (ls : List (List ℕ)) → Behind all n (l ∷ ls) → Behind all (n + 1) ls
behind_next all n l ls h k = let e : n + 1 + k ≡ n + suc k = omega arith in ap (λ x. get_or all x []) e ∙ h (suc k)

-- the numbers of a line are its fields behind the letter

judged_item : (f : Option ReaderRefusal) (x i : Item) → judged f x ≡ Ok i → x ≡ i
judged_item None x i e = cc
judged_item (Some r) x i e = let z : ◌≡◌ {A = ℕ} 0 1 = cc in absurd (omega arith)

kind_numbers : (p : Phase) (k : Option Kind) (ns : List (List ℕ)) (i : Item) → by_kind p k ns ≡ Ok i → ns ≡ i.numbers
kind_numbers p None ns i e = let z : ◌≡◌ {A = ℕ} 0 1 = cc in absurd (omega arith)
kind_numbers p (Some k) ns i e = ap (λ (x : Item). x.numbers) (judged_item (item_fault p k ns) (item k ns) i e)

fields_numbers : (p : Phase) (fs : List (List ℕ)) (i : Item) → by_fields p fs ≡ Ok i → (k : ℕ) → get_or i.numbers k [] ≡ get_or fs (suc k) []
fields_numbers p [] i e k = let z : ◌≡◌ {A = ℕ} 0 1 = cc in absurd (omega arith)
fields_numbers p (f ∷ fs) i e k = ap (λ (x : List (List ℕ)). get_or x k []) (sym (kind_numbers p (kind_of f) fs i e))

-- so the first number of line n + 1 is what the text gives task n as its period
pub first_number : (text : List ℕ) (n : ℕ) (p : Phase) (l : List ℕ) (i : Item) → get_or (lines text) n [] ≡ l → read p l ≡ Ok i → nth i.numbers 0 ≡ written_period text n
first_number text n p l i here e = ap amount (fields_numbers p (fields l) i e 0 ∙ ap (λ (x : List ℕ). get_or (fields x) 1 []) (sym here))

-- the tasks so far, after n lines
pub record Listed (text : List ℕ) (n : ℕ) (ts : List Task) : Type 0 where
  pub counted : length ts ≤ 32 → n ≡ length ts + 1
  pub periods : (k : ℕ) → k < length ts → (slot ts k).period.0 ≡ written_period text (k + 1)

pub listed_none : (text : List ℕ) (n : ℕ) → n ≡ 0 → Listed text (n + 1) []
listed_none text n e = record { counted = λ h. omega arith; periods = λ k l. absurd (omega (arith, l)) }

pub listed_more : (text : List ℕ) (n : ℕ) (ts : List Task) (t : Task) → Listed text n ts → t.period.0 ≡ written_period text n → Listed text (n + 1) (with_task ts t)
listed_more text n ts t was e = go (ltb (length ts) 33) refl
  where
    own : n ≡ length ts + 1 → (k : ℕ) → k ≡ length ts → (slot (ts ++ (t ∷ [])) k).period.0 ≡ written_period text (k + 1)
    own q k same =
        let at : n ≡ k + 1 = omega arith in
        ap (λ x. (get_or (ts ++ (t ∷ [])) x blank).period.0) same ∙ ap (λ (x : Task). x.period.0) (get_or-append_seam ts t [] blank) ∙ e ∙ ap (written_period text) at

    go : (b : Bool) → ltb (length ts) 33 ≡ b → Listed text (n + 1) (cond b (ts ++ (t ∷ [])) ts)
    go true q =
        let few = ltb-true (length ts) 33 q in
        let counted = was.counted (omega arith) in
        record {
          counted = λ h. omega (arith, length-append ts (t ∷ []));
          periods = λ k l. elim (ℕ_discrete k (length ts)) [
            | yes same ↦ own counted k same
            | no ne ↦ let low : k < length ts = omega (arith, length-append ts (t ∷ [])) in ap (λ (x : Task). x.period.0) (get_or-append ts (t ∷ []) blank k low) ∙ was.periods k low
          ];
        }
    go false q =
        let many = ltb-false (length ts) 33 q in
        record { counted = λ h. absurd (omega arith); periods = was.periods }

pub linked : (text : List ℕ) (n : ℕ) (h b : Shares) (f : Factor) (ts : List Task) → Listed text n ts → Linked text (drafted h b f (length ts) ts)
linked text n h b f ts was i known =
    let low : i - 1 < length ts = omega (arith, known.low, known.high) in
    let same : i - 1 + 1 ≡ i = omega (arith, known.low) in
    was.periods (i - 1) low ∙ ap (written_period text) same
