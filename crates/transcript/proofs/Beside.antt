-- The same lines from two stages whose rules stand in lockstep: the run under the narrower rule switches no later.
use Rattle.std.proofs.Common.{◌≡◌, ℕ, ◌+◌, List, [], ◌∷◌, length, Some, None, Ok, Err, Option, Result, refl, arith}
use Rattle.tasks.specs.declared.refusal.TableRefusal.{TableRefusal}
use Rattle.tasks.specs.declared.units.Ticks.{Ticks}
use Rattle.table.specs.Verdict.{Draft, drafted, verdict}
use Rattle.budget.specs.declared.refusal.CeilingRefusal.{CeilingRefusal}
use Rattle.budget.specs.declared.refusal.FixedRefusal.{FixedRefusal}
use Rattle.budget.specs.Making.{fixed_fault, ceiling_fault}
use Rattle.budget.specs.Rules.{policy_under}
use Rattle.budget.specs.Slots.{ticks_in}
use Rattle.runs.specs.Arrivals.{arrival, after_arrival}
use Rattle.output.specs.declared.fault.Fault.{Fault}
use Rattle.output.specs.declared.fault.ReaderRefusal.{ReaderRefusal}
use Rattle.scenario.specs.declared.kind.Kind.{Kind}
use Rattle.scenario.specs.declared.kind.Kind.TheVariants.{Scale as S, High as H, Low as L, Shared as M, Fixed as F, Ceiling as C, Arrival as A, Run as R}
use Rattle.scenario.specs.declared.kind.Phase.{Phase}
use Rattle.output.specs.declared.output.OutputLine.{OutputLine}
use Rattle.output.specs.Faults.{fault_at}
use Rattle.scenario.specs.Items.{Item, read}
use Rattle.scenario.specs.Kinds.{next_phase}
use Rattle.transcript.specs.Policies.{Policy, shared_policy, fixed_policy}
use Rattle.transcript.specs.Shows.{Show, new_show, need_after, listed}
use Rattle.transcript.specs.Stages.{Stage, opening, tabling, ruled, showing, left_lines, left_stage}
use Rattle.transcript.specs.Steps.{Step, nth, amounts, silent, if_accepted, if_fixed, if_ceiling, make_fixed, make_ceiling, arrive, run, step_by, step}
use Rattle.transcript.specs.Transcripts.{carried_out, by_reading, lines_transcript}
use Rattle.transcript.proofs.Counted.{Sooner, sooner_behind, fault_sooner, Leads}
use Rattle.transcript.proofs.Lawfully.{Made, rest_reach}
use Rattle.transcript.proofs.Lockstep.{Wider, shared_wider, under_wider, Agree, runs_lead}

pub data Beside : Stage → Stage → Type 0 where
  rules : (d : Draft) (wide policy : Policy) (made : Made d policy) → Wider made wide → Beside (ruled d wide) (ruled d policy)
  shows : (w v : Show) → Agree w v → Beside (showing w) (showing v)

new_agree : (d : Draft) (wide policy : Policy) (made : Made d policy) → Wider made wide → Agree (new_show d wide) (new_show d policy)
new_agree d wide policy made h = Agree.agree d wide policy made h (λ i. 0) (rest_reach made) _ (λ i. 0)

-- what a line leads to from both: the second fails, or they go on beside each other
pub data Paired : Result Step Fault → Result Step Fault → Type 0 where
  fails : (r : Result Step Fault) (f : Fault) → Paired r (Err f)
  goes : (o : Option OutputLine) (k : ℕ) (s t : Stage) → Beside s t → Paired (Ok (record { printed = o; left = k; stage = s })) (Ok (record { printed = o; left = k; stage = t }))

ceiling_paired : (n : ℕ) (ceilings : List Ticks) (d : Draft) (wide policy : Policy) (made : Made d policy) → Wider made wide → Paired (make_ceiling n ceilings d wide) (make_ceiling n ceilings d policy)
ceiling_paired n ceilings d wide policy made h = go (ceiling_fault d ceilings)
  where
    go : (f : Option CeilingRefusal) → Paired (if_ceiling n f (silent (showing (new_show d (policy_under wide (ticks_in ceilings)))))) (if_ceiling n f (silent (showing (new_show d (policy_under policy (ticks_in ceilings))))))
    go None = Paired.goes None 0 _ _ (Beside.shows _ _ (new_agree d _ _ (Made.under (ticks_in ceilings) made) (under_wider made wide (ticks_in ceilings) h)))
    go (Some e) = Paired.fails _ _

arrive_paired : (i n : ℕ) (w v : Show) → Agree w v → Paired (arrive i n w) (arrive i n v)
arrive_paired i n w v (Agree.agree d wide policy made h longest r s need) =
    Paired.goes _ 0 _ _ (Beside.shows _ _ (Agree.agree d wide policy made h longest r (after_arrival d s i) (need_after (arrival d s i) need i n)))

run_paired : (n : ℕ) (w v : Show) → Agree w v → Paired (run n w) (run n v)
run_paired n w v a = Paired.goes None n _ _ (Beside.shows w v a)

step_paired : (n : ℕ) (k : Kind) (ns : List (List ℕ)) (s t : Stage) → Beside s t → Paired (step_by n k ns s) (step_by n k ns t)
step_paired n S ns s t (Beside.rules d wide policy made h) = Paired.fails _ _
step_paired n S ns s t (Beside.shows w v a) = Paired.fails _ _
step_paired n H ns s t (Beside.rules d wide policy made h) = Paired.fails _ _
step_paired n H ns s t (Beside.shows w v a) = Paired.fails _ _
step_paired n L ns s t (Beside.rules d wide policy made h) = Paired.fails _ _
step_paired n L ns s t (Beside.shows w v a) = Paired.fails _ _
step_paired n M ns s t (Beside.rules d wide policy made h) = Paired.fails _ _
step_paired n M ns s t (Beside.shows w v a) = Paired.fails _ _
step_paired n F ns s t (Beside.rules d wide policy made h) = Paired.fails _ _
step_paired n F ns s t (Beside.shows w v a) = Paired.fails _ _
step_paired n C ns s t (Beside.rules d wide policy made h) = ceiling_paired n (amounts ns) d wide policy made h
step_paired n C ns s t (Beside.shows w v a) = Paired.fails _ _
step_paired n A ns s t (Beside.rules d wide policy made h) = arrive_paired (nth ns 0) (nth ns 1) _ _ (new_agree d wide policy made h)
step_paired n A ns s t (Beside.shows w v a) = arrive_paired (nth ns 0) (nth ns 1) w v a
step_paired n R ns s t (Beside.rules d wide policy made h) = run_paired (nth ns 0) _ _ (new_agree d wide policy made h)
step_paired n R ns s t (Beside.shows w v a) = run_paired (nth ns 0) w v a

-- an M line beside an F line, from any stage

fixed_paired : (n : ℕ) (budgets : List Ticks) (d : Draft) → Paired (silent (ruled d (shared_policy d))) (make_fixed n budgets d)
fixed_paired n budgets d = go (fixed_fault d budgets) refl
  where
    go : (f : Option FixedRefusal) → fixed_fault d budgets ≡ f → Paired (silent (ruled d (shared_policy d))) (if_fixed n f (silent (ruled d (fixed_policy d budgets))))
    go None e = Paired.goes None 0 _ _ (Beside.rules d (shared_policy d) (fixed_policy d budgets) (Made.fixed budgets e) (shared_wider {d = d} (Made.fixed budgets e)))
    go (Some x) e = Paired.fails _ _

accepted_paired : (v : Option TableRefusal) (x y : Result Step Fault) → Paired x y → Paired (if_accepted v x) (if_accepted v y)
accepted_paired None x y h = h
accepted_paired (Some e) x y h = Paired.fails _ _

pub rules_paired : (n : ℕ) (ns : List (List ℕ)) (s : Stage) → Paired (step_by n M [] s) (step_by n F ns s)
rules_paired n ns opening = Paired.fails _ _
rules_paired n ns (tabling h b f ts) = let d = drafted h b f (length ts) ts in accepted_paired (verdict d) _ _ (fixed_paired n (amounts ns) d)
rules_paired n ns (ruled d policy) = Paired.fails _ _
rules_paired n ns (showing w) = Paired.fails _ _

-- lines

left_leads : (k : ℕ) (s t : Stage) → Beside s t → Leads (Beside (left_stage k s) (left_stage k t)) (left_lines k t) (left_lines k s)
left_leads k s t (Beside.rules d wide policy made h) = λ xs ys g. g (Beside.rules d wide policy made h)
left_leads k s t (Beside.shows w v a) = λ xs ys g. runs_lead k w v a xs ys (λ a'. g (Beside.shows _ _ a'))

pub carried_sooner : (x y : Result Step Fault) → Paired x y → (rest : Stage → List OutputLine) → ((s t : Stage) → Beside s t → Sooner (rest t) (rest s)) → Sooner (carried_out y rest) (carried_out x rest)
carried_sooner x y (Paired.fails r f) rest g = fault_sooner f _
carried_sooner x y (Paired.goes o k s t b) rest g = sooner_behind (listed o) _ _ (left_leads k s t b _ _ (g _ _))

pub lines_sooner : (ls : List (List ℕ)) (p : Phase) (n : ℕ) (s t : Stage) → Beside s t → Sooner (lines_transcript ls p n t) (lines_transcript ls p n s)
unfolding lines_transcript
lines_sooner [] p n s t b = omega arith
lines_sooner (l ∷ ls) p n s t b = go (read p l) (λ q s' t'. lines_sooner ls q (n + 1) s' t')
  where
    go : (r : Result Item ReaderRefusal) → ((q : Phase) (s' t' : Stage) → Beside s' t' → Sooner (lines_transcript ls q (n + 1) t') (lines_transcript ls q (n + 1) s'))
        → Sooner (by_reading n t r (λ q next. lines_transcript ls q (n + 1) next)) (by_reading n s r (λ q next. lines_transcript ls q (n + 1) next))
    go (Ok i) rest = carried_sooner (step n i s) (step n i t) (step_paired n i.kind i.numbers s t b) _ (rest (next_phase i.kind))
    go (Err e) rest = fault_sooner (fault_at n e) _
