-- Two runs of the board under two rules, of which one says yes wherever the other does: they are alike until the other switches.
use Rattle.std.proofs.Common.{◌≡◌, ℕ, zero, suc, Bool, true, false, cond, not, ◌&&◌, eqb, ltb, leb, List, Some, None, Ok, Err, Option, Result, refl, ap, ◌∙◌}
use Rattle.std.proofs.lemmas.Bool.{le-leb, eqb-true, and_parts, both_ways, not-false}
use Rattle.table.specs.Verdict.{Draft}
use Rattle.order.specs.Ties.{by_number}
use Rattle.budget.specs.Meaning.{Meaning, load, raised}
use Rattle.budget.specs.Rules.{policy_under}
use Rattle.budget.specs.Weights.{rule_weight}
use Rattle.runs.specs.declared.answer.Answer.{Answer}
use Rattle.runs.specs.declared.call.Mark.{Mark}
use Rattle.runs.specs.declared.call.Mark.TheVariants.{NotDone}
use Rattle.runs.specs.declared.refusal.TickRefusal.{TickRefusal}
use Rattle.runs.specs.Choices.{Turn}
use Rattle.runs.specs.Programs.{asked_meaning, rested_meaning, meaning_by}
use Rattle.runs.specs.States.{State}
use Rattle.runs.specs.Ticking.{tick_fault, asked, denied, switches, outcome_at, tick_result, tick_state}
use Rattle.dispatch.specs.Questions.{task_run}
use Rattle.needs.specs.Marks.{mark_by}
use Rattle.output.specs.declared.output.OutputLine.{OutputLine}
use Rattle.transcript.specs.Policies.{Policy, shared_policy, by_policy}
use Rattle.transcript.specs.Shows.{Show, ticking, after_ticking, answer_lines, lines_by, show_by, run_lines, run_show}
use Rattle.transcript.proofs.Counted.{Leads, leads_behind, leads_switched}
use Rattle.transcript.proofs.Lawfully.{Made, Reach, meaning_at, rest_reach, grow_reach, silent_at, fits_at}
use Rattle.transcript.proofs.Switching.{denied_switched}

-- rules

-- at the longest runs that come about under a policy, another says yes wherever it does
abbrev pub Wider : {d : Draft} {policy : Policy} → Made d policy → Policy → Type 0
Wider {policy = policy} made wide = (longest : ℕ → ℕ) → Reach made longest → (i run : ℕ) → policy longest i run ≡ true → wide longest i run ≡ true

-- the shared rule does
pub shared_wider : {d : Draft} {policy : Policy} (made : Made d policy) → Wider made (shared_policy d)
shared_wider {d} {policy} made longest r i run e = go (eqb (rule_weight d i) 0) refl
  where
    go : (b : Bool) → eqb (rule_weight d i) 0 ≡ b → cond b false (leb (load (rule_weight d) (raised longest i run)) d.total.0) ≡ true
    go true q = absurd (both_ways (policy longest i run) (silent_at made longest i run (eqb-true (rule_weight d i) 0 q)) e)
    go false q = le-leb (load (rule_weight d) (raised longest i run)) d.total.0 (fits_at made longest i run r e)

-- and so it is under the same ceilings
pub under_wider : {d : Draft} {policy : Policy} (made : Made d policy) (wide : Policy) (ceiling : ℕ → ℕ) → Wider made wide → Wider (Made.under ceiling made) (policy_under wide ceiling)
under_wider {policy = policy} made wide ceiling h longest r i run e =
    let both = and_parts (policy longest i run) (ltb run (ceiling i)) e in
    ap (λ b. b && ltb run (ceiling i)) (h longest r i run both.0) ∙ both.1

-- a run of a policy at given longest runs
abbrev pub show_at : Draft → Policy → (ℕ → ℕ) → State → (ℕ → ℕ) → Show
show_at d policy longest s need = record { draft = d; policy = policy; meaning = meaning_at d policy longest; state = s; need = need }

-- the two runs: the same but for their policies
pub data Agree : Show → Show → Type 0 where
  agree : (d : Draft) (wide policy : Policy) (made : Made d policy) → Wider made wide → (longest : ℕ → ℕ) → Reach made longest → (s : State) (need : ℕ → ℕ)
      → Agree (show_at d wide longest s need) (show_at d policy longest s need)

-- one tick that does not switch

module _ (d : Draft) (s : State) (need : ℕ → ℕ) where
  -- the mark of a tick that switches or does not
  abbrev mark_in : Bool → Mark
  mark_in b = mark_by need s.job (task_run (tick_result (tick_fault s) (outcome_at d by_number s NotDone b).answer))

  abbrev result_in : Bool → Result Answer TickRefusal
  result_in b = tick_result (tick_fault s) (outcome_at d by_number s (mark_in b) b).answer

  abbrev state_in : Bool → State
  state_in b = tick_state (tick_fault s) s (outcome_at d by_number s (mark_in b) b).state

  abbrev rests_in : Bool → Bool
  rests_in b = (outcome_at d by_number s (mark_in b) b).rests

abbrev asked_longest : Option Turn → (ℕ → ℕ) → ℕ → ℕ
asked_longest None longest = longest
asked_longest (Some t) longest = raised longest t.number t.job.run.0

abbrev rested_longest : Bool → (ℕ → ℕ) → ℕ → ℕ
rested_longest true longest = λ i. 0
rested_longest false longest = longest

abbrev longest_by : Option TickRefusal → (ℕ → ℕ) → (ℕ → ℕ) → ℕ → ℕ
longest_by None old new = new
longest_by (Some e) old new = old

abbrev longest_after : Draft → State → (ℕ → ℕ) → (ℕ → ℕ) → ℕ → ℕ
longest_after d s need longest = longest_by (tick_fault s) longest (rested_longest (rests_in d s need false) (asked_longest (asked d by_number s) longest))

module _ (d : Draft) (policy : Policy) where
  asked_at : (longest : ℕ → ℕ) (t : Option Turn) → denied (policy longest) t ≡ false → asked_meaning (by_policy policy) 0 (meaning_at d policy longest) t ≡ meaning_at d policy (asked_longest t longest)
  asked_at longest None e = refl
  asked_at longest (Some t) e = ap (λ b. cond b (meaning_at d policy (raised longest t.number t.job.run.0)) (meaning_at d policy longest)) (not-false (policy longest t.number t.job.run.0) e)

  rested_at : (b : Bool) (longest : ℕ → ℕ) → rested_meaning (by_policy policy) 0 b (meaning_at d policy longest) ≡ meaning_at d policy (rested_longest b longest)
  rested_at true longest = refl
  rested_at false longest = refl

  meaning_is : (f : Option TickRefusal) (old new : ℕ → ℕ) → meaning_by f (meaning_at d policy old) (meaning_at d policy new) ≡ meaning_at d policy (longest_by f old new)
  meaning_is None old new = refl
  meaning_is (Some e) old new = refl

  module _ (longest : ℕ → ℕ) (s : State) (need : ℕ → ℕ) where
    abbrev show_in : Bool → Show
    show_in b = record {
      draft = d;
      policy = policy;
      meaning = meaning_by (tick_fault s) (meaning_at d policy longest)
          (rested_meaning (by_policy policy) 0 (rests_in d s need b) (asked_meaning (by_policy policy) 0 (meaning_at d policy longest) (asked d by_number s)));
      state = state_in d s need b;
      need = need;
    }

    abbrev show_with : Meaning → Show
    show_with m = record { draft = d; policy = policy; meaning = m; state = state_in d s need false; need = need }

    pub calm_result : (b : Bool) → switches d by_number (policy longest) s ≡ b → ticking (show_at d policy longest s need) ≡ result_in d s need b
    calm_result b e = ap (result_in d s need) e

    pub calm_show : switches d by_number (policy longest) s ≡ false → after_ticking (show_at d policy longest s need) ≡ show_at d policy (longest_after d s need longest) (state_in d s need false) need
    calm_show e =
        ap show_in e
        ∙ ap (λ m. show_with (meaning_by (tick_fault s) (meaning_at d policy longest) (rested_meaning (by_policy policy) 0 (rests_in d s need false) m))) (asked_at longest (asked d by_number s) e)
        ∙ ap (λ m. show_with (meaning_by (tick_fault s) (meaning_at d policy longest) m)) (rested_at (rests_in d s need false) (asked_longest (asked d by_number s) longest))
        ∙ ap show_with (meaning_is (tick_fault s) longest (rested_longest (rests_in d s need false) (asked_longest (asked d by_number s) longest)))

-- the longest runs behind it come about

asked_reach : {d : Draft} {policy : Policy} (made : Made d policy) (longest : ℕ → ℕ) → Reach made longest → (t : Option Turn) → denied (policy longest) t ≡ false → Reach made (asked_longest t longest)
asked_reach made longest r None e = r
asked_reach {policy = policy} made longest r (Some t) e = grow_reach made longest t.number t.job.run.0 r (not-false (policy longest t.number t.job.run.0) e)

rested_reach : {d : Draft} {policy : Policy} (made : Made d policy) (b : Bool) (longest : ℕ → ℕ) → Reach made longest → Reach made (rested_longest b longest)
rested_reach made true longest r = rest_reach made
rested_reach made false longest r = r

reach_by : {d : Draft} {policy : Policy} (made : Made d policy) (f : Option TickRefusal) (old new : ℕ → ℕ) → Reach made old → Reach made new → Reach made (longest_by f old new)
reach_by made None old new r r' = r'
reach_by made (Some e) old new r r' = r

-- one tick of both

pub data Both (w v : Show) : Type 0 where
  -- both are refused
  refused : (e : TickRefusal) → ticking w ≡ Err e → ticking v ≡ Err e → Both w v
  -- neither switches
  level : (a : Answer) → ticking w ≡ Ok a → ticking v ≡ Ok a → Agree (after_ticking w) (after_ticking v) → Both w v
  -- the second switches
  parted : (a : Answer) → ticking v ≡ Ok a → a.switched ≡ true → Both w v

denied_too : (wide policy : ℕ → ℕ → Bool) (t : Option Turn) → ((i run : ℕ) → policy i run ≡ true → wide i run ≡ true) → denied policy t ≡ false → denied wide t ≡ false
denied_too wide policy None h e = refl
denied_too wide policy (Some t) h e = ap not (h t.number t.job.run.0 (not-false (policy t.number t.job.run.0) e))

refused_by : (f : Option TickRefusal) (a : Answer) (x : TickRefusal) → f ≡ Some x → tick_result f a ≡ Err x
refused_by f a x e = rw e

both_tick : (w v : Show) → Agree w v → Both w v
both_tick w v (Agree.agree d wide policy made h longest r s need) = go (tick_fault s) refl (switches d by_number (policy longest) s) refl
  where
    v_is : (b : Bool) → switches d by_number (policy longest) s ≡ b → ticking v ≡ result_in d s need b
    v_is b q = calm_result d policy longest s need b q

    after : switches d by_number (policy longest) s ≡ false → Agree (after_ticking w) (after_ticking v)
    after q =
        let q' = denied_too (wide longest) (policy longest) (asked d by_number s) (h longest r) q in
        rw (calm_show d wide longest s need q', calm_show d policy longest s need q)
        (Agree.agree d wide policy made h (longest_after d s need longest)
        (reach_by made (tick_fault s) longest _ r (rested_reach made (rests_in d s need false) _ (asked_reach made longest r (asked d by_number s) q))) (state_in d s need false) need)

    go : (f : Option TickRefusal) → tick_fault s ≡ f → (b : Bool) → switches d by_number (policy longest) s ≡ b → Both w v
    go (Some x) e b q = Both.refused x (refused_by (tick_fault s) _ x e) (refused_by (tick_fault s) _ x e)
    go None e false q =
        let q' = denied_too (wide longest) (policy longest) (asked d by_number s) (h longest r) q in
        let ok : result_in d s need false ≡ Ok (outcome_at d by_number s (mark_in d s need false) false).answer = ap (λ f. tick_result f (outcome_at d by_number s (mark_in d s need false) false).answer) e in
        Both.level _ (calm_result d wide longest s need false q' ∙ ok) (v_is false q ∙ ok) (after q)
    go None e true q =
        let a = (outcome_at d by_number s (mark_in d s need true) true).answer in
        let ok : result_in d s need true ≡ Ok a = ap (λ f. tick_result f a) e in
        Both.parted a (v_is true q ∙ ok) (denied_switched d (policy longest) s (mark_in d s need true) q)

-- ticks

refused_leads : (w v w' v' : Show) (x y : Result Answer TickRefusal) (xs ys : List OutputLine) (e : TickRefusal) → x ≡ Err e → y ≡ Err e → Agree w v
    → Leads (Agree (show_by x w w') (show_by y v v')) (lines_by y xs) (lines_by x ys)
refused_leads w v w' v' x y xs ys e p q a = rw (p, q) (λ xs' ys' h. h a)

level_leads : (w v w' v' : Show) (x y : Result Answer TickRefusal) (xs ys : List OutputLine) (a : Answer) → x ≡ Ok a → y ≡ Ok a → Leads (Agree w' v') xs ys
    → Leads (Agree (show_by x w w') (show_by y v v')) (lines_by y xs) (lines_by x ys)
level_leads w v w' v' x y xs ys a p q h = rw (p, q) (leads_behind (Agree w' v') (answer_lines a) xs ys h)

parted_leads : (R : Type 0) (y : Result Answer TickRefusal) (xs ys : List OutputLine) (a : Answer) → y ≡ Ok a → a.switched ≡ true → Leads R (lines_by y xs) ys
parted_leads R y xs ys a q h = rw q (leads_switched R a xs ys h)

-- n ticks: the second switches no later, and if it does not switch the two still agree
pub runs_lead : (n : ℕ) (w v : Show) → Agree w v → Leads (Agree (run_show n w) (run_show n v)) (run_lines n v) (run_lines n w)
unfolding run_lines run_show
runs_lead zero w v a = λ xs' ys' h. h a
runs_lead (suc n) w v a = go (both_tick w v a) (runs_lead n (after_ticking w) (after_ticking v))
  where
    go : Both w v → (Agree (after_ticking w) (after_ticking v) → Leads (Agree (run_show n (after_ticking w)) (run_show n (after_ticking v))) (run_lines n (after_ticking v)) (run_lines n (after_ticking w)))
        → Leads (Agree (show_by (ticking w) w (run_show n (after_ticking w))) (show_by (ticking v) v (run_show n (after_ticking v))))
        (lines_by (ticking v) (run_lines n (after_ticking v))) (lines_by (ticking w) (run_lines n (after_ticking w)))
    go (Both.refused e p q) rest = refused_leads w v _ _ (ticking w) (ticking v) _ _ e p q a
    go (Both.level x p q next) rest = level_leads w v _ _ (ticking w) (ticking v) _ _ x p q (rest next)
    go (Both.parted x q h) rest = parted_leads _ (ticking v) _ _ x q h
