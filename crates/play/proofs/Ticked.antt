-- What a tick leaves of those that are still to run.
use Rattle.std.proofs.Common.{◌≡◌, ℕ, suc, List, [], ◌∷◌, ◌++◌, Some, None, Ok, Err, Option, Result, sym, refl, ap, ◌∙◌, subst, append_assoc, arith}
use Rattle.std.specs.Result.{result_ok}
use Rattle.order.specs.Ties.{by_number}
use Rattle.runs.specs.declared.answer.Answer.{Answer}
use Rattle.runs.specs.declared.refusal.TickRefusal.{TickRefusal}
use Rattle.runs.specs.Programs.{asked_meaning, rested_meaning, meaning_by}
use Rattle.runs.specs.Ticking.{tick_fault, tick_result, tick_state, outcome, asked}
use Rattle.output.specs.declared.output.OutputLine.{OutputLine}
use Rattle.scenario.specs.declared.place.Reader.{Reader}
use Rattle.transcript.specs.Policies.{by_policy}
use Rattle.transcript.specs.Shows.{Show, mark, ticking, after_ticking, run_lines, run_show, lines_by, show_by, answer_lines, listed, switch_line, tick_line}
use Rattle.transcript.specs.Stages.{Stage, opening, tabling, ruled, showing, left_lines, left_stage}
use Rattle.play.specs.Boards.{read_from, upcoming}
use Rattle.play.specs.Courses.{Goes_on, Halts, TicksOn}

refused : (f : Option TickRefusal) (a : Answer) (e : TickRefusal) → tick_result f a ≡ Err e → (x : TickRefusal) × (f ≡ Some x)
refused None a e is = let z : ◌≡◌ {A = ℕ} 0 1 = cc in absurd (omega arith)
refused (Some x) a e is = (x, refl)

-- a refused tick alters nothing
pub refused_same : (w : Show) (e : TickRefusal) → ticking w ≡ Err e → after_ticking w ≡ w
refused_same w e is =
    let s = w.state in
    let o = outcome w.draft by_number w.meaning.yes s (mark w) in
    let why = refused (tick_fault s) o.answer e is in
    ap (λ f. record {
      draft = w.draft;
      policy = w.policy;
      meaning = meaning_by f w.meaning (rested_meaning (by_policy w.policy) 0 o.rests (asked_meaning (by_policy w.policy) 0 w.meaning (asked w.draft by_number s)));
      state = tick_state f s o.state;
      need = w.need;
    }) why.1

module _ (w : Show) where
  goes : (a : Answer) → Ok a ≡ ticking w → Goes_on (showing w) (showing (after_ticking w)) a
  unfolding run_lines run_show
  goes a is = record { lines = λ k. ap (λ r. lines_by r (run_lines k (after_ticking w))) (sym is); stage = λ k. ap (λ r. showing (show_by r w (run_show k (after_ticking w)))) (sym is) }

  halts : (e : TickRefusal) → Err e ≡ ticking w → Halts (showing w) (showing (after_ticking w))
  unfolding run_lines run_show
  halts e is = record { lines = λ k. ap (λ r. lines_by r (run_lines k (after_ticking w))) (sym is); stage = λ k. ap (λ r. showing (show_by r w (run_show k (after_ticking w)))) (sym is) ∙ ap showing (sym (refused_same w e (sym is))) }

pub goes_at : (s : Stage) (w w' : Show) (a : Answer) → showing w ≡ s → w' ≡ after_ticking w → Ok a ≡ ticking w → Goes_on s (showing w') a
goes_at s w w' a es ew is =
    let P : Stage → Type 0 = λ x. Goes_on x (showing w') a in
    let Q : Show → Type 0 = λ x. Goes_on (showing w) (showing x) a in
    subst P es (subst Q (sym ew) (goes w a is))

pub halts_at : (s : Stage) (w w' : Show) (e : TickRefusal) → showing w ≡ s → w' ≡ after_ticking w → Err e ≡ ticking w → Halts s (showing w')
halts_at s w w' e es ew is =
    let P : Stage → Type 0 = λ x. Halts x (showing w') in
    let Q : Show → Type 0 = λ x. Halts (showing w) (showing x) in
    subst P es (subst Q (sym ew) (halts w e is))

pub ticks_on : (s : Stage) (w w' : Show) (r : Result Answer TickRefusal) (o : Option Answer) → showing w ≡ s → w' ≡ after_ticking w → r ≡ ticking w → o ≡ result_ok r → TicksOn o s (showing w')
ticks_on s w w' r o es ew is eo =
    let P : Stage → Type 0 = λ x. TicksOn o x (showing w') in
    let Q : Show → Type 0 = λ x. TicksOn o (showing w) (showing x) in
    let R : Option Answer → Type 0 = λ x. TicksOn x (showing w) (showing (after_ticking w)) in
    subst P es (subst Q (sym ew) (subst R (sym eo) (by r is)))
  where
    by : (r : Result Answer TickRefusal) → r ≡ ticking w → TicksOn (result_ok r) (showing w) (showing (after_ticking w))
    by (Ok a) is = goes w a is
    by (Err e) is = halts w e is

-- with no tick left

pub lines_none : (s : Stage) → left_lines 0 s ≡ []
unfolding run_lines
lines_none opening = refl
lines_none (tabling h b f ts) = refl
lines_none (ruled d p) = refl
lines_none (showing w) = refl

pub stage_none : (s : Stage) → left_stage 0 s ≡ s
unfolding run_show
stage_none opening = refl
stage_none (tabling h b f ts) = refl
stage_none (ruled d p) = refl
stage_none (showing w) = refl

module _ (r : Option Reader) where
  pub upcoming_none : (s : Stage) → upcoming r 0 s ≡ read_from r s
  upcoming_none s = ap (λ ls. ls ++ read_from r (left_stage 0 s)) (lines_none s) ∙ ap (read_from r) (stage_none s)

  pub upcoming_halts : (k : ℕ) (s s' : Stage) → Halts s s' → upcoming r 0 s' ≡ upcoming r (suc k) s
  upcoming_halts k s s' h =
      upcoming_none s'
      ∙ ap (read_from r) (sym (h.stage k))
      ∙ ap (λ ls. ls ++ read_from r (left_stage (suc k) s)) (sym (h.lines k))

  pub upcoming_goes : (k : ℕ) (s s' : Stage) (a : Answer) → Goes_on s s' a → upcoming r (suc k) s ≡ answer_lines a ++ upcoming r k s'
  upcoming_goes k s s' a g =
      ap (λ ls. ls ++ read_from r (left_stage (suc k) s)) (g.lines k)
      ∙ ap (λ x. (answer_lines a ++ left_lines k s') ++ read_from r x) (g.stage k)
      ∙ append_assoc (answer_lines a) (left_lines k s') (read_from r (left_stage k s'))

-- the lines of an answer, one after the other

pub switch_first : (a : Answer) (x : OutputLine) (rest : List OutputLine) → Some x ≡ switch_line a → answer_lines a ++ rest ≡ x ∷ (tick_line a ∷ rest)
switch_first a x rest e = ap (λ o. (listed o ++ (tick_line a ∷ [])) ++ rest) (sym e)

pub tick_first : (a : Answer) (rest : List OutputLine) → None ≡ switch_line a → answer_lines a ++ rest ≡ tick_line a ∷ rest
tick_first a rest e = ap (λ o. (listed o ++ (tick_line a ∷ [])) ++ rest) (sym e)
