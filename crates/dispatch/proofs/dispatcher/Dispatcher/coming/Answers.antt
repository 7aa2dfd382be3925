use Rattle.std.proofs.Common.{◌≡◌, ℕ, Bool, true, false, Some, None, Ok, Err, Option, Result, sym, refl, ap, ◌∙◌, arith, rules}
use Rattle.std.specs.Option.{option_map}
use Rattle.std.specs.Result.{result_ok}
use Rattle.table.specs.Firsts.{refusal}
use Rattle.table.specs.Tables.{draft_of}
use Rattle.table.specs.Verdict.{Draft}
use Rattle.order.specs.Orders.{Ahead}
use Rattle.budget.specs.Meaning.{Meaning}
use Rattle.runs.specs.declared.answer.Job.{Job}
use Rattle.runs.specs.declared.answer.Mode.{Mode}
use Rattle.runs.specs.declared.answer.Mode.TheVariants.{High}
use Rattle.runs.specs.declared.call.Mark.{Mark}
use Rattle.runs.specs.States.{State}
use Rattle.runs.specs.Choices.{Turn, turn}
use Rattle.runs.specs.Ticking.{switches, denied, kept, running_mode, running_jobs, tick_fault, outcome_by, outcome, tick_result, tick}
use Rattle.dispatch.specs.Cores.{state_of}
use Rattle.dispatch.specs.Questions.{task_run}
use Rattle.dispatch.specs.Turns.{turn_of_taken, taken_of}
use Rattle.dispatch.proofs.Asked.{masked_kept}
use Rattle.dispatch.proofs.Mapped.{mapped}
use Rattle.dispatch.proofs.Turning.{turn_taken, none_taken, asked_first, outcome_is, idle_calm}
use Rattle.dispatch.proofs.dispatcher.Dispatcher.coming.Goals as goal

-- the task of an accepted tick
runs : (d : Draft) (ahead : Ahead) (m : Meaning) (s : State) → None ≡ tick_fault s → (b : Bool) (o : Option Turn) → switches d ahead m.yes s ≡ b
    → turn ahead (running_mode b s.mode) d (running_jobs b d s.job) ≡ o → (mark : Mark)
    → (outcome_by d s mark b (running_mode b s.mode) (running_jobs b d s.job) o).answer.task ≡ task_run (tick d ahead m.yes s mark)
runs d ahead m s q b o sw t mark =
    ap (λ x. x.answer.task) (sym (outcome_is d ahead m.yes s mark b o sw t)) ∙ ap (λ f. task_run (tick_result f (outcome d ahead m.yes s mark).answer)) q

passed : {A E : Type 0} (r : Result A E) (a : A) → result_ok r ≡ Some a → None ≡ refusal r
passed (Ok v) a e = refl
passed (Err f) a e = let z : ◌≡◌ {A = ℕ} 0 1 = cc in absurd (omega arith)

pub returns-in_err-first : goal.returns-in_err-first
returns-in_err-first g c mark =
    let x = c.args.self.now in
    let d = draft_of x.table in
    let s = state_of x.core in
    let ahead : Ahead = g.O.TieOrder.ahead x.order.now in
    let m : Meaning = g.R.Rule.meaning x.rule in
    let none = none_taken d (turn ahead s.mode d s.job) c.in_err-first.ensures in
    let q = passed c.check_tick.result c.in_ok-ok.field-0 (sym c.in_ok-ok.ensures.value) ∙ c.check_tick.ensures in
    c.from_residual-in_err-first.ensures ∙ runs d ahead m s q false None (idle_calm d ahead m.yes s none) none mark

pub returns-then-not-would_deny : goal.returns-then-not-would_deny
returns-then-not-would_deny g c mark =
    let x = c.args.self.now in
    let d = draft_of x.table in
    let s = state_of x.core in
    let ahead : Ahead = g.O.TieOrder.ahead x.order.now in
    let m : Meaning = g.R.Rule.meaning x.rule in
    let f = c.in_ok-first.first in
    let first = turn_taken d (turn ahead s.mode d s.job) f c.in_ok-first.ensures in
    let calm : switches d ahead m.yes s ≡ false = ap (denied m.yes) (asked_first d ahead s f c.in_ok-first.ensures) ∙ sym c.would_deny.ensures ∙ c.if-not-would_deny.true in
    let q = passed c.check_tick.result c.in_ok-ok.field-0 (sym c.in_ok-ok.ensures.value) ∙ c.check_tick.ensures in
    runs d ahead m s q false (Some (turn_of_taken f)) calm first.0 mark

numbers : (d : Draft) (s : State) (mark : Mark) (b : Bool) (mode : Mode) (jobs : ℕ → Option Job) (o : Option Turn) → option_map (λ t. t.number) (option_map (taken_of d) o) ≡ (outcome_by d s mark b mode jobs o).answer.task
numbers d s mark b mode jobs None = refl
numbers d s mark b mode jobs (Some t) = refl

pub returns : goal.returns
returns g c mark =
    let x = c.args.self.now in
    let d = draft_of x.table in
    let s = state_of x.core in
    let ahead : Ahead = g.O.TieOrder.ahead x.order.now in
    let m : Meaning = g.R.Rule.meaning x.rule in
    let f = c.in_ok-first.first in
    let switch : switches d ahead m.yes s ≡ true = ap (denied m.yes) (asked_first d ahead s f c.in_ok-first.ensures) ∙ sym c.would_deny.ensures ∙ c.if-not-would_deny.false in
    let again = turn ahead High d (kept d s.job) in
    let told : c.choose.result ≡ option_map (taken_of d) again = c.choose.ensures ∙ ap (λ jobs. option_map (taken_of d) (turn ahead High d jobs)) (masked_kept d x.core.pending c.kept.result x.core.jobs x.fine.agrees c.kept.ensures) in
    let q = passed c.check_tick.result c.in_ok-ok.field-0 (sym c.in_ok-ok.ensures.value) ∙ c.check_tick.ensures in
    mapped (λ t. t.number) _ c.choose.result c.map.result c.map.ensures.cases (λ t n k. search rules)
    ∙ ap (option_map (λ t. t.number)) told
    ∙ numbers d s mark true High (kept d s.job) again
    ∙ runs d ahead m s q true again switch refl mark
