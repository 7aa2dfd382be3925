-- What the dispatcher's calls do to the run that it stands for.
use Rattle.std.proofs.Common.{◌≡◌, ℕ, Bool, true, false, cond, Some, None, Option, sym, refl, ap, ◌∙◌, subst}
use mathlib.Core.Path.{fun_ext}
use Rattle.table.specs.Verdict.{Draft}
use Rattle.order.specs.Orders.{Ahead}
use Rattle.budget.specs.Meaning.{Meaning, Granted, Rested, raised}
use Rattle.budget.specs.Weights.{rule_weight}
use Rattle.runs.specs.declared.call.Mark.{Mark}
use Rattle.runs.specs.declared.refusal.TickRefusal.{TickRefusal}
use Rattle.runs.specs.Choices.{Turn}
use Rattle.runs.specs.Programs.{asked_meaning, rested_meaning, meaning_by, meaning_after}
use Rattle.runs.specs.States.{State, Judged, OfTable}
use Rattle.runs.specs.Ticking.{Asked, LetRest, Consulted, RuleAfter, rule_after_by, tick_fault, asked, outcome}
use Rattle.any_rule.specs.declared.OneOf.TheVariants.{First, Second}
use Rattle.any_rule.specs.Any.{Any, meaning_of_any, policy_of_any}
use Rattle.transcript.specs.Policies.{Policy, at_longest, by_policy, at_rest}
use Rattle.transcript.specs.Shows.{Show}

pub show_is : (a b : Show) → a.draft ≡ b.draft → a.policy ≡ b.policy → a.meaning ≡ b.meaning → a.state ≡ b.state → a.need ≡ b.need → a ≡ b
show_is a b ed ep em es en =
    ap (λ x. record { draft = x; policy = a.policy; meaning = a.meaning; state = a.state; need = a.need }) ed
    ∙ ap (λ x. record { draft = b.draft; policy = x; meaning = a.meaning; state = a.state; need = a.need }) ep
    ∙ ap (λ x. record { draft = b.draft; policy = b.policy; meaning = x; state = a.state; need = a.need }) em
    ∙ ap (λ x. record { draft = b.draft; policy = b.policy; meaning = b.meaning; state = x; need = a.need }) es
    ∙ ap (λ x. record { draft = b.draft; policy = b.policy; meaning = b.meaning; state = b.state; need = x }) en

pub meaning_is : (m n : Meaning) → m.weight ≡ n.weight → m.total ≡ n.total → m.longest ≡ n.longest → m.yes ≡ n.yes → m ≡ n
meaning_is m n ew et el ey =
    ap (λ x. record { weight = x; total = m.total; longest = m.longest; yes = m.yes }) ew
    ∙ ap (λ x. record { weight = n.weight; total = x; longest = m.longest; yes = m.yes }) et
    ∙ ap (λ x. record { weight = n.weight; total = n.total; longest = x; yes = m.yes }) el
    ∙ ap (λ x. record { weight = n.weight; total = n.total; longest = n.longest; yes = x }) ey

-- a rule says what its policy says at its longest runs
pub told : (r : Any) → (meaning_of_any r).yes ≡ policy_of_any r (meaning_of_any r).longest
told (First (First s)) = refl
told (First (Second f)) = refl
told (Second (First c)) = refl
told (Second (Second c)) = refl

pub not_foreign : (b : Bool) (d : Draft) (m : Meaning) → Judged b d m → OfTable d m → b ≡ false
not_foreign true d m j of = absurd (j of)
not_foreign false d m j of = refl

module _ (policy : Policy) where
  -- a rest, of a rule with a table's weights and total
  pub rested_is : (d : Draft) (m n : Meaning) → ((i : ℕ) → m.weight i ≡ rule_weight d i) → m.total ≡ d.total.0 → Rested m n → n.yes ≡ policy n.longest → n ≡ at_rest d policy
  rested_is d m n ws t r says =
      let zero_runs : n.longest ≡ (λ i. 0) = fun_ext r.longest in
      meaning_is n (at_rest d policy) (fun_ext (λ i. r.weights i ∙ ws i)) (r.total ∙ t) zero_runs (says ∙ ap policy zero_runs)

  -- what a grant leaves: on yes the raised longest runs, on no everything
  granted_by : (m mid : Meaning) (i run : ℕ) (b : Bool) → Granted m mid i run b → mid.yes ≡ policy mid.longest → mid ≡ cond b (at_longest policy m (raised m.longest i run)) m
  granted_by m mid i run true g says =
      let longer : mid.longest ≡ raised m.longest i run = fun_ext g.longest in
      meaning_is mid (at_longest policy m (raised m.longest i run)) (fun_ext g.weights) g.total longer (says ∙ ap policy longer)
  granted_by m mid i run false g says = g.denied refl

  asked_is : (t : Option Turn) (m mid : Meaning) → Asked t m mid → mid.yes ≡ policy mid.longest → mid ≡ asked_meaning (by_policy policy) 0 m t
  asked_is None m mid a says = a
  asked_is (Some t) m mid a says = granted_by m mid t.number t.job.run.0 (m.yes t.number t.job.run.0) a says

  -- in any case weights and total stay
  frame_by : (m : Meaning) (i run : ℕ) (b : Bool) → ((cond b (at_longest policy m (raised m.longest i run)) m).weight ≡ m.weight) × ((cond b (at_longest policy m (raised m.longest i run)) m).total ≡ m.total)
  frame_by m i run true = (refl, refl)
  frame_by m i run false = (refl, refl)

  asked_frame : (t : Option Turn) (m mid : Meaning) → Asked t m mid → (mid.weight ≡ (asked_meaning (by_policy policy) 0 m t).weight) × (mid.total ≡ (asked_meaning (by_policy policy) 0 m t).total)
  asked_frame None m mid a = (ap (λ x. x.weight) a, ap (λ x. x.total) a)
  asked_frame (Some t) m mid a =
      let f = frame_by m t.number t.job.run.0 (m.yes t.number t.job.run.0) in
      (fun_ext a.weights ∙ sym f.0, a.total ∙ sym f.1)

  let_rest_is : (b : Bool) (t : Option Turn) (m mid n : Meaning) → Asked t m mid → LetRest b mid n → n.yes ≡ policy n.longest → n ≡ rested_meaning (by_policy policy) 0 b (asked_meaning (by_policy policy) 0 m t)
  let_rest_is true t m mid n a r says =
      let f = asked_frame t m mid a in
      let zero_runs : n.longest ≡ (λ i. 0) = fun_ext r.longest in
      meaning_is n (at_longest policy (asked_meaning (by_policy policy) 0 m t) (λ i. 0)) (fun_ext r.weights ∙ f.0) (r.total ∙ f.1) zero_runs (says ∙ ap policy zero_runs)
  let_rest_is false t m mid n a same says =
      let P : Meaning → Type 0 = λ x. x.yes ≡ policy x.longest in
      same ∙ asked_is t m mid a (subst P same says)

  -- what a tick does to a rule that keeps its policy
  pub after_is : (d : Draft) (ahead : Ahead) (s : State) (mark : Mark) (m n : Meaning) → RuleAfter d ahead s mark m n → n.yes ≡ policy n.longest → n ≡ meaning_after d ahead (by_policy policy) 0 s mark m
  after_is d ahead s mark m n after says = by (tick_fault s) after
    where
      by : (f : Option TickRefusal) → rule_after_by f (Consulted d ahead s mark m n) m n → n ≡ meaning_by f m (rested_meaning (by_policy policy) 0 (outcome d ahead m.yes s mark).rests (asked_meaning (by_policy policy) 0 m (asked d ahead s)))
      by None c = let_rest_is (outcome d ahead m.yes s mark).rests (asked d ahead s) m c.mid n c.grant c.rest says
      by (Some e) same = same
