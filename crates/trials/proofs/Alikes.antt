-- A tick leaves its rule's weights and total.
use Rattle.std.proofs.Common.{◌≡◌, Bool, true, false, Some, None, Option, ap, ◌∙◌}
use Rattle.table.specs.Verdict.{Draft}
use Rattle.order.specs.Orders.{Ahead}
use Rattle.budget.specs.Meaning.{Meaning, Rested}
use Rattle.runs.specs.declared.call.Mark.{Mark}
use Rattle.runs.specs.declared.refusal.TickRefusal.{TickRefusal}
use Rattle.runs.specs.States.{State, OfTable}
use Rattle.runs.specs.Choices.{Turn}
use Rattle.runs.specs.Ticking.{tick_fault, Asked, LetRest, Consulted, rule_after_by, RuleAfter}
use Rattle.trials.specs.Comparing.{Alike}

pub alike_same : (m n : Meaning) → n ≡ m → Alike m n
alike_same m n e = record { weights = λ i. ap (λ x. x.weight i) e; total = ap (λ x. x.total) e }

pub alike_rested : (m n : Meaning) → Rested m n → Alike m n
alike_rested m n r = record { weights = r.weights; total = r.total }

alike_asked : (o : Option Turn) (m n : Meaning) → Asked o m n → Alike m n
alike_asked None m n e = alike_same m n e
alike_asked (Some t) m n g = record { weights = g.weights; total = g.total }

alike_rest : (b : Bool) (m n : Meaning) → LetRest b m n → Alike m n
alike_rest true m n r = alike_rested m n r
alike_rest false m n e = alike_same m n e

pub alike_after : (d : Draft) (ahead : Ahead) (s : State) (mark : Mark) (m n : Meaning) → RuleAfter d ahead s mark m n → Alike m n
alike_after d ahead s mark m n r = by (tick_fault s) r
  where
    by : (f : Option TickRefusal) → rule_after_by f (Consulted d ahead s mark m n) m n → Alike m n
    by None c =
        let a = alike_asked _ m c.mid c.grant in
        let b = alike_rest _ c.mid n c.rest in
        record { weights = λ i. b.weights i ∙ a.weights i; total = b.total ∙ a.total }
    by (Some e) q = alike_same m n q

pub own_alike : (d : Draft) (m n : Meaning) → Alike m n → OfTable d m → OfTable d n
own_alike d m n a of = record { weights = λ i l h. a.weights i ∙ of.weights i l h; total = a.total ∙ of.total }

pub alike_then : (k m n : Meaning) → Alike k m → Alike m n → Alike k n
alike_then k m n a b = record { weights = λ i. b.weights i ∙ a.weights i; total = b.total ∙ a.total }
