-- Which logs a dispatcher can produce. Its rule is no program here: it is a chain of meanings, each lawful, linked by what a grant, a denial and a rest may do.
use Rattle.std.specs.Prelude.{◌≡◌, ℕ, List, [], ◌∷◌, Some, None, Result}
use Rattle.table.specs.Verdict.{Draft}
use Rattle.order.specs.Orders.{Ahead}
use Rattle.budget.specs.Meaning.{Meaning, Lawful, SharedYes}
use Rattle.runs.specs.declared.answer.Mode.TheVariants.{Low}
use Rattle.runs.specs.declared.answer.Answer.{Answer}
use Rattle.runs.specs.declared.call.Mark.{Mark}
use Rattle.runs.specs.declared.refusal.ArrivalRefusal.{ArrivalRefusal}
use Rattle.runs.specs.declared.refusal.TickRefusal.{TickRefusal}
use Rattle.runs.specs.declared.entry.Entry.{Entry}
use Rattle.runs.specs.declared.entry.Entry.TheVariants.{Arrive, Tick}
use Rattle.runs.specs.States.{State, Judged}
use Rattle.runs.specs.Laws.{Arrived, Ticked}

-- any lawful rule, or one whose yes set is exactly the shared rule's
pub data Kind : Type 0 where
  lawful : Kind
  exact : Kind

abbrev pub Exactly : Kind → Meaning → Type 0
Exactly lawful m = Unit {0}
Exactly exact m = SharedYes m

pub record Keeps (kind : Kind) (m : Meaning) : Type 0 where
  pub law : Lawful m
  pub exactly : Exactly kind m

-- a new dispatcher, with its rule set to rest
pub record Made (kind : Kind) (d : Draft) (m : Meaning) (s : State) : Type 0 where
  pub keeps : Keeps kind m
  pub rested : (i : ℕ) → m.longest i ≡ 0
  pub judged : Judged s.foreign d m
  pub clock0 : s.clock ≡ 0
  pub mode0 : s.mode ≡ Low
  pub job0 : (i : ℕ) → s.job i ≡ None
  pub last0 : (i : ℕ) → s.last i ≡ None

-- the log leads from a meaning m₀ and a state s₀ to a meaning and a state
pub data Follows (kind : Kind) (d : Draft) (ahead : Ahead) (m₀ : Meaning) (s₀ : State) : List Entry → Meaning → State → Type 0 where
  still : Follows kind d ahead m₀ s₀ [] m₀ s₀
  arrival : {log : List Entry} {m : Meaning} {s s' : State} (i : ℕ) (r : Result (Unit {0}) ArrivalRefusal)
      → Follows kind d ahead m₀ s₀ log m s → Arrived d s i r s' → Follows kind d ahead m₀ s₀ (Arrive i (Some r) ∷ log) m s'
  ticking : {log : List Entry} {m n : Meaning} {s s' : State} (mark : Mark) (r : Result Answer TickRefusal)
      → Follows kind d ahead m₀ s₀ log m s → Ticked d ahead m s mark r n s' → Keeps kind n → Follows kind d ahead m₀ s₀ (Tick mark (Some r) ∷ log) n s'

-- the log is one that a dispatcher over this table and order, with a rule of this kind, can produce since its making; it ends with this meaning and state
pub record Produced (kind : Kind) (d : Draft) (ahead : Ahead) (log : List Entry) (m : Meaning) (s : State) : Type 0 where
  pub first_meaning : Meaning
  pub first_state : State
  pub made : Made kind d first_meaning first_state
  pub course : Follows kind d ahead first_meaning first_state log m s
