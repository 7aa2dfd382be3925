-- The theorems on produced logs.
use Rattle.std.specs.Prelude.{◌≡◌, ℕ, ◌+◌, ◌<◌, ◌≤◌, true, false, ◌≢◌, List, [], ◌∷◌, ◌++◌, map, is_some, Some, None, Ok}
use Rattle.table.specs.Verdict.{Draft}
use Rattle.table.specs.Accepted.{Accepted}
use Rattle.order.specs.Orders.{Ahead, TieLaws}
use Rattle.tasks.specs.declared.units.Ticks.{Ticks}
use Rattle.budget.specs.declared.shared.Shared.{Shared}
use Rattle.budget.specs.declared.fixed.Fixed.{Fixed}
use Rattle.budget.specs.Meaning.{Meaning}
use Rattle.budget.specs.OfRules.{NewOf, FixedOf, meaning_of_shared, meaning_of_fixed}
use Rattle.budget.specs.Rules.{under_ceiling}
use Rattle.runs.specs.declared.answer.Job.{Job}
use Rattle.runs.specs.declared.entry.Entry.{Entry}
use Rattle.runs.specs.declared.entry.Entry.TheVariants.{Arrive}
use Rattle.runs.specs.Numbers.{call_of, refused_by}
use Rattle.runs.specs.States.{State, OfTable, period}
use Rattle.runs.specs.Logs.{clock, begins, leaves, age, pending, shown, switched_in, before_switch, switch_clock}
use Rattle.runs.specs.Produced.{Kind, lawful, exact, Produced}

-- every pending task is younger than its period
abbrev pub Young : Draft → List Entry → Type 0
Young d log = (i a : ℕ) → age i log ≡ Some a → a < period d i

-- every log that is produced with the state before is, with this entry, produced with the state after, and young
abbrev pub Extends : Kind → Draft → Ahead → Meaning → State → Entry → Meaning → State → Type 0
Extends kind d ahead m s e n s' = (log : List Entry) → Produced kind d ahead log m s → Produced kind d ahead (e ∷ log) n s' × Young d (e ∷ log)

-- The age bound: for every accepted table, every tie order, every chain of lawful meanings and every log that they produce.
abbrev pub AgeBound : Type 0
AgeBound = (kind : Kind) (d : Draft) → Accepted d → (ahead : Ahead) → TieLaws ahead → (log : List Entry) (m : Meaning) (s : State) → Produced kind d ahead log m s → Young d log

-- the entry neither begins nor ends nor drops a job of task i
abbrev pub Quiet : ℕ → Entry → Type 0
Quiet i e = (begins i e ≡ false) × (leaves i e ≡ false)

abbrev pub AllQuiet : ℕ → List Entry → Type 0
AllQuiet i [] = Unit {0}
AllQuiet i (e ∷ log) = Quiet i e × AllQuiet i log

-- The same without the word age: after an accepted arrival of task i, as long as no answer ends or drops it, fewer ticks pass than its period has.
abbrev pub AgeInWords : Type 0
AgeInWords = (kind : Kind) (d : Draft) → Accepted d → (ahead : Ahead) → TieLaws ahead → (m : Meaning) (s : State) (i : ℕ) (later before : List Entry) (v : Unit {0})
    → Produced kind d ahead (later ++ (Arrive i (Some (Ok v)) ∷ before)) m s → AllQuiet i later → clock later < period d i

-- The switch bound: of two logs of the same calls over one table and order, that of the shared rule has the first switch no sooner.
abbrev pub SwitchBound : Type 0
SwitchBound = (d : Draft) → Accepted d → (ahead : Ahead) → TieLaws ahead → (shared other : List Entry) (m n : Meaning) (s t : State)
    → Produced exact d ahead shared m s → OfTable d m → Produced lawful d ahead other n t → map call_of shared ≡ map call_of other → before_switch other ≤ before_switch shared

-- the clock in the first switching answer is the count of ticks before it; with no switch the log's clock is
pub record CountTold (log : List Entry) : Type 0 where
  pub switched : switched_in log ≡ true → switch_clock log ≡ Some (before_switch log)
  pub calm : switched_in log ≡ false → clock log ≡ before_switch log

abbrev pub Counts : Type 0
Counts = (kind : Kind) (d : Draft) (ahead : Ahead) (log : List Entry) (m : Meaning) (s : State) → Produced kind d ahead log m s → CountTold log

-- a state's clock and jobs are those that its log shows
pub record Shows (log : List Entry) (s : State) : Type 0 where
  pub clock_is : s.clock ≡ clock log
  pub pending_is : (i : ℕ) → is_some (s.job i) ≡ pending i log
  pub job_is : (i : ℕ) → s.job i ≡ shown i log
  pub age_is : (i : ℕ) (j : Job) → s.job i ≡ Some j → (a : ℕ) × (age i log ≡ Some a) × (j.arrival.0 + a ≡ s.clock)
  pub idle_is : (i : ℕ) → s.job i ≡ None → age i log ≡ None

abbrev pub Ties : Type 0
Ties = (kind : Kind) (d : Draft) (ahead : Ahead) (log : List Entry) (m : Meaning) (s : State) → Produced kind d ahead log m s → Shows log s

-- no entry was refused by this number
abbrev pub NoneBy : ℕ → List Entry → Type 0
NoneBy number [] = Unit {0}
NoneBy number (e ∷ log) = (refused_by e ≢ Some number) × NoneBy number log

-- every entry was
abbrev pub AllBy : ℕ → List Entry → Type 0
AllBy number [] = Unit {0}
AllBy number (e ∷ log) = (refused_by e ≡ Some number) × AllBy number log

abbrev pub No12 : Type 0
No12 = (kind : Kind) (d : Draft) → Accepted d → (ahead : Ahead) → TieLaws ahead → (log : List Entry) (m : Meaning) (s : State) → Produced kind d ahead log m s → NoneBy 12 log

-- a rule with the table's weights and total never meets 19
abbrev pub No19 : Type 0
No19 = (kind : Kind) (d : Draft) (ahead : Ahead) (log : List Entry) (m : Meaning) (s : State) → Produced kind d ahead log m s → OfTable d m → NoneBy 19 log

-- any other rule meets nothing else, and nothing changes
abbrev pub Only19 : Type 0
Only19 = (kind : Kind) (d : Draft) (ahead : Ahead) (log : List Entry) (m : Meaning) (s : State) → Produced kind d ahead log m s → (OfTable d m → ⊥) → AllBy 19 log × (clock log ≡ 0) × ((i : ℕ) → s.job i ≡ None) × ((i : ℕ) → s.last i ≡ None)

-- the shared rule and a fixed rule that were made for a table, and a ceiling over a rule of the table, are rules of the table; so they never meet 19
pub record OwnRules (d : Draft) : Type 0 where
  pub of_shared : (s : Shared) → NewOf d (meaning_of_shared s) → OfTable d (meaning_of_shared s)
  pub of_fixed : (budgets : List Ticks) (f : Fixed) → FixedOf d budgets f → OfTable d (meaning_of_fixed f)
  pub of_ceiling : (m : Meaning) (ceiling : ℕ → ℕ) → OfTable d m → OfTable d (under_ceiling m ceiling)

abbrev pub OwnRulesStand : Type 0
OwnRulesStand = (d : Draft) → OwnRules d
