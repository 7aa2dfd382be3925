-- Rules as functions, and the log that the definitions of one arrival and one tick give for a string of calls.
use Rattle.std.specs.Prelude.{◌≡◌, ℕ, Bool, true, false, cond, List, [], ◌∷◌, map, length, Some, None, Option}
use Rattle.table.specs.Verdict.{Draft}
use Rattle.table.specs.Accepted.{Accepted}
use Rattle.order.specs.Orders.{Ahead, TieLaws}
use Rattle.budget.specs.Rules.{shared_meaning}
use Rattle.budget.specs.Meaning.{Meaning, raised, Granted, Rested}
use Rattle.runs.specs.declared.call.Call.{Call}
use Rattle.runs.specs.declared.call.Call.TheVariants.{Arrive as ArriveCall, Tick as TickCall}
use Rattle.runs.specs.declared.call.Mark.{Mark}
use Rattle.runs.specs.declared.refusal.TickRefusal.{TickRefusal}
use Rattle.runs.specs.declared.entry.Entry.{Entry}
use Rattle.runs.specs.declared.entry.Entry.TheVariants.{Arrive, Tick}
use Rattle.runs.specs.Numbers.{call_of}
use Rattle.runs.specs.States.{State, new_state, rule_weight, foreign_rule}
use Rattle.runs.specs.Choices.{Turn}
use Rattle.runs.specs.Arrivals.{arrival, after_arrival}
use Rattle.runs.specs.Ticking.{tick_fault, asked, outcome, tick, after_tick, RuleAfter}
use Rattle.runs.specs.Produced.{Kind, Keeps, Produced}
use Rattle.runs.specs.Bounds.{Extends}

-- What the definitions say of one call is what a produced log may say.

abbrev pub DefinedMaking : Type 0
DefinedMaking = (kind : Kind) (d : Draft) (ahead : Ahead) (m : Meaning) → Keeps kind m → ((i : ℕ) → m.longest i ≡ 0) → Produced kind d ahead [] m (new_state (foreign_rule d m))

abbrev pub DefinedArrivals : Type 0
DefinedArrivals = (kind : Kind) (d : Draft) → Accepted d → (ahead : Ahead) → TieLaws ahead → (m : Meaning) (s : State) (i : ℕ) → Extends kind d ahead m s (Arrive i (Some (arrival d s i))) m (after_arrival d s i)

abbrev pub DefinedTicks : Type 0
DefinedTicks = (kind : Kind) (d : Draft) → Accepted d → (ahead : Ahead) → TieLaws ahead → (m n : Meaning) (s : State) (mark : Mark) → RuleAfter d ahead s mark m n → Keeps kind n
    → Extends kind d ahead m s (Tick mark (Some (tick d ahead m.yes s mark))) n (after_tick d ahead m.yes s mark)

-- A rule as functions of its meaning. They are told how many calls came before, so that at each call the rule may do as it likes.
pub record Program : Type 0 where
  -- the meaning after a grant was asked for, for a task and its job's run
  pub grant : ℕ → Meaning → ℕ → ℕ → Meaning
  pub rest : ℕ → Meaning → Meaning

pub record Obeys (kind : Kind) (p : Program) : Type 0 where
  pub granted : (k : ℕ) (m : Meaning) → Keeps kind m → (i run : ℕ) → Granted m (p.grant k m i run) i run (m.yes i run)
  pub grant_keeps : (k : ℕ) (m : Meaning) → Keeps kind m → (i run : ℕ) → Keeps kind (p.grant k m i run)
  pub rested : (k : ℕ) (m : Meaning) → Keeps kind m → Rested m (p.rest k m)
  pub rest_keeps : (k : ℕ) (m : Meaning) → Keeps kind m → Keeps kind (p.rest k m)

abbrev pub asked_meaning : Program → ℕ → Meaning → Option Turn → Meaning
asked_meaning p k m None = m
asked_meaning p k m (Some t) = p.grant k m t.number t.job.run.0

abbrev pub rested_meaning : Program → ℕ → Bool → Meaning → Meaning
rested_meaning p k true m = p.rest k m
rested_meaning p k false m = m

abbrev pub meaning_by : Option TickRefusal → Meaning → Meaning → Meaning
meaning_by None m n = n
meaning_by (Some e) m n = m

-- the rule's meaning after a tick
abbrev pub meaning_after : Draft → Ahead → Program → ℕ → State → Mark → Meaning → Meaning
meaning_after d ahead p k s mark m =
    meaning_by (tick_fault s) m (rested_meaning p k (outcome d ahead m.yes s mark).rests (asked_meaning p k m (asked d ahead s)))

-- a log, with the meaning and the state that it ends with
pub record Standing : Type 0 where
  pub log : List Entry
  pub meaning : Meaning
  pub state : State

abbrev pub answered : Draft → Ahead → Program → Standing → Call → Standing
answered d ahead p now (ArriveCall i) = record {
  log = Arrive i (Some (arrival d now.state i)) ∷ now.log;
  meaning = now.meaning;
  state = after_arrival d now.state i;
}
answered d ahead p now (TickCall mark) = record {
  log = Tick mark (Some (tick d ahead now.meaning.yes now.state mark)) ∷ now.log;
  meaning = meaning_after d ahead p (length now.log) now.state mark now.meaning;
  state = after_tick d ahead now.meaning.yes now.state mark;
}

-- the run of a string of calls, the latest first, from a rule at rest
unfoldable pub play : Draft → Ahead → Program → Meaning → List Call → Standing
play d ahead p m [] = record { log = []; meaning = m; state = new_state (foreign_rule d m) }
play d ahead p m (c ∷ calls) = answered d ahead p (play d ahead p m calls) c

-- every string of calls has a produced log, whatever its rule does
pub record Played (kind : Kind) (d : Draft) (ahead : Ahead) (calls : List Call) (now : Standing) : Type 0 where
  pub produced : Produced kind d ahead now.log now.meaning now.state
  pub calls_are : map call_of now.log ≡ calls

abbrev pub Total : Type 0
Total = (kind : Kind) (d : Draft) → Accepted d → (ahead : Ahead) → TieLaws ahead → (p : Program) → Obeys kind p → (m : Meaning) → Keeps kind m → ((i : ℕ) → m.longest i ≡ 0)
    → (calls : List Call) → Played kind d ahead calls (play d ahead p m calls)

-- the shared rule as such a program

abbrev pub shared_program : Program
shared_program = record {
  grant = λ k m i run. cond (m.yes i run) (shared_meaning m.weight m.total (raised m.longest i run)) m;
  rest = λ k m. shared_meaning m.weight m.total (λ i. 0);
}

-- the shared rule of a table, at rest
abbrev pub shared_rule : Draft → Meaning
shared_rule d = shared_meaning (rule_weight d) d.total.0 (λ i. 0)

-- so there are such programs: the shared rule is one, and its meaning is its table's
pub record SharedPlays (d : Draft) : Type 0 where
  pub obeys : Obeys Kind.exact shared_program
  pub keeps : Keeps Kind.exact (shared_rule d)
  pub own : foreign_rule d (shared_rule d) ≡ false

abbrev pub SharedStands : Type 0
SharedStands = (d : Draft) → Accepted d → SharedPlays d
