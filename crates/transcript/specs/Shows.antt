-- A run of the board: what an arrival and a tick print, and what they lead to.
use Rattle.std.specs.Prelude.{ℕ, zero, suc, false, cond, List, [], ◌∷◌, ◌++◌, Some, None, Ok, Err, Option, Result}
use Rattle.table.specs.Tasks.{ticks}
use Rattle.table.specs.Verdict.{Draft}
use Rattle.order.specs.Ties.{by_number}
use Rattle.budget.specs.Meaning.{Meaning}
use Rattle.runs.specs.declared.answer.Answer.{Answer}
use Rattle.runs.specs.declared.call.Mark.{Mark}
use Rattle.runs.specs.declared.refusal.ArrivalRefusal.{ArrivalRefusal}
use Rattle.runs.specs.declared.refusal.TickRefusal.{TickRefusal}
use Rattle.runs.specs.Arrivals.{arrival, after_arrival}
use Rattle.runs.specs.Numbers.{arrival_number}
use Rattle.runs.specs.Programs.{meaning_after}
use Rattle.runs.specs.States.{State, new_state}
use Rattle.runs.specs.Ticking.{tick, after_tick}
use Rattle.needs.specs.Marks.{mark_of}
use Rattle.needs.specs.Noted.{noted}
use Rattle.output.specs.declared.output.OutputLine.{OutputLine}
use Rattle.output.specs.declared.output.OutputLine.TheVariants.{Arrived, Refused, Switched, Ticked}
use Rattle.transcript.specs.Policies.{Policy, by_policy, at_rest}

-- a dispatcher with its table, rule and state, and the needs of its jobs; the tie order is by number
pub record Show : Type 0 where
  pub draft : Draft
  pub policy : Policy
  pub meaning : Meaning
  pub state : State
  pub need : ℕ → ℕ

-- a new dispatcher over an accepted table, with a rule that was made for it
abbrev pub new_show : Draft → Policy → Show
new_show d policy = record { draft = d; policy = policy; meaning = at_rest d policy; state = new_state false; need = λ i. 0 }

-- arrivals

abbrev pub arrival_line : ℕ → ℕ → Result (Unit {0}) ArrivalRefusal → OutputLine
arrival_line clock i (Ok v) = Arrived (ticks clock) i
arrival_line clock i (Err e) = Refused (ticks clock) (arrival_number e)

-- the need of an accepted arrival is noted
abbrev pub need_after : Result (Unit {0}) ArrivalRefusal → (ℕ → ℕ) → ℕ → ℕ → ℕ → ℕ
need_after (Ok v) need i n = noted need i n
need_after (Err e) need i n = need

abbrev pub arriving : Show → ℕ → Result (Unit {0}) ArrivalRefusal
arriving w i = arrival w.draft w.state i

abbrev pub after_arriving : Show → ℕ → ℕ → Show
after_arriving w i n = record {
  draft = w.draft;
  policy = w.policy;
  meaning = w.meaning;
  state = after_arrival w.draft w.state i;
  need = need_after (arriving w i) w.need i n;
}

-- ticks

abbrev pub mark : Show → Mark
mark w = mark_of w.draft by_number w.meaning.yes w.state w.need

abbrev pub ticking : Show → Result Answer TickRefusal
ticking w = tick w.draft by_number w.meaning.yes w.state (mark w)

abbrev pub after_ticking : Show → Show
after_ticking w = record {
  draft = w.draft;
  policy = w.policy;
  meaning = meaning_after w.draft by_number (by_policy w.policy) 0 w.state (mark w) w.meaning;
  state = after_tick w.draft by_number w.meaning.yes w.state (mark w);
  need = w.need;
}

-- printed before a tick that switches
abbrev pub switch_line : Answer → Option OutputLine
switch_line a = cond a.switched (Some (Switched a.clock a.dropped)) None

abbrev pub tick_line : Answer → OutputLine
tick_line a = Ticked a.task a.mode a.ending a.clock

abbrev pub listed : Option OutputLine → List OutputLine
listed None = []
listed (Some l) = l ∷ []

abbrev pub answer_lines : Answer → List OutputLine
answer_lines a = listed (switch_line a) ++ (tick_line a ∷ [])

-- A refused tick prints nothing, and those behind it would be refused as well. No text comes that far: it holds under 2^40 ticks.
abbrev pub lines_by : Result Answer TickRefusal → List OutputLine → List OutputLine
lines_by (Ok a) rest = answer_lines a ++ rest
lines_by (Err e) rest = []

abbrev pub show_by : Result Answer TickRefusal → Show → Show → Show
show_by (Ok a) w w' = w'
show_by (Err e) w w' = w

-- what n ticks print
unfoldable pub run_lines : ℕ → Show → List OutputLine
run_lines zero w = []
run_lines (suc n) w = lines_by (ticking w) (run_lines n (after_ticking w))

-- and what they lead to
unfoldable pub run_show : ℕ → Show → Show
run_show zero w = w
run_show (suc n) w = show_by (ticking w) w (run_show n (after_ticking w))
