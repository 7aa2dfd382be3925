-- The number of each refusal; the call of an entry, a call with no answer yet, and the number by which an entry was refused.
use Rattle.std.specs.Prelude.{ℕ, Some, None, Ok, Err, Option}
use Rattle.runs.specs.declared.refusal.ArrivalRefusal.{ArrivalRefusal}
use Rattle.runs.specs.declared.refusal.ArrivalRefusal.TheVariants.{ForeignRule, NoSuchTask, TooEarly, StillPending, NoAssuredPart}
use Rattle.runs.specs.declared.refusal.TickRefusal.{TickRefusal}
use Rattle.runs.specs.declared.refusal.TickRefusal.TheVariants.{ForeignRule as TickForeign, ClockEnd}
use Rattle.runs.specs.declared.call.Call.{Call}
use Rattle.runs.specs.declared.call.Call.TheVariants.{Arrive as ArriveCall, Tick as TickCall}
use Rattle.runs.specs.declared.entry.Entry.{Entry}
use Rattle.runs.specs.declared.entry.Entry.TheVariants.{Arrive, Tick}

abbrev pub arrival_number : ArrivalRefusal → ℕ
arrival_number ForeignRule = 19
arrival_number (NoSuchTask i) = 10
arrival_number (TooEarly i next) = 11
arrival_number (StillPending i j) = 12
arrival_number (NoAssuredPart i) = 13

abbrev pub tick_number : TickRefusal → ℕ
tick_number TickForeign = 19
tick_number (ClockEnd t) = 14

abbrev pub call_of : Entry → Call
call_of (Arrive i a) = ArriveCall i
call_of (Tick mark a) = TickCall mark

abbrev pub unanswered : Call → Entry
unanswered (ArriveCall i) = Arrive i None
unanswered (TickCall mark) = Tick mark None

abbrev pub refused_by : Entry → Option ℕ
refused_by (Arrive i None) = None
refused_by (Arrive i (Some (Ok v))) = None
refused_by (Arrive i (Some (Err e))) = Some (arrival_number e)
refused_by (Tick mark None) = None
refused_by (Tick mark (Some (Ok a))) = None
refused_by (Tick mark (Some (Err e))) = Some (tick_number e)
