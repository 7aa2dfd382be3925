-- The kinds of lines, their letters and their order.
use Rattle.std.specs.Prelude.{ℕ, Bool, true, false, cond, List, length, Some, None, Option, ◌==◌, slice_index}
use Rattle.scenario.specs.declared.kind.Kind.{Kind}
use Rattle.scenario.specs.declared.kind.Kind.TheVariants.{Scale, High, Low, Shared, Fixed, Ceiling, Arrival, Run}
use Rattle.scenario.specs.declared.kind.Phase.{Phase}
use Rattle.scenario.specs.declared.kind.Phase.TheVariants.{Start, Tasks, Ruled, Events}

-- S, H, L, M, F, C, A and R
abbrev pub letter : ℕ → Option Kind
letter b =
    cond (b == 83) (Some Scale) (cond (b == 72) (Some High) (cond (b == 76) (Some Low) (cond (b == 77) (Some Shared)
    (cond (b == 70) (Some Fixed) (cond (b == 67) (Some Ceiling) (cond (b == 65) (Some Arrival) (cond (b == 82) (Some Run) None)))))))

-- a field that is one of the letters alone
abbrev pub kind_of : List ℕ → Option Kind
kind_of field = cond (length field == 1) (letter (slice_index field 0)) None

abbrev pub next_phase : Kind → Phase
next_phase Scale = Tasks
next_phase High = Tasks
next_phase Low = Tasks
next_phase Shared = Ruled
next_phase Fixed = Ruled
next_phase Ceiling = Events
next_phase Arrival = Events
next_phase Run = Events

-- one S
abbrev pub starts : Kind → Bool
starts Scale = true
starts High = false
starts Low = false
starts Shared = false
starts Fixed = false
starts Ceiling = false
starts Arrival = false
starts Run = false

-- any count of tasks, then M or F
abbrev pub task_or_rule : Kind → Bool
task_or_rule Scale = false
task_or_rule High = true
task_or_rule Low = true
task_or_rule Shared = true
task_or_rule Fixed = true
task_or_rule Ceiling = false
task_or_rule Arrival = false
task_or_rule Run = false

abbrev pub event : Kind → Bool
event Scale = false
event High = false
event Low = false
event Shared = false
event Fixed = false
event Ceiling = false
event Arrival = true
event Run = true

-- at most one C, then events
abbrev pub ceiling_or_event : Kind → Bool
ceiling_or_event Scale = false
ceiling_or_event High = false
ceiling_or_event Low = false
ceiling_or_event Shared = false
ceiling_or_event Fixed = false
ceiling_or_event Ceiling = true
ceiling_or_event Arrival = true
ceiling_or_event Run = true

-- the place rules: whether a line of a kind may come next
abbrev pub allowed : Phase → Kind → Bool
allowed Start k = starts k
allowed Tasks k = task_or_rule k
allowed Ruled k = ceiling_or_event k
allowed Events k = event k

-- a text ends behind its M or F line
abbrev pub may_end : Phase → Bool
may_end Start = false
may_end Tasks = false
may_end Ruled = true
may_end Events = true
