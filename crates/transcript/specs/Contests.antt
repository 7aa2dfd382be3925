-- The same text under fixed budgets and under the shared rule.
use Rattle.std.specs.Prelude.{◌≡◌, ℕ, ◌+◌, ◌-◌, ◌≤◌, Bool, true, false, List, [], ◌∷◌, Some, None, Option, slice_index_or, slice_set}
use Rattle.scenario.specs.declared.kind.Kind.{Kind}
use Rattle.scenario.specs.declared.kind.Kind.TheVariants.{Scale, High, Low, Shared, Fixed, Ceiling, Arrival, Run}
use Rattle.output.specs.declared.output.OutputLine.{OutputLine}
use Rattle.output.specs.declared.output.OutputLine.TheVariants.{Arrived, Refused, Switched, Ticked, Faulted}
use Rattle.scenario.specs.Kinds.{kind_of}
use Rattle.scenario.specs.Laws.{ended}
use Rattle.output.specs.Lines.{lines, fields}
use Rattle.transcript.specs.Transcripts.{transcript}

-- the ticks before the first switch, or all of them if there is none
unfoldable pub ticks_before_switch : List OutputLine → ℕ
ticks_before_switch [] = 0
ticks_before_switch (Arrived clock i ∷ ls) = ticks_before_switch ls
ticks_before_switch (Refused clock number ∷ ls) = ticks_before_switch ls
ticks_before_switch (Switched clock dropped ∷ ls) = 0
ticks_before_switch (Ticked i mode ending clock ∷ ls) = ticks_before_switch ls + 1
ticks_before_switch (Faulted f ∷ ls) = ticks_before_switch ls

-- the text with another line n, counted from 1; each line is ended by byte 10
abbrev pub with_line : List ℕ → ℕ → List ℕ → List ℕ
with_line text n line = ended (slice_set (lines text) (n - 1) line)

abbrev pub is_fixed_kind : Option Kind → Bool
is_fixed_kind None = false
is_fixed_kind (Some Scale) = false
is_fixed_kind (Some High) = false
is_fixed_kind (Some Low) = false
is_fixed_kind (Some Shared) = false
is_fixed_kind (Some Fixed) = true
is_fixed_kind (Some Ceiling) = false
is_fixed_kind (Some Arrival) = false
is_fixed_kind (Some Run) = false

abbrev pub are_fixed : List (List ℕ) → Bool
are_fixed [] = false
are_fixed (f ∷ []) = false
are_fixed (f ∷ g ∷ gs) = is_fixed_kind (kind_of f)

-- a line with fixed budgets: the letter F alone is its first field, and at least one field follows
abbrev pub is_fixed : List ℕ → Bool
is_fixed line = are_fixed (fields line)

-- the text with the shared rule, M, on line n
abbrev pub under_shared : List ℕ → ℕ → List ℕ
under_shared text n = with_line text n (77 ∷ [])

-- If line n has fixed budgets, then with the shared rule in their place the board ticks at least as often before its first switch.
-- Arrivals and needs are the same in both texts, and the needs decide when a job is done.
abbrev pub SharedLasts : List ℕ → ℕ → Type 0
SharedLasts text n = is_fixed (slice_index_or (lines text) (n - 1) []) ≡ true → ticks_before_switch (transcript text) ≤ ticks_before_switch (transcript (under_shared text n))

abbrev pub SharedLastsLongest : Type 0
SharedLastsLongest = (text : List ℕ) (n : ℕ) → SharedLasts text n
