-- Ticks before the first switch, of lines behind others.
use Rattle.std.proofs.Common.{◌≡◌, ℕ, ◌≤◌, Bool, true, false, cond, List, [], ◌∷◌, ◌++◌, Some, None, append_assoc, arith}
use Rattle.runs.specs.declared.answer.Answer.{Answer}
use Rattle.output.specs.declared.fault.Fault.{Fault}
use Rattle.output.specs.declared.output.OutputLine.{OutputLine}
use Rattle.output.specs.declared.output.OutputLine.TheVariants.{Arrived, Refused, Switched, Ticked, Faulted}
use Rattle.transcript.specs.Contests.{ticks_before_switch}
use Rattle.transcript.specs.Shows.{listed, tick_line, answer_lines}
use Rattle.transcript.specs.Transcripts.{fault_lines}

-- xs leave no more ticks before the first switch than ys
abbrev pub Sooner : List OutputLine → List OutputLine → Type 0
Sooner xs ys = ticks_before_switch xs ≤ ticks_before_switch ys

pub sooner_behind : (first xs ys : List OutputLine) → Sooner xs ys → Sooner (first ++ xs) (first ++ ys)
unfolding ticks_before_switch
sooner_behind [] xs ys h = h
sooner_behind (Arrived clock i ∷ first) xs ys h = sooner_behind first xs ys h
sooner_behind (Refused clock number ∷ first) xs ys h = sooner_behind first xs ys h
sooner_behind (Switched clock dropped ∷ first) xs ys h = omega arith
sooner_behind (Ticked i mode ending clock ∷ first) xs ys h = let rest = sooner_behind first xs ys h in omega arith
sooner_behind (Faulted f ∷ first) xs ys h = sooner_behind first xs ys h

pub fault_sooner : (f : Fault) (ys : List OutputLine) → Sooner (fault_lines f) ys
unfolding ticks_before_switch
fault_sooner f ys = omega arith

switch_sooner : (a : Answer) (b : Bool) (xs ys : List OutputLine) → b ≡ true → Sooner ((listed (cond b (Some (Switched a.clock a.dropped)) None) ++ (tick_line a ∷ [])) ++ xs) ys
unfolding ticks_before_switch
switch_sooner a true xs ys e = omega arith
switch_sooner a false xs ys e = let z : ◌≡◌ {A = ℕ} 0 1 = cc in absurd (omega arith)

pub switched_sooner : (a : Answer) (xs ys : List OutputLine) → a.switched ≡ true → Sooner (answer_lines a ++ xs) ys
switched_sooner a xs ys e = switch_sooner a a.switched xs ys e

-- xs and ys lead to lines that are compared only if R holds behind them
abbrev pub Leads : Type 0 → List OutputLine → List OutputLine → Type 0
Leads R xs ys = (xs' ys' : List OutputLine) → (R → Sooner xs' ys') → Sooner (xs ++ xs') (ys ++ ys')

pub leads_behind : (R : Type 0) (first xs ys : List OutputLine) → Leads R xs ys → Leads R (first ++ xs) (first ++ ys)
leads_behind R first xs ys h xs' ys' g = rw (append_assoc first xs xs', append_assoc first ys ys') (sooner_behind first (xs ++ xs') (ys ++ ys') (h xs' ys' g))

pub leads_switched : (R : Type 0) (a : Answer) (xs ys : List OutputLine) → a.switched ≡ true → Leads R (answer_lines a ++ xs) ys
leads_switched R a xs ys e xs' ys' g = rw (append_assoc (answer_lines a) xs xs') (switched_sooner a (xs ++ xs') (ys ++ ys') e)
