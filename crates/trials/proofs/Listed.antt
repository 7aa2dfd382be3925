-- A slice of entries, in order, as a log; and one call more on a count.
use Rattle.std.proofs.Common.{◌≡◌, ℕ, zero, suc, ◌+◌, ◌<◌, ◌≤◌, Bool, true, false, cond, List, [], ◌∷◌, map, reverse, length, get_or, take, set, refl, ap, ◌∙◌, arith}
use mathlib.Core.List.{reverse-append}
use native.Mathlib.Decide.{dec_le}
use lib.Seq.{take-set-le}
use Rattle.std.proofs.lemmas.List.{take_more, take_more_set}
use Rattle.table.specs.Verdict.{Draft}
use Rattle.order.specs.Orders.{Ahead}
use Rattle.budget.specs.Meaning.{Meaning}
use Rattle.runs.specs.declared.call.Call.{Call}
use Rattle.runs.specs.declared.call.Call.TheVariants.{Arrive, Tick}
use Rattle.runs.specs.declared.entry.Entry.{Entry}
use Rattle.runs.specs.Numbers.{call_of, unanswered}
use Rattle.runs.specs.States.{State, OfTable}
use Rattle.runs.specs.Logs.{calm, switches, before_switch, switched_in, since}
use Rattle.runs.specs.Produced.{Kind, Produced}
use Rattle.runs.specs.Bounds.{Young, Extends}
use Rattle.trials.specs.Comparing.{Alike, Counting}
use Rattle.trials.proofs.Alikes.{own_alike}

pub log_more : (xs : List Entry) (i : ℕ) (e : Entry) → i < length xs → reverse (take (i + 1) (set xs i e)) ≡ e ∷ reverse (take i xs)
log_more xs i e h = ap reverse (take_more_set xs i e h) ∙ reverse-append (take i xs) (e ∷ [])

pub young_more : (d : Draft) (xs : List Entry) (i : ℕ) (e : Entry) → i < length xs → ((n : ℕ) → n ≤ i → Young d (reverse (take n xs))) → Young d (e ∷ reverse (take i xs))
    → (n : ℕ) → n ≤ i + 1 → Young d (reverse (take n (set xs i e)))
young_more d xs i e h old new n l =
    elim (dec_le n i) [
      | yes k ↦ rw (take-set-le n xs i e k) (old n k)
      | no k ↦ let q : n ≡ i + 1 = omega arith in rw (q, log_more xs i e h) new
    ]

pub call_of_unanswered : (c : Call) → call_of (unanswered c) ≡ c
call_of_unanswered (Arrive i) = refl
call_of_unanswered (Tick mark) = refl

pub count_none : (kind : Kind) (d : Draft) (ahead : Ahead) (m : Meaning) (s : State) (calls : List Call) → Produced kind d ahead [] m s → OfTable d m → Counting kind d ahead m s (take 0 calls) 0 false
unfolding before_switch switched_in
count_none kind d ahead m s calls p own = record { log = []; by = p; own = own; calls_are = refl; ticks_are = refl; over_is = refl }

pub count_more : (kind : Kind) (d : Draft) (ahead : Ahead) (m n : Meaning) (s s' : State) (calls : List Call) (i : ℕ) (x : Call) (ticks ticks' : ℕ) (over over' : Bool) (e : Entry)
    → i < length calls → Counting kind d ahead m s (take i calls) ticks over → Extends kind d ahead m s e n s' → Alike m n → call_of e ≡ get_or calls i x
    → ticks' ≡ cond over ticks (ticks + calm e) → over' ≡ cond over true (switches e) → Counting kind d ahead n s' (take (i + 1) calls) ticks' over'
unfolding before_switch switched_in
count_more kind d ahead m n s s' calls i x ticks ticks' over over' e lt c ext alike call ts os = record {
  log = e ∷ c.log;
  by = (ext c.log c.by).0;
  own = own_alike d m n alike c.own;
  calls_are = calls';
  ticks_are = ts ∙ ap (λ b. cond b ticks (ticks + calm e)) c.over_is ∙ ap (λ k. cond (switched_in c.log) k (k + calm e)) c.ticks_are;
  over_is = os ∙ ap (λ b. cond b true (switches e)) c.over_is;
}
  where
    calls' : call_of e ∷ map call_of c.log ≡ reverse (take (i + 1) calls)
    calls' = rw (take_more calls i x lt, reverse-append (take i calls) (get_or calls i x ∷ []), call, c.calls_are) refl

pub young_none : (d : Draft) (xs : List Entry) (n : ℕ) → n ≤ 0 → Young d (reverse (take n xs))
unfolding since
young_none d xs zero h i a e = let z : ◌≡◌ {A = ℕ} 0 1 = cc in absurd (omega arith)
young_none d xs (suc n) h i a e = absurd (omega (arith, h))
