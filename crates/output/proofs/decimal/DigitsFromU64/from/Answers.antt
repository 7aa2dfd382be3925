use Rattle.std.proofs.Common.{◌≡◌, ℕ, ◌+◌, ◌-◌, ◌/◌, ◌%◌, ◌^◌, ◌<◌, ◌≤◌, List, [], ◌∷◌, ◌++◌, length, drop, set, decimal, sym, ap, ◌∙◌, append_assoc, arith, length-append, length-drop, length-set}
use Rattle.std.proofs.lemmas.Fmt.{decimal_step, decimal_digit, decimal_nonempty}
use Rattle.std.proofs.lemmas.List.{drop-set}
use Rattle.output.proofs.Widths.{length_of_u64}
use Rattle.output.proofs.decimal.DigitsFromU64.from.Goals as goal

-- one more digit in front of those that stand in their places
in_front : (ds ks xs : List ℕ) (d i : ℕ) → i < length xs → ds ≡ (ks ++ (d ∷ [])) ++ drop (i + 1) xs → ds ≡ ks ++ drop i (set xs i d)
in_front ds ks xs d i h e = rw (drop-set xs i d h) (e ∙ append_assoc ks (d ∷ []) (drop (i + 1) xs))

-- while two digits or more are left there is a place in front of the next
room : (n k i : ℕ) (xs : List ℕ) → n < 2 ^ 64 → k < 2 ^ 64 → length xs ≡ 20 → i ≤ 19 → decimal n ≡ decimal k ++ drop (i + 1) xs → 10 ≤ k → 1 ≤ i
room n k i xs hn hk l hi e h =
    let all = simp (length-append, length-drop, l) at (ap length e) in
    let two = simp length-append at (ap length (decimal_step k h hk)) in
    omega (arith, all, two, length_of_u64 n hn, decimal_nonempty (k / 10) (omega arith))

pub overflow_sub-start : goal.overflow_sub-start
overflow_sub-start c = room c.args.n c.loop-rest.rest c.loop-rest.start c.loop-rest.bytes (omega arith) (omega arith) c.loop-rest.invariant.0 c.loop-rest.invariant.1 c.loop-rest.invariant.2 c.loop-rest-test.true

pub loop-rest-preserved : goal.loop-rest-preserved
loop-rest-preserved c =
    let n : ℕ = c.loop-rest.rest in
    let first : 1 ≤ c.loop-rest.start = room c.args.n n c.loop-rest.start c.loop-rest.bytes (omega arith) (omega arith) c.loop-rest.invariant.0 c.loop-rest.invariant.1 c.loop-rest.invariant.2 c.loop-rest-test.true in
    let next : c.loop-rest.start - 1 + 1 ≡ c.loop-rest.start = omega arith in
    let step : decimal n ≡ decimal (n / 10) ++ ((48 + n % 10) ∷ []) = decimal_step n c.loop-rest-test.true (omega arith) in (
      omega (arith, length-set {A = ℕ}),
      omega arith,
      rw next (in_front (decimal c.args.n) (decimal (n / 10)) c.loop-rest.bytes (48 + n % 10) c.loop-rest.start (omega arith) (rw step at c.loop-rest.invariant.2)),
    )

pub returns : goal.returns
returns c =
    let n : ℕ = c.loop-rest.rest in
    sym (in_front (decimal c.args.n) [] c.loop-rest.bytes (48 + n) c.loop-rest.start (omega arith) (rw (decimal_digit n (omega arith)) at c.loop-rest.invariant.2))
