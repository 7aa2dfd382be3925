-- A written number reads back to itself.
use Rattle.std.proofs.Common.{◌≡◌, ℕ, ◌^◌, ◌<◌, ◌≤◌, Bool, true, false, cond, not, ◌&&◌, ◌||◌, eqb, leb, ◌⊎◌, length, get_or, Some, None, decimal, sym, refl, ap, ◌∙◌, inl, inr, arith, rules}
use Rattle.std.proofs.lemmas.Fmt.{digits_decimal, digits_value-decimal, length-decimal-le, decimal_nonempty, first_decimal, decimal_digit, decimal-digits_value}
use Rattle.std.proofs.lemmas.Str.Parse.{IsNumeralModel, numerals_by_fold, digits_value_short}
use Rattle.std.proofs.lemmas.Bool.{cases_eq, and_parts, leb-true, eq-eqb}
use Rattle.scenario.specs.Laws.{WrittenReads, ReadsWritten}
use Rattle.scenario.specs.Numbers.{in_range, all_digits, reading}
use Rattle.scenario.proofs.Digits.{value_some}

own : IsNumeralModel (λ ds. all_digits ds ≡ true) (reading 0)
own = numerals_by_fold _ (search rules) reading (search rules)

front : (n : ℕ) → n < 10 ^ 9 → ((get_or (decimal n) 0 0 ≡ 48) × (length (decimal n) ≤ 1)) ⊎ (get_or (decimal n) 0 0 ≡ 48 → ⊥)
front n h = elim (cases_eq n 0) [
  | inl e ↦ inl (rw (e, decimal_digit 0 (omega arith)) (refl, omega arith))
  | inr ne ↦ inr (λ z. omega (arith, first_decimal n (omega arith) (omega arith), z))
]

pub written_reads : WrittenReads
written_reads n h =
    value_some (decimal n) (decimal_nonempty n (omega arith)) (length-decimal-le 9 n (omega arith) h (omega arith)) (front n h) (digits_decimal own n (omega arith))
    ∙ ap Some (digits_value-decimal own n (omega arith))

parts : (x y z : Bool) (v n : ℕ) → cond (x && y && z) (Some v) None ≡ Some n → (x ≡ true) × (y ≡ true) × (z ≡ true) × (v ≡ n)
parts true true true v n e = (refl, refl, refl, cc)
parts true true false v n e = let w : ◌≡◌ {A = ℕ} 0 1 = cc in absurd (omega arith)
parts true false z v n e = let w : ◌≡◌ {A = ℕ} 0 1 = cc in absurd (omega arith)
parts false y z v n e = let w : ◌≡◌ {A = ℕ} 0 1 = cc in absurd (omega arith)

alone : (a len : ℕ) → 1 ≤ len → (not (eqb a 48) || leb len 1) ≡ true → a ≡ 48 → len ≡ 1
alone a len h t z = omega (arith, leb-true len 1 (rw (eq-eqb a 48 z) at t))

pub reads_written : ReadsWritten
reads_written field n e =
    let p = parts (in_range 1 9 (length field)) (not (eqb (get_or field 0 0) 48) || leb (length field) 1) (all_digits field) (reading 0 field) n e in
    let range = and_parts (leb 1 (length field)) (leb (length field) 9) p.0 in
    let some : 1 ≤ length field = leb-true 1 (length field) range.0 in
    let small : reading 0 field < 10 ^ 9 = digits_value_short own field 9 p.2 (leb-true (length field) 9 range.1) in
    sym (decimal-digits_value own field p.2 some (alone (get_or field 0 0) (length field) some p.1) (omega arith)) ∙ ap decimal p.3
