use Rattle.std.proofs.Common.{◌≡◌, ◌^◌, ◌<◌, drop}
use Rattle.scenario.specs.Numbers.{all_digits, reading}
use Rattle.scenario.proofs.number.number.Given as goal

-- what is left has digits alone where the field has, and reads to the same value
abbrev pub invariant-loop-digit : goal.invariant-loop-digit
invariant-loop-digit l = (l.n < 10 ^ l.digit-index) × (all_digits (drop l.digit-index l.field) ≡ all_digits l.field) × (reading l.n (drop l.digit-index l.field) ≡ reading 0 l.field)
