-- How long written numbers are at most.
use Rattle.std.proofs.Common.{ℕ, ◌^◌, ◌<◌, ◌≤◌, length, decimal, arith, length-append}
use Rattle.std.proofs.lemmas.Fmt.{length-decimal-le}

pub length_of_u64 : (n : ℕ) → n < 2 ^ 64 → length (decimal n) ≤ 20
length_of_u64 n h = length-decimal-le 20 n (omega arith) (omega arith) h

pub length_of_u32 : (n : ℕ) → n < 2 ^ 32 → length (decimal n) ≤ 10
length_of_u32 n h = length-decimal-le 10 n (omega arith) (omega arith) (omega arith)

pub ruleset widths = (length_of_u64, length_of_u32, length-append)
