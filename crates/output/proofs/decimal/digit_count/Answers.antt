use Rattle.std.proofs.Common.{arith}
use Rattle.std.proofs.lemmas.Fmt.{length-decimal-le}
use Rattle.output.proofs.Spelled.{decimal_shorter, decimal_one}
use Rattle.output.proofs.decimal.digit_count.Goals as goal

pub overflow_add-count : goal.overflow_add-count
overflow_add-count c = omega (arith, length-decimal-le 20 c.args.n (omega arith) (omega arith) (omega arith), c.loop-rest.invariant.1)

pub loop-rest-preserved : goal.loop-rest-preserved
loop-rest-preserved c = (omega arith, omega (arith, decimal_shorter c.loop-rest.rest c.loop-rest-test.true (omega arith), c.loop-rest.invariant.1))

pub returns : goal.returns
returns c = omega (arith, decimal_one c.loop-rest.rest (omega arith), c.loop-rest.invariant.1)
