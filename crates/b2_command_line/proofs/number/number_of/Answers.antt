use Rattle.std.proofs.Common.{arith}
use Rattle.b2_command_line.proofs.OnlyDecimalsAreNumbers.{number_found, number_outside, number_untold}
use Rattle.b2_command_line.proofs.number.number_of.Goals as goal
use Rattle.b2_command_line.proofs.number.number_of.Goals.{else-n-gt0-via-then-n-gt0+else-n-most, else-n-gt0-via-else-n-gt0}

pub returns-in-None : goal.returns-in-None
returns-in-None c = number_untold c.args.text.now c.args.most c.ranges.most.fits c.in-None.ensures

pub returns-then-n-most : goal.returns-then-n-most
returns-then-n-most c = number_found c.args.text.now c.args.most c.in-Some.n c.ranges.most.fits c.in-Some.ensures.0 c.if-n-gt0.true c.if-n-most.true

pub returns-else-n-gt0 : goal.returns-else-n-gt0
returns-else-n-gt0 c =
    number_outside c.args.text.now c.args.most c.in-Some.n c.ranges.most.fits c.in-Some.ensures.1 c.in-Some.ensures.0
    (elim c.else-n-gt0.branch [
      | else-n-gt0-via-then-n-gt0+else-n-most w ↦ λ some le. omega (arith, w.if-n-most.false, le)
      | else-n-gt0-via-else-n-gt0 w ↦ λ some le. omega (arith, w.if-n-gt0.false, some)
    ])
