use Rattle.std.proofs.Common.{arith, refl}
use Rattle.std.proofs.lemmas.Fmt.{decimal_digit}
use Rattle.b2_run_examples.specs.Reported.{ReportsHold}

pub reports_hold : ReportsHold
reports_hold = record {
  copied_told = rw (decimal_digit 1 (omega arith), decimal_digit 0 (omega arith)) refl;
  failing_told = rw (decimal_digit 1 (omega arith), decimal_digit 0 (omega arith)) refl;
  missing_told = rw (decimal_digit 0 (omega arith), decimal_digit 1 (omega arith)) refl;
  unnamed_start = refl;
  unnamed_failure = refl;
  cycle_told = refl;
  large_told = rw (decimal_digit 7 (omega arith)) refl;
  fault_told = refl;
}
