use Rattle.std.proofs.Common.{subst, sym}
use Rattle.b2_base.specs.Bytes.{HasNoZero}
use Rattle.jam_natives.proofs.StrippingLeavesTheRest.{stripped, stripped_no_zero}
use Rattle.jam_natives.proofs.texts.after.Goals as goal

pub returns-clause-value : goal.returns-clause-value
returns-clause-value c = rw c.as_str.ensures.value at (stripped c.args.start.now c.as_str.result.now c.strip_prefix.result c.strip_prefix.ensures.cases)

pub returns-clause-no_zero : goal.returns-clause-no_zero
returns-clause-no_zero c =
    stripped_no_zero c.args.start.now c.as_str.result.now c.strip_prefix.result (subst HasNoZero (sym c.as_str.ensures.value) c.as_str.ensures.no_zero) c.strip_prefix.ensures.cases
