-- A caller that returns the fault of a call as it is answers `NotGood` where the call does: for early returns.
use Rattle.std.proofs.Common.{◌≡◌, Result, Ok, Err, ap, sym, ◌∙◌}
use Rattle.std.specs.Prelude.{IsErrOf}
use Rattle.std.specs.Result.{IsErrAnd}
use Rattle.b2_log.specs.declared.line_fault.LineFault.{LineFault}
use Rattle.b2_log.specs.declared.line_fault.LineFault.TheVariants.{NotGood}

err_is : {T : Type 0} (x y : LineFault) → IsErrOf {T = T} (Err x) y → x ≡ y
err_is x y e = cc

-- what was handed on is what the call answered
pub handed_on : {T U : Type 0} (r : Result T LineFault) (x : LineFault) → IsErrAnd r (λ y. y ≡ x) → IsErrOf r NotGood → IsErrOf {T = U} (Err x) NotGood
handed_on (Ok t) x h e = absurd h
handed_on (Err y) x h e = ap Err (sym h ∙ err_is y NotGood e)
