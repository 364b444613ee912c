-- A machine that does as defined with a fault does so with any result that is told to be this fault; for each `?`.
use Rattle.std.proofs.Common.{◌≡◌, Result, Err, sym, ap, ◌∙◌, subst}
use Rattle.std.proofs.lemmas.Result.{err_from_is_err_and}
use Rattle.std.specs.Result.{IsErrAnd}
use Rattle.jam_effects.specs.declared.fault.EvalFault.{EvalFault}
use Rattle.jam_effects.specs.Machines.{Machine}
use Rattle.jam_effects.specs.Does.{Does, DoesInCall}
use Rattle.jam_effects.specs.Views.{What}

is_fault : {A : Type 0} (result : Result A EvalFault) (e : EvalFault) → IsErrAnd result (λ f. f ≡ e) → result ≡ Err e
is_fault result e told = let p = err_from_is_err_and result told in p.1 ∙ ap Err p.2

module _ {R A B : Type 0} {view : A → B} {what : What R B} {a b : Machine R} {result : Result A EvalFault} {e : EvalFault} where
  pub handed_on : IsErrAnd result (λ f. f ≡ e) → Does view what a b (Err e) → Does view what a b result
  handed_on told h = subst (λ r. Does view what a b r) (sym (is_fault result e told)) h

  pub handed_on_in_call : IsErrAnd result (λ f. f ≡ e) → DoesInCall view what a b (Err e) → DoesInCall view what a b result
  handed_on_in_call told h = subst (λ r. DoesInCall view what a b r) (sym (is_fault result e told)) h
