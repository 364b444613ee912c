-- A call that exits early answers with that fault and leaves what evaluation keeps, for each early exit of the code.
use Rattle.std.proofs.Common.{◌≡◌, ℕ, Bool, Option, Result, Err, IfOk, IfErr, sym, ap, subst, ◌∙◌}
use Rattle.std.specs.Result.{IsErrAnd}
use Rattle.std.proofs.lemmas.Result.{err_from_is_err_and}
use Rattle.b2_evaluator.specs.Answers.{Answers}
use Rattle.b2_generate.specs.Faults.{Fault}
use Rattle.b2_generate.specs.ToldOutcomes.{IsRefusal, Leaves}
use Rattle.b2_generate.specs.declared.fault.GenFault.{GenFault}
use Rattle.b2_generate.specs.declared.fault.GenFault.TheVariants.{OutOfMemory}

pub exit_is : {T E : Type 0} (r : Result T E) (fault : E) → IsErrAnd r (λ f. f ≡ fault) → r ≡ Err fault
exit_is r fault h = let p = err_from_is_err_and r h in p.1 ∙ ap Err p.2

-- nothing was made
pub none_made : {T E : Type 0} (r : Result T E) (fault : E) (P : T → Type 0) → r ≡ Err fault → IfOk r P
none_made {T} {E} r fault P e = subst (λ (k : Result T E). IfOk k P) (sym e) (record {})

-- it is the fault of a call
pub is_refused : {T E : Type 0} (is_host is_out : E → Bool) (Holds : Fault E → Type 0) (r : Result T (GenFault E)) (fault : GenFault E) → r ≡ Err fault → IsRefusal is_host is_out Holds fault
    → IfErr r (IsRefusal is_host is_out Holds)
is_refused {T} {E} is_host is_out Holds r fault e h = subst (λ (k : Result T (GenFault E)). IfErr k (IsRefusal is_host is_out Holds)) (sym e) h

module _ {S E K : Type 0} (answers : S → Option (Answers E)) (kept : S → K) (faults : S → ℕ) (is_host is_out : E → Bool) (CanFault : K → E → Type 0) where
  pub same_left : {T U : Type 0} (old new : S) (r : Result T (GenFault E)) (fault : GenFault E) → r ≡ Err fault
      → Leaves {T = U} answers kept faults is_host is_out CanFault old new (Err fault) → Leaves answers kept faults is_host is_out CanFault old new r
  same_left {T} {U} old new r fault e h =
      subst (λ (k : Result T (GenFault E)). Leaves answers kept faults is_host is_out CanFault old new k) (sym e)
      (record { same_answers = h.same_answers; same_kept = h.same_kept; counted = h.counted; known = h.known })

  -- out of memory
  pub out_left : {T : Type 0} (old new : S) (r : Result T (GenFault E)) → r ≡ Err OutOfMemory → answers new ≡ answers old → kept new ≡ kept old → Leaves answers kept faults is_host is_out CanFault old new r
  out_left {T} old new r e told held =
      subst (λ (k : Result T (GenFault E)). Leaves answers kept faults is_host is_out CanFault old new k) (sym e) (record { same_answers = told; same_kept = held; counted = record {}; known = record {} })
