-- What every write keeps of a sink.
use Rattle.std.specs.Prelude.{◌≡◌, ℕ, ◌≤◌, List, false, Result, Ok, Err}
use Rattle.std.proofs.Common.{refl, sym, ap, ◌∙◌, subst, arith}
use Rattle.std.proofs.lemmas.Bool.{true≢false}
use Rattle.b2_host.specs.declared.fault.IoFault.{IoFault}
use Rattle.b2_host.specs.declared.fault.IoFault.TheVariants as faults
use Rattle.b2_host.specs.Output.{Output, Prints}

-- What every write keeps: the count of faults does not fall, it stays where no write may fail, and whether one may stays.
pub record OutKeeps (before after : Output) : Type 0 where
  pub faults : before.faults ≤ after.faults
  pub no_fault : before.may_fail ≡ false → after.faults ≡ before.faults
  pub may_fail : after.may_fail ≡ before.may_fail

-- nothing changes
pub out_keeps_same : (before after : Output) → after ≡ before → OutKeeps before after
out_keeps_same before after same = subst (OutKeeps before) (sym same) (record { faults = omega arith; no_fault = λ none. refl; may_fail = refl })

-- one write, and then another
pub out_keeps_then : (x y z : Output) → OutKeeps x y → OutKeeps y z → OutKeeps x z
out_keeps_then x y z a b = record {
  faults = (let p = a.faults in let q = b.faults in omega arith);
  no_fault = λ none. b.no_fault (a.may_fail ∙ none) ∙ a.no_fault none;
  may_fail = b.may_fail ∙ a.may_fail;
}

-- what a write keeps
pub out_keeps_prints : {T : Type 0} (piece : List ℕ) (before after : Output) (r : Result T IoFault) → Prints piece before after r → OutKeeps before after
out_keeps_prints piece before after (Ok x) same = subst (OutKeeps before) (sym same) (record { faults = omega arith; no_fault = λ none. refl; may_fail = refl })
out_keeps_prints piece before after (Err faults.Failed) failed = record {
  faults = failed.rose.kept;
  no_fault = λ none. absurd (true≢false (sym failed.may_fail ∙ none));
  may_fail = ap (λ (o : Output). o.may_fail) failed.same;
}
out_keeps_prints piece before after (Err faults.OutOfMemory) same = out_keeps_same before after same
