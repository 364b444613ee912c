-- From what holds of an outcome where it is `Ok` or `Err` follows what these imply; a tool box for calls in code.
use Rattle.std.proofs.Common.{Ok, Err}
use Rattle.std.specs.Prelude.{Result, OnOk, OnErr}

-- what follows from what holds of an outcome
pub on_ok : {T E : Type 0} (r : Result T E) {P Q : Type 0} → OnOk r P → (P → Q) → OnOk r Q
on_ok (Ok x) h f = f h
on_ok (Err e) h f = tt

pub on_err : {T E : Type 0} (r : Result T E) {P Q : Type 0} → OnErr r P → (P → Q) → OnErr r Q
on_err (Ok x) h f = tt
on_err (Err e) h f = f h

-- what holds either way
pub on_both : {T E : Type 0} (r : Result T E) {P Q R : Type 0} → OnOk r P → OnErr r Q → (P → R) → (Q → R) → R
on_both (Ok x) h k f g = f h
on_both (Err e) h k f g = g k
