-- A judgement stops at a file that is too big only where it digests files.
use Rattle.std.proofs.Common.{◌≡◌, Result, Ok, Err, subst, sym}
use Rattle.std.specs.Prelude.{IfErr}
use Rattle.b2_facts.specs.declared.stop.FilesStop.{FilesStop}
use Rattle.b2_facts.specs.declared.stop.FilesStop.TheVariants as stops
use Rattle.b2_verdicts.specs.VerdictCalls.{IfTooBig}

pub too_big_if : (T P : Type 0) (stop : FilesStop) (r : Result T FilesStop) → IfTooBig P stop → r ≡ Err stop → IfErr r (IfTooBig P)
too_big_if T P stop r so e = subst (λ (q : Result T FilesStop). IfErr q (IfTooBig P)) (sym e) so

pub not_too_big : (T P : Type 0) (r : Result T FilesStop) → r ≡ Err stops.Host → IfErr r (IfTooBig P)
not_too_big T P r e = too_big_if T P stops.Host r tt e

pub too_big_for : (T P : Type 0) (r : Result T FilesStop) → P → IfErr r (IfTooBig P)
too_big_for T P (Ok x) p = tt
too_big_for T P (Err stops.Host) p = tt
too_big_for T P (Err stops.OutOfMemory) p = tt
too_big_for T P (Err (stops.TooBig number size)) p = p
