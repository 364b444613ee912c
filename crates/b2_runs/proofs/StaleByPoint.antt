use Rattle.std.proofs.Common.{◌≡◌, ℕ, ◌<◌, ◌≤◌, Bool, true, false, refl, sym, ◌∙◌, arith, Option, Some, None}
use Rattle.b2_host.specs.Disks.{File}
use Rattle.b2_runs.specs.Staleness.{StalePoint.runs_all, StalePoint.is_always, StalePoint.is_notfile, StalePoint.lacks, StalePoint.is_older, StalePoint.is_done, StalePoint.from_notfile, StalePoint.unrecorded}
use Rattle.b2_runs.specs.StaleLaws.{StaleByPoint, StaleByPointAlone}

-- a fresh step has none of the five points
pub stale_by_point : StaleByPoint
stale_by_point u events step members (runs_all e) f = let g : true ≡ false = sym e ∙ f.not_all in cc
stale_by_point u events step members (is_always e) f = let g : true ≡ false = sym e ∙ f.not_always in cc
stale_by_point u events step members (is_notfile e) f = let g : true ≡ false = sym e ∙ f.not_notfile in cc
stale_by_point u events step members (lacks out c none) f = let (file, at) = f.stand out c in let g : None ≡ Some file = sym none ∙ at in cc
stale_by_point u events step members (is_older off out member value written read c d at_out at_member less) f = let h = f.none_older off out member value written read c d at_out at_member in omega (arith, h, less)
stale_by_point u events step members (is_done off member value i other well c makes d) f = f.none_done off member value i other well c makes d
stale_by_point u events step members (from_notfile member value i other c makes e) f = let g : true ≡ false = sym e ∙ f.none_notfile member value i other c makes in cc
stale_by_point u events step members (unrecorded none) f = none f.recorded

not_true : (t : Bool) → (t ≡ true → ⊥) → t ≡ false
not_true true no_true = absurd (no_true refl)
not_true false no_true = refl

some_file : (o : Option File) → (o ≡ None → ⊥) → (file : File) × (o ≡ Some file)
some_file None no_none = absurd (no_none refl)
some_file (Some file) no_none = (file, refl)

not_less : (x y : ℕ) → (x < y → ⊥) → y ≤ x
not_less x y h = grind (arith, h)

-- a step without them is not stale
pub stale_by_point_alone : StaleByPointAlone
stale_by_point_alone u events step members none stale = none (unrecorded (λ recorded. stale (record {
  not_all = not_true u.all (λ e. none (runs_all e));
  not_always = not_true step.always (λ e. none (is_always e));
  not_notfile = not_true step.notfile (λ e. none (is_notfile e));
  stand = λ out c. some_file (u.build.folder out) (λ e. none (lacks out c e));
  none_older = λ off out member value written read c d at_out at_member. not_less written.stamp read.stamp (λ less. none (is_older off out member value written read c d at_out at_member less));
  none_done = λ off member value i other well c makes d. none (is_done off member value i other well c makes d);
  none_notfile = λ member value i other c makes. not_true other.notfile (λ e. none (from_notfile member value i other c makes e));
  recorded = recorded;
})))
