use Rattle.std.proofs.Common.{◌≡◌, ℕ, zero, false, List, [], length, refl, sym, ap, subst, arith, Some, None, codes, if◌then◌else◌}
use Rattle.std.specs.List.{Contains}
use Rattle.b2_host.specs.declared.children.ChildEvent.{ChildEvent}
use Rattle.b2_host.specs.declared.children.ChildEvent.TheVariants.{Start}
use Rattle.b2_host.specs.Disks.{Disk}
use Rattle.b2_plan.specs.declared.step.Step.{Step}
use Rattle.b2_plan.specs.Plans.{Makes, Apart}
use Rattle.b2_host.specs.FileCalls.{log_path}
use Rattle.b2_plan.specs.Sources.{Build, IsSource, IsInRoots}
use Rattle.b2_plan.specs.Closures.{Value, with_bytes}
use Rattle.b2_plan.specs.Cleans.{Clean, value_of}
use Rattle.b2_runs.specs.Staleness.{Update}
use Rattle.b2_runs.specs.Soundness.{IsSound}
use Rattle.b2_runs.proofs.MakerIsOne.{source_not_made}
use Rattle.b2_runs.proofs.MoreRoundsSayNoLess.{val_up}

-- the log lies under an output root
pub log_in_roots : (b : Build) → Apart b.steps b.roots → IsInRoots b.roots log_path
log_in_roots b apart = (codes "bin", apart.bin, record { next = codes "b2.log"; more = []; rooted = refl; goes_on = refl; not_above = λ e. refl })

-- so it is no source
pub source_not_log : (b : Build) → Apart b.steps b.roots → (path bytes : List ℕ) → IsSource b path bytes → path ≡ log_path → ⊥
source_not_log b apart path bytes s e = s.outside (subst (IsInRoots b.roots) (sym e) (log_in_roots b apart))

-- and no output
pub out_not_log : (b : Build) → Apart b.steps b.roots → (i : ℕ) (step : Step) (path : List ℕ) → Makes b.steps i step path → path ≡ log_path → ⊥
out_not_log b apart i step path makes e = apart.not_log i step (subst (Makes b.steps i step) e makes)

-- a source has its bytes in the clean build
pub source_clean : (b : Build) → Apart b.steps b.roots → (path bytes : List ℕ) → IsSource b path bytes → Clean b path (Some bytes)
source_clean b apart path bytes s = val_up b apart zero (length b.steps) (omega arith) path (Some bytes) (bytes, s, refl)

-- a source stands as at entry
pub source_kept : (u : Update) (events : List ChildEvent) (disk : Disk) → Apart u.build.steps u.build.roots → IsSound u events disk → (path bytes : List ℕ) → IsSource u.build path bytes → disk.now path ≡ u.build.folder path
source_kept u events disk apart sound path bytes s = sound.only_outputs path (source_not_log u.build apart path bytes s) (λ i step started makes. source_not_made u.build apart path bytes s i step makes)

-- an output of a step that was not started stands as at entry
pub unstarted_kept : (u : Update) (events : List ChildEvent) (disk : Disk) → Apart u.build.steps u.build.roots → IsSound u events disk → (i : ℕ) (step : Step) (path : List ℕ) → Makes u.build.steps i step path → (Contains events (Start i) → ⊥)
    → disk.now path ≡ u.build.folder path
unstarted_kept u events disk apart sound i step path makes not_started =
    sound.only_outputs path (out_not_log u.build apart i step path makes)
    (λ k other started makes_k. not_started (subst (λ j. Contains events (Start j)) (apart.one_maker k i other step path makes_k makes) started))

pub value_file : (b : Build) (step : Step) (members : List (List ℕ × Value)) (path : List ℕ) → step.notfile ≡ false → value_of b step members path ≡ Some (b.made step.text (with_bytes members) path)
value_file b step members path e = let made = b.made step.text (with_bytes members) path in ap (λ t. if t then None else Some made) e
