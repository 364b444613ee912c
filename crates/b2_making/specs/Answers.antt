-- What making steps promises.
use Rattle.std.specs.Prelude.{◌≡◌, ◌≢◌, ℕ, Bool, false, List, [], ◌++◌, Option, Result, Ok, Err, IfErr}
use Rattle.std.specs.List.{AllByRecursion}
use Rattle.b2_plan.specs.declared.step.Step.{Step}
use Rattle.b2_plan.specs.Sources.{IsInRoots}
use Rattle.b2_evaluator.specs.Answers.{Answers, IsTellable}
use Rattle.b2_base.specs.Counts.{IsCounted}
use Rattle.b2_making.specs.declared.fault.MakingFault.{MakingFault}
use Rattle.b2_making.specs.declared.fault.MakingFault.TheVariants.{NoChain, TwoChains, PathClash, LocationOutside, TooManySteps, Eval, OutOfMemory}
use Rattle.b2_making.specs.Faults.{no_chain, two_chains, path_clash, location_outside, too_many_steps, eval}
use Rattle.b2_making.specs.Acts.{Act}

-- ---- the fault

-- an act is refused with this fault, unless it is a fault of the host or out of memory
abbrev pub IsRefused : {E A : Type 0} → (E → Bool) → (E → Bool) → Act E A → List Step → MakingFault E → Type 0
IsRefused is_host is_memory act before (NoChain from to) = act before (Err (no_chain from to))
IsRefused is_host is_memory act before (TwoChains from to first second) = act before (Err (two_chains from to first second))
IsRefused is_host is_memory act before (PathClash path) = act before (Err (path_clash path))
IsRefused is_host is_memory act before (LocationOutside path) = act before (Err (location_outside path))
IsRefused is_host is_memory act before (TooManySteps count) = act before (Err (too_many_steps count))
IsRefused is_host is_memory act before (Eval fault) = IsTellable is_host is_memory fault → act before (Err (eval fault))
IsRefused is_host is_memory act before OutOfMemory = Unit {0}

-- what is known of each fault of an evaluation is known of the one of an answer
abbrev pub IsKnownFault : {E : Type 0} → (E → Type 0) → MakingFault E → Type 0
IsKnownFault Known (NoChain from to) = Unit {0}
IsKnownFault Known (TwoChains from to first second) = Unit {0}
IsKnownFault Known (PathClash path) = Unit {0}
IsKnownFault Known (LocationOutside path) = Unit {0}
IsKnownFault Known (TooManySteps count) = Unit {0}
IsKnownFault Known (Eval fault) = Known fault
IsKnownFault Known OutOfMemory = Unit {0}

-- whether an answer has a fault of an evaluation, of this kind
abbrev pub is_of_eval : {E : Type 0} → (E → Bool) → MakingFault E → Bool
is_of_eval test (NoChain from to) = false
is_of_eval test (TwoChains from to first second) = false
is_of_eval test (PathClash path) = false
is_of_eval test (LocationOutside path) = false
is_of_eval test (TooManySteps count) = false
is_of_eval test (Eval fault) = test fault
is_of_eval test OutOfMemory = false

-- an act is done, with these steps after it, or refused
abbrev pub IsDone : {E A : Type 0} → (E → Bool) → (E → Bool) → Act E A → List Step → List Step → Result A (MakingFault E) → Type 0
IsDone is_host is_memory act before after (Ok value) = act before (Ok (value, after))
IsDone is_host is_memory act before after (Err fault) = IsRefused is_host is_memory act before fault

-- ---- the steps

-- a step with these outputs has one, and each of them lies under an output root
pub record AreHoused (roots outs : List (List ℕ)) : Type 0 where
  pub some_out : outs ≢ []
  pub under_root : AllByRecursion (IsInRoots roots) outs

-- the steps before stay as they are, and the outputs of each that comes after them are housed
pub record Grows (roots : List (List ℕ)) (before after : List Step) : Type 0 where
  pub more : List Step
  pub joined : after ≡ before ++ more
  pub housed : AllByRecursion (λ step. AreHoused roots step.outs) more

-- ---- the evaluator

-- It is left as it was: what it answers and keeps is the same, a fault of the host is counted where it is answered, and of a
-- fault that is answered it is known what it promises.
pub record Leaves {S E K A : Type 0} (answers : S → Option (Answers E)) (kept : S → K) (faults : S → ℕ) (is_host is_memory : E → Bool) (CanFault : K → E → Type 0) (old new : S) (result : Result A (MakingFault E)) : Type 0 where
  pub same_answers : answers new ≡ answers old
  pub same_kept : kept new ≡ kept old
  pub counted : IsCounted (is_of_eval is_host) (is_of_eval is_memory) (faults old) (faults new) result
  pub known : IfErr result (IsKnownFault (CanFault (kept old)))
