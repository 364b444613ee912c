-- Which outputs cannot stand beside one another.
use Rattle.std.specs.Prelude.{◌≡◌, ◌≢◌, ℕ, List, [], ◌∷◌, ◌++◌, ◌⊎◌, Some, codes}
use Rattle.std.specs.List.{Contains, AllByRecursion}
use Rattle.b2_base.specs.Normal.{IsUnder}
use Rattle.b2_plan.specs.declared.step.Step.{Step}
use Rattle.b2_plan.specs.Plans.{step_at, Makes, Apart}
use Rattle.b2_host.specs.FileCalls.{log_path}
use Rattle.b2_plan.specs.Sources.{IsInRoots}

-- one of the paths is a folder of the other
abbrev pub AreNested : List ℕ → List ℕ → Type 0
AreNested path other = IsUnder path other ⊎ IsUnder other path

-- The output of a step that is none of these steps cannot stand: one of them has it, it and an output of one of them or
-- of the step itself are nested, or it is the log or lies below it.
pub data Clashes (steps : List Step) (step : Step) (path : List ℕ) : Type 0 where
  shared : (number : ℕ) (other : Step) → Makes steps number other path → Clashes steps step path
  beside : (number : ℕ) (other : Step) (out : List ℕ) → Makes steps number other out → AreNested path out → Clashes steps step path
  within : (out : List ℕ) → Contains step.outs out → AreNested path out → Clashes steps step path
  log : path ≡ log_path → Clashes steps step path
  below_log : IsUnder path log_path → Clashes steps step path

-- The first output of the step, in its order, that cannot stand.
pub record IsFirstClash (steps : List Step) (step : Step) (path : List ℕ) : Type 0 where
  pub before : List (List ℕ)
  pub after : List (List ℕ)
  pub outs_are : step.outs ≡ before ++ path ∷ after
  pub clashes : Clashes steps step path
  pub none_before : AllByRecursion (λ out. ¬ Clashes steps step out) before

-- each output of the step can stand
abbrev pub Fits : List Step → Step → Type 0
Fits steps step = AllByRecursion (λ out. ¬ Clashes steps step out) step.outs

-- Each step has an output, each output lies under an output root, and `bin` is a root.
pub record AreInRoots (steps : List Step) (roots : List (List ℕ)) : Type 0 where
  pub some_out : (i : ℕ) (step : Step) → step_at steps i ≡ Some step → step.outs ≢ []
  pub under_root : (i : ℕ) (step : Step) (path : List ℕ) → Makes steps i step path → IsInRoots roots path
  pub bin : Contains roots (codes "bin")

-- Such steps are those of a plan: their outputs are apart.
abbrev pub AreApart : List Step → Type 0
AreApart steps = (roots : List (List ℕ)) → AreInRoots steps roots → Apart steps roots
