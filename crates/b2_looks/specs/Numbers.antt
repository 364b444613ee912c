-- The files of a step by their numbers, in byte order of path.
use Rattle.std.specs.Prelude.{◌≡◌, ◌↔◌, ℕ, Bool, true, false, not, List, Option, Some, None}
use Rattle.std.specs.Ordering.{is_lt, nat_cmp}
use Rattle.std.specs.List.{Contains, AllZip, filter}
use Rattle.std.specs.Cmp.Lexicographic.{slice_cmp}
use Rattle.b2_plan.specs.declared.step.Step.{Step}
use Rattle.b2_plan.specs.Plans.{step_at}
use Rattle.b2_sched.specs.NumberSets.{Has}
use Rattle.b2_facts.specs.declared.file_facts.FileFacts.{FileFacts}
use Rattle.b2_facts.specs.Facts.{Knowledge, path_at, file_at}
use Rattle.b2_verdicts.specs.Made.{AreRising}
use Rattle.b2_verdicts.specs.declared.step_numbers.StepNumbers.{StepNumbers}
use Rattle.b2_looks.specs.declared.step_files.NumberedPath.{NumberedPath}

-- ---- byte order of path

abbrev pub number_in : NumberedPath → ℕ
number_in one = one.number

-- the file with the number has the path
abbrev pub HasPath : Knowledge → NumberedPath → Type 0
HasPath f one = path_at f one.number ≡ Some one.path.now

-- the one path stands before the other in byte order
abbrev pub is_before : NumberedPath → NumberedPath → Bool
is_before one other = is_lt (slice_cmp nat_cmp one.path.now other.path.now)

-- ---- what is told of members

-- whether a step owes a file at each of its outputs
abbrev pub owes : Option Step → Bool
owes None = true
owes (Some step) = not step.notfile

-- whether a file has bytes once it is settled: it is none of a notfile step
abbrev pub has_bytes_by : List Step → Option ℕ → Bool
has_bytes_by steps None = true
has_bytes_by steps (Some maker) = owes (step_at steps maker)

abbrev pub has_bytes_of : List Step → Option FileFacts → Bool
has_bytes_of steps None = true
has_bytes_of steps (Some file) = has_bytes_by steps file.maker

abbrev pub has_bytes : List Step → Knowledge → ℕ → Bool
has_bytes steps f n = has_bytes_of steps (file_at f n)

-- the file is an output of a step that is done
pub record IsOfDone (f : Knowledge) (ran : List Bool) (n : ℕ) : Type 0 where
  pub file : FileFacts
  pub file_is : file_at f n ≡ Some file
  pub maker : ℕ
  pub made : file.maker ≡ Some maker
  pub done : Has ran maker

-- one of these, with the property, is told; or there is none
abbrev pub IsOneOf : (ℕ → Type 0) → List ℕ → Option ℕ → Type 0
IsOneOf P members None = (n : ℕ) → Contains members n → P n → ⊥
IsOneOf P members (Some n) = Contains members n × P n

-- the file has no bytes, being one of a notfile step
abbrev pub HasNoBytes : List Step → Knowledge → ℕ → Type 0
HasNoBytes steps f n = has_bytes steps f n ≡ false

-- ---- the numbers

-- The numbers of a step's files: of its outputs, in their order; and of the members that have bytes, in byte order of
-- path.
pub record AreFilesOf (steps : List Step) (f : Knowledge) (step : Step) (members : List ℕ) (numbers : StepNumbers)
    : Type 0 where
  pub outs : AllZip (λ n path. path_at f n ≡ Some path) numbers.outs step.outs
  pub order : List ℕ
  pub same : (n : ℕ) → Contains order n ↔ Contains members n
  pub rising : AreRising f order
  pub ins : numbers.ins ≡ filter (has_bytes steps f) order

-- They tell besides a member that is an output of a notfile step, and one of a step that is done, where there is one.
pub record AreNumbersBy (steps : List Step) (ran : List Bool) (f : Knowledge) (step : Step) (members : List ℕ)
    (numbers : StepNumbers) : Type 0 where
  pub files : AreFilesOf steps f step members numbers
  pub notfile : IsOneOf (HasNoBytes steps f) members numbers.notfile
  pub done : IsOneOf (IsOfDone f ran) members numbers.done
