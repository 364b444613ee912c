-- How facts grow: nothing that is known is forgotten or changed.
use Rattle.std.specs.Prelude.{◌≡◌, ◌⊎◌, ℕ, false, List, Option, Some, None, ⊤}
use Rattle.b2_plan.specs.declared.step.Step.{Step}
use Rattle.b2_facts.specs.declared.file_facts.FileLook.{FileLook}
use Rattle.b2_facts.specs.declared.file_facts.FileLook.TheVariants as seen
use Rattle.b2_facts.specs.declared.file_facts.FileFacts.{FileFacts}
use Rattle.b2_facts.specs.Facts.{Knowledge, path_at, file_at, dirs_at, found_at, IsRead, WasRead, IsBlank, IsAbout}

-- what was seen stays
abbrev pub StaysSeen : FileLook → FileLook → Type 0
StaysSeen seen.Unasked later = ⊤
StaysSeen seen.Gone later = later ≡ seen.Gone
StaysSeen (seen.Stands stamp) later = later ≡ seen.Stands stamp

-- what is known stays
abbrev pub Stays : {X : Type 0} → Option X → Option X → Type 0
Stays None later = ⊤
Stays (Some x) later = later ≡ Some x

-- more is known of a file, or as much
pub record FileGrows (file later : FileFacts) : Type 0 where
  pub maker : later.maker ≡ file.maker
  pub rooted : later.rooted ≡ file.rooted
  pub scanned : later.scanned ≡ file.scanned
  pub seen : StaysSeen file.seen later.seen
  pub includes : Stays file.includes later.includes
  pub digest : Stays file.digest later.digest

-- Facts have grown: numbers, lists and what was found stay, and of each file as much is known, or more.
pub record Grows (f g : Knowledge) : Type 0 where
  pub paths : (n : ℕ) (path : List ℕ) → path_at f n ≡ Some path → path_at g n ≡ Some path
  pub files : (n : ℕ) (file : FileFacts) → file_at f n ≡ Some file
      → (later : FileFacts) × (file_at g n ≡ Some later) × FileGrows file later
  pub dirs : (list : ℕ) (dirs : List (List ℕ)) → dirs_at f list ≡ Some dirs → dirs_at g list ≡ Some dirs
  pub found : (list n : ℕ) (targets : List ℕ) → found_at f list n ≡ Some targets → found_at g list n ≡ Some targets

-- The file lies outside the output roots, and no step makes it.
abbrev pub IsOutside : FileFacts → Type 0
IsOutside file = (file.maker ≡ None) × (file.rooted ≡ false)

-- The file lies outside the output roots, and no step makes it. What it includes was known before.
pub record IsLookedAt (f : Knowledge) (n : ℕ) (file : FileFacts) : Type 0 where
  pub outside : IsOutside file
  pub read : IsRead file → WasRead f n

-- What is new was learned of the files with these numbers. Of each other file nothing new is known, but that outside the output
-- roots more may have been seen. What a file includes is learned of those with these numbers alone.
abbrev pub LearnsOf : (ℕ → Type 0) → Knowledge → Knowledge → Type 0
LearnsOf P f g = (n : ℕ) (file : FileFacts) → file_at g n ≡ Some file
    → IsLookedAt f n file ⊎ (P n ⊎ ((file_at f n ≡ Some file) ⊎ IsBlank file))

-- of no file inside an output root
abbrev pub OfNone : ℕ → Type 0
OfNone n = ⊥

-- of the file with this number
abbrev pub OfOne : ℕ → ℕ → Type 0
OfOne number n = n ≡ number

-- More is known, or as much: the facts are still about the plan's files, and nothing was forgotten. Of files that a step makes,
-- or that lie under an output root, nothing new is known but of these.
pub record Learns (steps : List Step) (roots : List (List ℕ)) (P : ℕ → Type 0) (f g : Knowledge) : Type 0 where
  pub about : IsAbout steps roots f → IsAbout steps roots g
  pub grows : Grows f g
  pub only : LearnsOf P f g

-- what files include is not learned
abbrev pub IncludesStay : Knowledge → Knowledge → Type 0
IncludesStay f g = (n : ℕ) (file later : FileFacts) → file_at f n ≡ Some file → file_at g n ≡ Some later → later.includes ≡ file.includes
