-- A step's file that is missing is gone.
use Rattle.std.proofs.Common.{◌≡◌, ◌⊎◌, inl, inr, ℕ, List, Option, Some, None, IfNone, subst, ◌∙◌}
use Rattle.std.specs.List.{Contains}
use Rattle.std.proofs.lemmas.Option.{slice_get_within, get_or_from_slice_get}
use Rattle.b2_host.specs.Disks.{Disk}
use Rattle.b2_plan.specs.declared.step.Step.{Step}
use Rattle.b2_plan.specs.Closures.{Value}
use Rattle.b2_runs.specs.Staleness.{paths_with_bytes}
use Rattle.b2_facts.specs.Facts.{Knowledge, path_at}
use Rattle.b2_facts.proofs.ListsAtPlaces.{at_place, among_at}
use Rattle.b2_verdicts.specs.declared.step_numbers.StepNumbers.{StepNumbers}
use Rattle.b2_verdicts.specs.Sights.{IsAsked, AllAsked}
use Rattle.b2_verdicts.specs.VerdictCalls.{IsOfStep}
use Rattle.b2_verdicts.specs.Made.{IsSomeUnseen, IsSomeGone, IsWithoutFile, IsWithoutFile.unseen, IsWithoutFile.undigested}
use Rattle.b2_verdicts.specs.Cases.{AreNumbersOf}
use Rattle.b2_verdicts.specs.Laws.{MissingIsGone}
use Rattle.b2_verdicts.proofs.ListsAtPlaces.{zip_forth}
use Rattle.b2_verdicts.proofs.TrueFactsTell.{Names, stamp_tells, no_file}

-- ---- what is answered

pub none_map : {X : Type 0} (o : Option X) (P Q : Type 0) → (P → Q) → IfNone o P → IfNone o Q
none_map None P Q f p = f p
none_map (Some x) P Q f p = tt

asked_among : (g : Knowledge) (ns : List ℕ) (n : ℕ) → AllAsked g ns → Contains ns n → IsAsked g n
asked_among g ns n asked among =
    let (k, at) = at_place ns n among in
    subst (IsAsked g) (get_or_from_slice_get ns k n 0 at) (asked k (slice_get_within ns k n at))

pub without_unseen : (disk : Option Disk) (numbers : StepNumbers) (g : Knowledge) → AllAsked g numbers.outs → AllAsked g numbers.ins → IsSomeUnseen g numbers.outs ⊎ IsSomeUnseen g numbers.ins → IsWithoutFile disk numbers g
without_unseen disk numbers g outs ins (inl (n, among, none)) = unseen n (inl among) (asked_among g numbers.outs n outs among) none
without_unseen disk numbers g outs ins (inr (n, among, none)) = unseen n (inr among) (asked_among g numbers.ins n ins among) none

pub without_digest : (disk later : Option Disk) (numbers : StepNumbers) (g : Knowledge) → later ≡ disk → IsSomeGone later g numbers.outs ⊎ IsSomeGone later g numbers.ins → IsWithoutFile disk numbers g
without_digest disk later numbers g same (inl gone) = let (n, among, none) = subst (λ d. IsSomeGone d g numbers.outs) same gone in undigested n (inl among) none
without_digest disk later numbers g same (inr gone) = let (n, among, none) = subst (λ d. IsSomeGone d g numbers.ins) same gone in undigested n (inr among) none

-- ---- what it tells

name_of : (g : Knowledge) (ns : List ℕ) (paths : List (List ℕ)) (n : ℕ) → Names g ns paths → Contains ns n → (path : List ℕ) × Contains paths path × (path_at g n ≡ Some path)
name_of g ns paths n names among =
    let (k, at) = at_place ns n among in
    let (path, there, name) = zip_forth (λ m p. path_at g m ≡ Some p) ns paths k n names at in
    (path, among_at paths k path there, name)

name_of_step : (step : Step) (members : List (List ℕ × Value)) (g : Knowledge) (numbers : StepNumbers) (n : ℕ) → AreNumbersOf step members g numbers → IsOfStep numbers n → (path : List ℕ) × (Contains step.outs path ⊎ Contains (paths_with_bytes members) path) × (path_at g n ≡ Some path)
name_of_step step members g numbers n named (inl among) = let (path, there, name) = name_of g numbers.outs step.outs n named.outs among in (path, inl there, name)
name_of_step step members g numbers n named (inr among) = let (path, there, name) = name_of g numbers.ins (paths_with_bytes members) n named.ins among in (path, inr there, name)

pub missing_is_gone : MissingIsGone
missing_is_gone step members numbers disk b g named holds (unseen n of asked none) =
    let (path, there, name) = name_of_step step members g numbers n named of in
    (path, there, no_file disk.now path (stamp_tells b disk.now g n path holds name asked ∙ none))
missing_is_gone step members numbers disk b g named holds (undigested n of gone) =
    let (path, there, name) = name_of_step step members g numbers n named of in
    (path, there, gone path name)
