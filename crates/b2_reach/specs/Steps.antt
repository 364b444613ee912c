-- What the single steps of the work on a step do.
use Rattle.std.specs.Prelude.{◌≡◌, ◌≢◌, ◌↔◌, ◌⊎◌, ℕ, ◌+◌, Bool, true, List, [], ◌∷◌, ◌++◌, length, Some, Result, IfOk, OnOk}
use Rattle.std.specs.List.{Contains, AllPairs}
use Rattle.b2_host.specs.Outside.{Outside}
use Rattle.b2_paths.specs.MarkSets.{IsMarked}
use Rattle.b2_plan.specs.declared.step.Step.{Step}
use Rattle.b2_plan.specs.declared.plan.Plan.{Plan}
use Rattle.b2_sched.specs.Schedules.{Schedule}
use Rattle.b2_facts.specs.declared.file_facts.FileFacts.{FileFacts}
use Rattle.b2_facts.specs.declared.file_facts.FileLook.TheVariants as seen
use Rattle.b2_facts.specs.Facts.{Knowledge, file_at, found_at}
use Rattle.b2_reach.specs.declared.reach.Reach.{Reach}
use Rattle.b2_reach.specs.declared.due.Due.{Due}
use Rattle.b2_reach.specs.declared.due.Due.TheVariants as dues
use Rattle.b2_facts.specs.declared.stop.FilesStop.{FilesStop}
use Rattle.b2_reach.specs.declared.sights.Sights.{Sights}
use Rattle.b2_reach.specs.Reaches.{IsDone, IsInOrder, Gathers}
use Rattle.b2_reach.specs.Dues.{IsAfter}
use Rattle.b2_reach.specs.Sightings.{LearnsMore}

-- the schedule is one of this plan
abbrev pub IsOfPlan : Plan → Schedule → Type 0
IsOfPlan plan s = length s.states ≡ length plan.steps + 1

-- these numbers are marked, and no others
abbrev pub AreMarked : List Bool → List ℕ → Type 0
AreMarked flags numbers = (n : ℕ) → IsMarked flags n ↔ Contains numbers n

-- a number came in at the end, unless it was there
pub data AddsOne (number : ℕ) (before after : List ℕ) : Type 0 where
  there : Contains before number → after ≡ before → AddsOne number before after
  new : (Contains before number → ⊥) → after ≡ before ++ number ∷ [] → AddsOne number before after

-- numbers came in at the end, each of which has the property, and none twice
pub record Adds (P : ℕ → Type 0) (before after : List ℕ) : Type 0 where
  pub added : List ℕ
  pub after_is : after ≡ before ++ added
  pub each : (n : ℕ) → Contains added n → P n
  pub once : AllPairs (λ n m. n ≢ m) before → AllPairs (λ n m. n ≢ m) after

-- nothing of the work changed but the members
abbrev pub ChangesMembers : Reach → Reach → Type 0
ChangesMembers r q = q ≡ record r { members = q.members }

-- a member was taken in: more members came in that were found from it
pub record TakesIn (plan : Plan) (settled : ℕ → Type 0) (g : Knowledge) (r q : Reach) : Type 0 where
  pub in_order : IsInOrder plan.steps settled g q
  pub gathers : Gathers plan.steps settled g r q

-- a pending member waits on: its maker is not settled
abbrev pub WaitsOn : (ℕ → Type 0) → Knowledge → ℕ → Type 0
WaitsOn settled f n = (number : ℕ) (file : FileFacts) → file_at f n ≡ Some file → file.maker ≡ Some number → settled number → ⊥

-- each that is pending now was so before, or waits on
abbrev pub WaitMore : (ℕ → Type 0) → Knowledge → List ℕ → List ℕ → Type 0
WaitMore settled f before after = (n : ℕ) → Contains after n → Contains before n ⊎ WaitsOn settled f n

-- the files that a file includes were found, and all are members; or the file is gone
abbrev pub IsFoundWithin : Knowledge → ℕ → List ℕ → ℕ → FileFacts → Type 0
IsFoundWithin f list members n file =
    ((targets : List ℕ) × (found_at f list n ≡ Some targets) × ((m : ℕ) → Contains targets m → Contains members m))
    ⊎ (file.seen ≡ seen.Gone)

-- nothing more is to be read of a pending member, or it waits on
abbrev pub IsDoneOrWaits : List Step → (ℕ → Type 0) → Knowledge → Reach → ℕ → Type 0
IsDoneOrWaits steps settled f r n =
    ((file : FileFacts) → file_at f n ≡ Some file → IsDone steps settled f r.list r.members n file) ⊎ WaitsOn settled f n

-- the work once the member at the next place is done, by what was due with it
abbrev pub with_due : Reach → ℕ → Due → Reach
with_due r number dues.Nothing = record r { done = r.done + 1 }
with_due r number dues.Lack = record r { done = r.done + 1; lacks = true }
with_due r number dues.Wait = record r { done = r.done + 1; pending = r.pending ++ number ∷ [] }
with_due r number dues.Read = record r { done = r.done + 1 }

-- A member was taken: what was due with it is done, unless the work stopped.
pub record Takes (notes : Bool) (plan : Plan) (settled : ℕ → Type 0) (number : ℕ) (r : Reach) (s : Sights) (before : Outside)
    (q : Reach) (t : Sights) (after : Outside) (result : Result Due FilesStop) : Type 0 where
  pub same : ChangesMembers r q
  pub takes : TakesIn plan settled t.facts r q
  pub after_due : IfOk result (λ due. (file : FileFacts) → file_at t.facts number ≡ Some file
      → IsAfter plan.steps settled t.facts q.list q.members number file due)
  pub marked : OnOk result (AreMarked t.marks q.members)
  pub grows : LearnsMore notes plan.steps plan.roots settled q.members s before t after result

-- The work went on, or stopped: members came in, of those that are pending now each was so before or waits on, and what is known
-- has grown.
pub record Goes {T : Type 0} (notes : Bool) (plan : Plan) (settled : ℕ → Type 0) (r : Reach) (s : Sights) (before : Outside)
    (q : Reach) (t : Sights) (after : Outside) (result : Result T FilesStop) : Type 0 where
  pub takes : TakesIn plan settled t.facts r q
  pub waiting : WaitMore settled t.facts r.pending q.pending
  pub grows : LearnsMore notes plan.steps plan.roots settled q.members s before t after result
