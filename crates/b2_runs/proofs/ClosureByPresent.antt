use Rattle.std.proofs.Common.{◌≡◌, ℕ, Bool, true, false, List, ◌⊎◌, inl, inr, refl, sym, ap, subst, ◌∙◌, Some, None, option_map, if◌then◌else◌}
use Rattle.b2_host.specs.declared.children.ChildEvent.{ChildEvent}
use Rattle.b2_host.specs.Disks.{File, Folder, Disk}
use Rattle.b2_plan.specs.declared.step.Step.{Step}
use Rattle.b2_plan.specs.Plans.{Makes, Apart}
use Rattle.b2_plan.specs.Sources.{Build, IsSource}
use Rattle.b2_plan.specs.Closures.{Value, with_bytes}
use Rattle.b2_plan.specs.Cleans.{Clean, value_of}
use Rattle.b2_runs.specs.Staleness.{Update}
use Rattle.b2_runs.specs.Runs.{Settled, Settled.source, Settled.done_well, Settled.fresh, on_settled, IsRunSoFar}
use Rattle.b2_runs.specs.Soundness.{Holds, IsSound}
use Rattle.b2_runs.specs.AfterLaws.{seen, seen_settled, SeenIsClean, ClosureByPresent, KnownByPresent}
use Rattle.b2_runs.proofs.MakerIsOne.{source_not_made, maker_is_one}
use Rattle.b2_runs.proofs.CleanIsOne.{clean_is_one, clean_is_made}
use Rattle.b2_runs.proofs.SourcesAreKept.{source_clean, source_kept}
use Rattle.b2_runs.proofs.OutputsAreClean.{settled_holds}
use Rattle.b2_runs.proofs.SettledStays.{closure_on_settled}
use Rattle.b2_runs.proofs.RunGoesOn.{started_has_closure, done_was_started, settled_has_value}
use Rattle.b2_runs.proofs.CleanBySources.{known_to, close_to}
use Rattle.b2_runs.proofs.SettledAfterwards.{same_sources}

-- A settled path that a step makes has the value that the step makes of its closure.
record IsMadeOf (u : Update) (path : List ℕ) : Type 0 where
  number : ℕ
  step : Step
  makes : Makes u.build.steps number step path
  members : List (List ℕ × Value)
  clean : Clean u.build path (value_of u.build step members path)

-- what is settled is a source or was made
origin : (u : Update) (events : List ChildEvent) (path : List ℕ) → Apart u.build.steps u.build.roots → IsRunSoFar u events → Settled u events path → ((bytes : List ℕ) × IsSource u.build path bytes) ⊎ IsMadeOf u path
origin u events path apart run (source p bytes s) = inl (bytes, s)
origin u events path apart run (done_well i step p makes done) =
    let (members, closure) = started_has_closure u events i step apart run (done_was_started u events i true run done) makes.at in
    inr (record { number = i; step = step; makes = makes; members = members; clean = clean_is_made u.build i step p members apart makes ((closure_on_settled u events step members apart).0 closure).0 })
origin u events path apart run (fresh i step p members makes not_started closure inside f) =
    inr (record { number = i; step = step; makes = makes; members = members; clean = clean_is_made u.build i step p members apart makes closure })

-- a source is seen as it was at entry
seen_source : (u : Update) (events : List ChildEvent) (disk : Disk) → Apart u.build.steps u.build.roots → IsSound u events disk → (path bytes : List ℕ) → IsSource u.build path bytes → seen u.build disk.now path (Some bytes)
seen_source u events disk apart sound path bytes s =
    (ap (option_map (λ (file : File). file.bytes)) (source_kept u events disk apart sound path bytes s) ∙ s.stands, λ i step makes. absurd (source_not_made u.build apart path bytes s i step makes))

-- what a step made is seen
seen_made : (u : Update) (disk : Disk) → Apart u.build.steps u.build.roots → (i : ℕ) (step : Step) (path made : List ℕ) → Makes u.build.steps i step path
    → (t : Bool) → step.notfile ≡ t → Holds disk.now path (if t then None else Some made) → seen u.build disk.now path (if t then None else Some made)
seen_made u disk apart i step path made makes true e holds = (i, step, makes, e)
seen_made u disk apart i step path made makes false e holds =
    (holds, λ k other makes_k. subst (λ s. s.notfile ≡ false) (maker_is_one u.build apart i k step other path makes makes_k) e)

-- a value of the clean build is seen of what is settled
to_seen : (u : Update) (events : List ChildEvent) (disk : Disk) (path : List ℕ) (value : Value) → Apart u.build.steps u.build.roots → IsRunSoFar u events → IsSound u events disk → Settled u events path → Clean u.build path value → seen u.build disk.now path value
to_seen u events disk path value apart run sound settled clean = go (origin u events path apart run settled)
  where
    go : ((bytes : List ℕ) × IsSource u.build path bytes) ⊎ IsMadeOf u path → seen u.build disk.now path value
    go (inl (bytes, s)) =
        let same : Some bytes ≡ value = clean_is_one u.build apart path (Some bytes) value (source_clean u.build apart path bytes s) clean in
        subst (seen u.build disk.now path) same (seen_source u events disk apart sound path bytes s)
    go (inr m) =
        let same : value_of u.build m.step m.members path ≡ value = clean_is_one u.build apart path (value_of u.build m.step m.members path) value m.clean clean in
        let holds = settled_holds u events disk apart sound path (value_of u.build m.step m.members path) settled m.clean in
        subst (seen u.build disk.now path) same (seen_made u disk apart m.number m.step path (u.build.made m.step.text (with_bytes m.members) path) m.makes m.step.notfile refl holds)

-- one value is seen at a path
seen_once : (b : Build) (now : Folder) → Apart b.steps b.roots → (path : List ℕ) (value other : Value) → seen b now path value → seen b now path other → value ≡ other
seen_once b now apart path None None s t = refl
seen_once b now apart path None (Some bytes) (i, step, makes, e) t = absurd (let f = t.1 i step makes in let g : true ≡ false = sym e ∙ f in cc)
seen_once b now apart path (Some bytes) None s (i, step, makes, e) = absurd (let f = s.1 i step makes in let g : true ≡ false = sym e ∙ f in cc)
seen_once b now apart path (Some bytes) (Some others) s t = sym s.0 ∙ t.0

-- what is seen of what is settled is the value of the clean build
from_seen : (u : Update) (events : List ChildEvent) (disk : Disk) (path : List ℕ) (value : Value) → Apart u.build.steps u.build.roots → IsRunSoFar u events → IsSound u events disk → Settled u events path → seen u.build disk.now path value → Clean u.build path value
from_seen u events disk path value apart run sound settled s =
    let (x, clean) = settled_has_value u events path apart run settled in
    subst (Clean u.build path) (seen_once u.build disk.now apart path x value (to_seen u events disk path x apart run sound settled clean) s) clean

pub seen_is_clean : SeenIsClean
seen_is_clean u events disk path value apart run sound = (
  λ on. (on.0, to_seen u events disk path value apart run sound on.0 on.1),
  λ s. (s.0, from_seen u events disk path value apart run sound s.0 s.1),
)

pub closure_by_present : ClosureByPresent
closure_by_present u events disk step members apart run sound =
    let same = same_sources u events disk apart sound in
    let there : (path : List ℕ) (value : Value) → on_settled u events path value → seen_settled u events disk.now path value = λ p x. (seen_is_clean u events disk p x apart run sound).0 in
    let here : (path : List ℕ) (value : Value) → seen_settled u events disk.now path value → on_settled u events path value = λ p x. (seen_is_clean u events disk p x apart run sound).1 in (
      λ closure. close_to (record u.build { folder = disk.now }) u.build.folder (λ path outside. sym (same path outside)) (seen_settled u events disk.now) (on_settled u events) here there step members closure,
      λ closure. close_to u.build disk.now same (on_settled u events) (seen_settled u events disk.now) there here step members closure,
    )

pub known_by_present : KnownByPresent
known_by_present u events disk step path apart run sound =
    let same = same_sources u events disk apart sound in
    let there : (path : List ℕ) (value : Value) → on_settled u events path value → seen_settled u events disk.now path value = λ p x. (seen_is_clean u events disk p x apart run sound).0 in
    let here : (path : List ℕ) (value : Value) → seen_settled u events disk.now path value → on_settled u events path value = λ p x. (seen_is_clean u events disk p x apart run sound).1 in (
      λ known. known_to (record u.build { folder = disk.now }) u.build.folder (λ path outside. sym (same path outside)) (seen_settled u events disk.now) (on_settled u events) here step path known,
      λ known. known_to u.build disk.now same (on_settled u events) (seen_settled u events disk.now) there step path known,
    )
