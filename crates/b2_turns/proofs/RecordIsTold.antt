-- What it tells that the record of a step is appended, of an update in which the step has ended.
use Rattle.std.proofs.Common.{◌≡◌, ℕ, true, false, List, [], ◌∷◌, ◌++◌, Option, Some, None, Result, Ok, Err, sym, subst, ◌∙◌}
use Rattle.std.specs.Prelude.{⊤}
use Rattle.std.specs.Option.{IfSome}
use Rattle.std.specs.List.{AllByRecursion}
use Rattle.b2_host.specs.declared.children.ChildEvent.{ChildEvent}
use Rattle.b2_host.specs.declared.children.ChildEvent.TheVariants.{Done}
use Rattle.b2_host.specs.declared.fault.IoFault.{IoFault}
use Rattle.b2_host.specs.Disks.{Disk, IsConsistent}
use Rattle.b2_host.specs.ChildProcesses.{BothTold}
use Rattle.b2_host.specs.Outside.{Outside, Read}
use Rattle.b2_host.specs.FileCalls.{log_path}
use Rattle.b2_host.specs.LogChanges.{ChangesOnlyAt}
use Rattle.b2_host.specs.ReadsAdded.{AddsReads}
use Rattle.b2_plan.specs.declared.step.Step.{Step}
use Rattle.b2_plan.specs.Closures.{Value}
use Rattle.b2_log.specs.declared.line.Record.{Record}
use Rattle.b2_log.specs.declared.line.LogLine.{LogLine}
use Rattle.b2_log.specs.declared.line.LogLine.TheVariants as lines
use Rattle.b2_log.specs.Good.{IsGood}
use Rattle.b2_runs.specs.Staleness.{Update}
use Rattle.b2_runs.specs.Soundness.{Distinguishes}
use Rattle.b2_journal.specs.Notes.{Notes}
use Rattle.b2_facts.specs.declared.stop.FilesStop.{FilesStop}
use Rattle.b2_facts.specs.declared.stop.FilesStop.TheVariants as stops
use Rattle.b2_facts.specs.Stops.{stop_of_io}
use Rattle.b2_facts.specs.Truth.{StaysTrue}
use Rattle.b2_reach.specs.declared.sights.Sights.{Sights}
use Rattle.b2_reach.proofs.GrowthComposes.{both_same}
use Rattle.b2_verdicts.specs.declared.step_numbers.StepNumbers.{StepNumbers}
use Rattle.b2_verdicts.specs.Made.{IsMadeOf, IsWithoutFile}
use Rattle.b2_verdicts.specs.VerdictCalls.{IsOfStep, IsTooBigOf, IfTooBig, Always, Asks}
use Rattle.b2_looks.specs.Judging.{OthersStayNoted, GoesOnWith}
use Rattle.b2_looks.proofs.MigrationEnds.{both_noted}
use Rattle.b2_turns.specs.Ends.{HasEnded}
use Rattle.b2_turns.specs.Recording.{IsToRecord, RecordTold}
use Rattle.b2_turns.proofs.EndedReads.{needed_later, to_record_grows, ended_asked}
use Rattle.b2_turns.proofs.RecordIsAppended.{none_missing, big_of_ended, ended_halted, recorded, recorded_others, not_recorded}

-- what it tells of disks
abbrev pub Records : {T : Type 0} → (T → Type 0) → Step → StepNumbers → Outside → Sights → Outside → Sights → Result T FilesStop → Disk → Disk → Type 0
Records P step numbers old s new t result = λ before after. (u : Update) (events : List ChildEvent) (i : ℕ) (first : List LogLine) (reads : List Read) (members : List (List ℕ × Value)) → Distinguishes u after.past
    → IsToRecord u (events ++ Done i true ∷ []) i step numbers members s.facts → HasEnded u events i true first reads before s
    → GoesOnWith u (events ++ Done i true ∷ []) first reads (λ x. P x × OthersStayNoted u (events ++ Done i true ∷ []) step before.now s.journal after.now t.journal) old new after t result

if_too_big : (P Q : Type 0) (stop : FilesStop) → (P → Q) → IfTooBig P stop → IfTooBig Q stop
if_too_big P Q stops.Host f p = tt
if_too_big P Q stops.OutOfMemory f p = tt
if_too_big P Q (stops.TooBig n size) f p = f p

-- The step's files were asked for.
module _ {T : Type 0} (step : Step) (numbers : StepNumbers) (x y : Outside) (s t : Sights) (r : Result T FilesStop) (asks : Asks (IsOfStep numbers) Always s.facts t.facts x y r) (unread : s.by_digest ≡ false → y.reads ≡ x.reads) (same : t.journal ≡ s.journal) (digests : t.by_digest ≡ s.by_digest) where
  pub record_under : (disk : Disk) → x.disk ≡ Some disk → (u : Update) (events : List ChildEvent) (i : ℕ) (first : List LogLine) (reads : List Read) (members : List (List ℕ × Value)) → IsToRecord u (events ++ Done i true ∷ []) i step numbers members s.facts → HasEnded u events i true first reads disk s
      → (more : List Read) × AddsReads more x.reads y.reads × HasEnded u events i true first (reads ++ more) disk t
  record_under disk here u events i first reads members to w =
      let stays = subst (λ o. IfSome o (λ d. Always d.now → (steps : List Step) (roots : List (List ℕ)) → StaysTrue steps roots d.now s.facts t.facts)) here asks.learns.stays in
      ended_asked u events i first step numbers members s t x y reads disk here same digests asks.effect (λ off. unread (sym w.by_digest ∙ off)) (asks.learns.learns u.build.steps u.build.roots) asks.learns.includes (stays tt u.build.steps u.build.roots) to w

  pub record_to : (disk : Disk) (u : Update) (events : List ChildEvent) (i : ℕ) (first : List LogLine) (reads : List Read) (members : List (List ℕ × Value)) → HasEnded u events i true first reads disk s → IsToRecord u (events ++ Done i true ∷ []) i step numbers members s.facts → IsToRecord u (events ++ Done i true ∷ []) i step numbers members t.facts
  record_to disk u events i first reads members w to = to_record_grows u events i first step numbers members s.facts t.facts (needed_later u events i first step numbers members reads disk s w) (asks.learns.learns u.build.steps u.build.roots) to

-- work on the record stopped
pub record_stopped : {S : Type 0} (P : S → Type 0) (step : Step) (numbers : StepNumbers) (x y : Outside) (s t : Sights) (stop : FilesStop) → Asks {T = Option Record} (IsOfStep numbers) Always s.facts t.facts x y (Err stop) → (s.by_digest ≡ false → y.reads ≡ x.reads) → IfTooBig (s.by_digest ≡ true) stop
    → t.journal ≡ s.journal → t.by_digest ≡ s.by_digest → RecordTold {T = S} P step numbers x s y t (Err stop)
record_stopped {S} P step numbers x y s t stop asks unread only same digests = both_same (Records {T = S} P step numbers x s y t (Err stop)) x.disk y.disk asks.effect.files (λ disk here u events i first reads members distinct to w.
    let (more, adds, later) = record_under {T = Option Record} step numbers x y s t (Err stop) asks unread same digests disk here u events i first reads members to w in
    let now_to = record_to {T = Option Record} step numbers x y s t (Err stop) asks unread same digests disk u events i first reads members w to in
    let told = subst (λ o. IfSome o (λ d. IsTooBigOf (IsOfStep numbers) t.facts d.now stop)) here asks.too_big in
    let big = big_of_ended u events i first step numbers members (reads ++ more) disk t stop now_to later told (if_too_big (s.by_digest ≡ true) (u.by_digest ≡ true) stop (λ on. w.by_digest ∙ on) only) in
    record { more = more; adds = adds; after = ended_halted u events i first step numbers members (reads ++ more) disk t stop later big })

-- no record is made where a file of the step is gone, which does not come of one that ended well
pub record_gone : {S : Type 0} (P : S → Type 0) (step : Step) (numbers : StepNumbers) (x y : Outside) (s t : Sights) (v : S) → Asks {T = Option Record} (IsOfStep numbers) Always s.facts t.facts x y (Ok None) → (s.by_digest ≡ false → y.reads ≡ x.reads) → IsWithoutFile x.disk numbers t.facts → t.journal ≡ s.journal → t.by_digest ≡ s.by_digest
    → RecordTold {T = S} P step numbers x s y t (Ok v)
record_gone {S} P step numbers x y s t v asks unread gone same digests = both_same (Records {T = S} P step numbers x s y t (Ok v)) x.disk y.disk asks.effect.files (λ disk here u events i first reads members distinct to w.
    let (more, adds, later) = record_under {T = Option Record} step numbers x y s t (Ok None) asks unread same digests disk here u events i first reads members to w in
    let now_to = record_to {T = Option Record} step numbers x y s t (Ok None) asks unread same digests disk u events i first reads members w to in
    absurd (none_missing u events i first step numbers members (reads ++ more) disk t now_to later (subst (λ o. IsWithoutFile o numbers t.facts) here gone)))

-- ---- the record is noted

module _ (step : Step) (numbers : StepNumbers) (x y z : Outside) (s t v : Sights) (made : Record) (asks : Asks {T = Option Record} (IsOfStep numbers) Always s.facts t.facts x y (Ok (Some made))) (unread : s.by_digest ≡ false → y.reads ≡ x.reads) (is : IsMadeOf t.by_digest step numbers t.facts made)
    (same : t.journal ≡ s.journal) (digests : t.by_digest ≡ s.by_digest) (quiet : z.reads ≡ y.reads) (only : BothTold (ChangesOnlyAt log_path) y.disk z.disk) (consistent : IfSome z.disk IsConsistent) where
  pub record_noted : (o : Unit {0}) → v.facts ≡ t.facts → v.by_digest ≡ t.by_digest → v.journal ≡ t.journal ++ lines.Record made ∷ [] → AllByRecursion IsGood v.journal → BothTold (λ before after. Notes {T = Unit {0}} (lines.Record made) t.journal before after (Ok o)) y.disk z.disk → RecordTold {T = Unit {0}} (λ q. ⊤) step numbers x s z v (Ok o)
  record_noted o facts_same way longer good notes = both_noted (λ before after. Notes {T = Unit {0}} (lines.Record made) t.journal before after (Ok o)) (Records {T = Unit {0}} (λ q. ⊤) step numbers x s z v (Ok o)) x.disk y.disk z.disk asks.effect.files only notes consistent (λ disk after here moved noted kept u events i first reads members distinct to w.
      let (more, adds, later) = record_under {T = Option Record} step numbers x y s t (Ok (Some made)) asks unread same digests disk here u events i first reads members to w in
      let now_to = record_to {T = Option Record} step numbers x y s t (Ok (Some made)) asks unread same digests disk u events i first reads members w to in
      record {
        more = more;
        adds = subst (AddsReads more x.reads) (sym quiet) adds;
        after = ((tt, recorded_others u events i first step numbers members (reads ++ more) disk after s.journal t v made now_to is moved kept same longer later), recorded u events i first step numbers members (reads ++ more) disk after t v made now_to is moved kept distinct facts_same way longer good noted later);
      })

  pub record_not_noted : (fault : IoFault) → BothTold (λ before after. Notes {T = Unit {0}} (lines.Record made) t.journal before after (Err fault)) y.disk z.disk → RecordTold {T = Unit {0}} (λ q. ⊤) step numbers x s z v (Err (stop_of_io fault))
  record_not_noted fault notes = both_noted (λ before after. Notes {T = Unit {0}} (lines.Record made) t.journal before after (Err fault)) (Records {T = Unit {0}} (λ q. ⊤) step numbers x s z v (Err (stop_of_io fault))) x.disk y.disk z.disk asks.effect.files only notes consistent (λ disk after here moved noted kept u events i first reads members distinct to w.
      let (more, adds, later) = record_under {T = Option Record} step numbers x y s t (Ok (Some made)) asks unread same digests disk here u events i first reads members to w in
      let now_to = record_to {T = Option Record} step numbers x y s t (Ok (Some made)) asks unread same digests disk u events i first reads members w to in
      record {
        more = more;
        adds = subst (AddsReads more x.reads) (sym quiet) adds;
        after = not_recorded u events i first step numbers members (reads ++ more) disk after t v made fault now_to is moved kept distinct noted later;
      })
