-- How it ends that a fresh step is given its record, by what is told of an update that is under way.
use Rattle.std.proofs.Common.{◌≡◌, ℕ, Bool, true, false, List, [], ◌∷◌, ◌++◌, Option, Some, None, Result, Ok, Err, refl, sym, subst, ◌∙◌, append-nil}
use Rattle.std.specs.Option.{IfSome}
use Rattle.std.specs.List.{AllByRecursion}
use Rattle.std.proofs.lemmas.Bool.{true≢false}
use Rattle.b2_host.specs.declared.children.ChildEvent.{ChildEvent}
use Rattle.b2_host.specs.declared.fault.IoFault.{IoFault}
use Rattle.b2_host.specs.Disks.{Disk, IsConsistent}
use Rattle.b2_host.specs.ChildProcesses.{BothTold}
use Rattle.b2_host.specs.Outside.{Outside, Read}
use Rattle.b2_host.specs.FileCalls.{log_path, Appends, with_piece}
use Rattle.b2_host.specs.LogChanges.{ChangesOnlyAt}
use Rattle.b2_host.specs.ReadsAdded.{AddsReads, adds_none, reads_writes}
use Rattle.b2_plan.specs.declared.step.Step.{Step}
use Rattle.b2_plan.specs.Closures.{Value}
use Rattle.b2_log.specs.declared.line.Record.{Record}
use Rattle.b2_log.specs.declared.line.LogLine.{LogLine}
use Rattle.b2_log.specs.declared.line.LogLine.TheVariants as lines
use Rattle.b2_log.specs.Good.{IsGood}
use Rattle.b2_runs.specs.Staleness.{Update}
use Rattle.b2_runs.specs.Soundness.{Distinguishes}
use Rattle.b2_runs.specs.Afterwards.{IsNotedStep}
use Rattle.b2_runs.specs.LogCourses.{IsToMigrate, HasDigestsAlready}
use Rattle.b2_journal.specs.Notes.{Notes}
use Rattle.b2_facts.specs.declared.stop.FilesStop.{FilesStop}
use Rattle.b2_facts.specs.declared.stop.FilesStop.TheVariants as stops
use Rattle.b2_facts.specs.Stops.{stop_of_io}
use Rattle.b2_facts.specs.Truth.{StaysTrue}
use Rattle.b2_reach.specs.declared.sights.Sights.{Sights}
use Rattle.b2_reach.proofs.GrowthComposes.{both_same}
use Rattle.b2_verdicts.specs.declared.step_numbers.StepNumbers.{StepNumbers}
use Rattle.b2_verdicts.specs.Sights.{AllAsked, AreNumbers}
use Rattle.b2_verdicts.specs.Made.{IsMadeOf, IsWithoutFile}
use Rattle.b2_verdicts.specs.VerdictCalls.{IsOfStep, IsTooBigOf, IfTooBig, Always, Asks}
use Rattle.b2_verdicts.specs.Cases.{AreNumbersOf}
use Rattle.b2_looks.specs.UnderWay.{IsUnderWay}
use Rattle.b2_looks.specs.Judging.{HaveScanLines, OthersStayNoted, GoesOnWith, MigrateTold}
use Rattle.b2_looks.proofs.JudgementTells.{named_grows}
use Rattle.b2_looks.proofs.JudgementEnds.{halted_at, under_asked, big_of_step}
use Rattle.b2_looks.proofs.RecordIsGiven.{noted_already, none_missing, not_already, given, given_others, not_given}

-- what it tells of disks
abbrev Migrates : Step → StepNumbers → Outside → Sights → Outside → Sights → Result (Unit {0}) FilesStop → Disk → Disk → Type 0
Migrates step numbers old s new t result = λ before after. (u : Update) (events : List ChildEvent) (first : List LogLine) (reads : List Read) (members : List (List ℕ × Value)) → Distinguishes u after.past
    → IsToMigrate u events step members → AreNumbersOf step members s.facts numbers → HaveScanLines u events members before.now s.journal → IsUnderWay u events first reads before s
    → GoesOnWith u events first reads (λ (x : Unit {0}). IsNotedStep u after.now t.journal step members × OthersStayNoted u events step before.now s.journal after.now t.journal) old new after t result

-- the record was there
pub migrated_already : (step : Step) (numbers : StepNumbers) (x : Outside) (s : Sights) (v : Unit {0}) → AllAsked s.facts numbers.outs → AllAsked s.facts numbers.ins → ((made : Record) → IsMadeOf false step numbers s.facts made → HasDigestsAlready step.outs s.journal made) → MigrateTold step numbers x s x s (Ok v)
migrated_already step numbers x s v asked_outs asked_ins there = both_same (Migrates step numbers x s x s (Ok v)) x.disk x.disk refl (λ disk here u events first reads members distinct to named have w.
    record { more = []; adds = adds_none x.reads x.reads refl; after = ((noted_already u events first step numbers members to reads disk s named asked_outs asked_ins there w, λ i other ms at differ not inside had. had), subst (λ l. IsUnderWay u events first l disk s) (sym (append-nil reads)) w) })

any_too_big : (P : Type 0) (stop : FilesStop) → P → IfTooBig P stop
any_too_big P stops.Host p = tt
any_too_big P stops.OutOfMemory p = tt
any_too_big P (stops.TooBig n size) p = p

-- The step's files were asked for.
module _ {T : Type 0} (step : Step) (numbers : StepNumbers) (x y : Outside) (s t : Sights) (r : Result T FilesStop) (asks : Asks (IsOfStep numbers) Always s.facts t.facts x y r) (same : t.journal ≡ s.journal) (digests : t.by_digest ≡ s.by_digest) where
  record_under : (disk : Disk) → x.disk ≡ Some disk → (u : Update) (events : List ChildEvent) (first : List LogLine) (reads : List Read) (members : List (List ℕ × Value)) → (to : IsToMigrate u events step members) → AreNumbersOf step members s.facts numbers → HaveScanLines u events members disk.now s.journal
      → IsUnderWay u events first reads disk s → (more : List Read) × AddsReads more x.reads y.reads × IsUnderWay u events first (reads ++ more) disk t
  record_under disk here u events first reads members to named have w =
      let stays = subst (λ o. IfSome o (λ d. Always d.now → (steps : List Step) (roots : List (List ℕ)) → StaysTrue steps roots d.now s.facts t.facts)) here asks.learns.stays in
      under_asked u events first step numbers members to.number to.at to.needed to.closure to.not_started s t x y reads disk here same digests asks.effect (λ off. absurd (true≢false (sym to.by_digest ∙ off))) asks.learns.learns asks.learns.includes (stays tt) named have w

  record_named : (u : Update) (events : List ChildEvent) (first : List LogLine) (members : List (List ℕ × Value)) → IsToMigrate u events step members → AreNumbersOf step members s.facts numbers → AreNumbersOf step members t.facts numbers
  record_named u events first members to named = named_grows u events first step numbers members to.number to.at to.needed to.closure s.facts t.facts (asks.learns.learns u.build.steps u.build.roots).grows named

-- work on the record stopped
pub migrate_stopped : (step : Step) (numbers : StepNumbers) (x y : Outside) (s t : Sights) (stop : FilesStop) → Asks {T = Option Record} (IsOfStep numbers) Always s.facts t.facts x y (Err stop) → t.journal ≡ s.journal → t.by_digest ≡ s.by_digest → MigrateTold step numbers x s y t (Err stop)
migrate_stopped step numbers x y s t stop asks same digests = both_same (Migrates step numbers x s y t (Err stop)) x.disk y.disk asks.effect.files (λ disk here u events first reads members distinct to named have w.
    let (more, adds, later) = record_under {T = Option Record} step numbers x y s t (Err stop) asks same digests disk here u events first reads members to named have w in
    let told = subst (λ o. IfSome o (λ d. IsTooBigOf (IsOfStep numbers) t.facts d.now stop)) here asks.too_big in
    let big = big_of_step u events first step numbers members to.number to.at to.needed to.closure (reads ++ more) disk t stop to.not_started (record_named {T = Option Record} step numbers x y s t (Err stop) asks same digests u events first members to named) later told
    (any_too_big ((u.by_digest ≡ true) × (step.notfile ≡ false)) stop (to.by_digest, to.is_fresh.not_notfile)) in
    record { more = more; adds = adds; after = halted_at u events first (reads ++ more) disk t stop later big })

-- no record is made where a file of the step is gone, which does not come of a fresh one
pub migrate_gone : (step : Step) (numbers : StepNumbers) (x y : Outside) (s t : Sights) (v : Unit {0}) → Asks {T = Option Record} (IsOfStep numbers) Always s.facts t.facts x y (Ok None) → IsWithoutFile x.disk numbers t.facts → t.journal ≡ s.journal → t.by_digest ≡ s.by_digest → MigrateTold step numbers x s y t (Ok v)
migrate_gone step numbers x y s t v asks gone same digests = both_same (Migrates step numbers x s y t (Ok v)) x.disk y.disk asks.effect.files (λ disk here u events first reads members distinct to named have w.
    let (more, adds, later) = record_under {T = Option Record} step numbers x y s t (Ok None) asks same digests disk here u events first reads members to named have w in
    absurd (none_missing u events first step numbers members to (reads ++ more) disk t (record_named {T = Option Record} step numbers x y s t (Ok None) asks same digests u events first members to named) later (subst (λ o. IsWithoutFile o numbers t.facts) here gone)))

-- ---- the record is noted

-- a note reads nothing
pub note_reads_none : (piece : List ℕ) (y z : Outside) (r : Result (Unit {0}) IoFault) → Appends log_path piece y z r → z.reads ≡ y.reads
note_reads_none piece y z r appended = reads_writes log_path (with_piece log_path) piece y z r appended

pub both_noted : (N R : Disk → Disk → Type 0) (x y z : Option Disk) → y ≡ x → BothTold (ChangesOnlyAt log_path) y z → BothTold N y z → IfSome z IsConsistent → ((d e : Disk) → x ≡ Some d → ChangesOnlyAt log_path d e → N d e → IsConsistent e → R d e) → BothTold R x z
both_noted N R x y z same only notes consistent f = go x z (subst (λ o. BothTold (ChangesOnlyAt log_path) o z) same only) (subst (λ o. BothTold N o z) same notes) consistent f
  where
    go : (x z : Option Disk) → BothTold (ChangesOnlyAt log_path) x z → BothTold N x z → IfSome z IsConsistent → ((d e : Disk) → x ≡ Some d → ChangesOnlyAt log_path d e → N d e → IsConsistent e → R d e) → BothTold R x z
    go None None only notes consistent f = tt
    go None (Some e) only notes consistent f = absurd only
    go (Some d) None only notes consistent f = absurd only
    go (Some d) (Some e) only notes consistent f = f d e refl only notes consistent

module _ (step : Step) (numbers : StepNumbers) (x y z : Outside) (s t v : Sights) (made : Record) (asks : Asks {T = Option Record} (IsOfStep numbers) Always s.facts t.facts x y (Ok (Some made))) (is : IsMadeOf true step numbers t.facts made) (outs : AreNumbers s.facts numbers.outs) (ins : AreNumbers s.facts numbers.ins)
    (asked_outs : AllAsked s.facts numbers.outs) (asked_ins : AllAsked s.facts numbers.ins) (none : (by_digest : Bool) (made : Record) → IsMadeOf by_digest step numbers s.facts made → HasDigestsAlready step.outs s.journal made → ⊥) (same : t.journal ≡ s.journal) (digests : t.by_digest ≡ s.by_digest) (unread : z.reads ≡ y.reads)
    (only : BothTold (ChangesOnlyAt log_path) y.disk z.disk) (consistent : IfSome z.disk IsConsistent) where
  not_there : (u : Update) → HasDigestsAlready step.outs t.journal made → ⊥
  not_there u already = not_already s.facts t.facts step numbers s.journal true made (asks.learns.learns u.build.steps u.build.roots).grows outs ins asked_outs asked_ins is none (subst (λ l. HasDigestsAlready step.outs l made) same already)

  pub migrate_noted : (o : Unit {0}) → v.facts ≡ t.facts → v.by_digest ≡ t.by_digest → v.journal ≡ t.journal ++ lines.Record made ∷ [] → AllByRecursion IsGood v.journal → BothTold (λ before after. Notes {T = Unit {0}} (lines.Record made) t.journal before after (Ok o)) y.disk z.disk → MigrateTold step numbers x s z v (Ok o)
  migrate_noted o facts_same way longer good notes = both_noted (λ before after. Notes {T = Unit {0}} (lines.Record made) t.journal before after (Ok o)) (Migrates step numbers x s z v (Ok o)) x.disk y.disk z.disk asks.effect.files only notes consistent (λ disk after here moved noted kept u events first reads members distinct to named have w.
      let (more, adds, later) = record_under {T = Option Record} step numbers x y s t (Ok (Some made)) asks same digests disk here u events first reads members to named have w in
      let after_named = record_named {T = Option Record} step numbers x y s t (Ok (Some made)) asks same digests u events first members to named in
      let (now_noted, under) = given u events first step numbers members to (reads ++ more) disk after t v made after_named is (not_there u) moved kept distinct facts_same way longer (subst (AllByRecursion IsGood) longer good) noted later in
      record {
        more = more;
        adds = subst (AddsReads more x.reads) (sym unread) adds;
        after = ((now_noted, given_others u events first step numbers members to (reads ++ more) disk after s.journal t v made after_named is moved kept same longer later), under);
      })

  pub migrate_not_noted : (fault : IoFault) → BothTold (λ before after. Notes {T = Unit {0}} (lines.Record made) t.journal before after (Err fault)) y.disk z.disk → MigrateTold step numbers x s z v (Err (stop_of_io fault))
  migrate_not_noted fault notes = both_noted (λ before after. Notes {T = Unit {0}} (lines.Record made) t.journal before after (Err fault)) (Migrates step numbers x s z v (Err (stop_of_io fault))) x.disk y.disk z.disk asks.effect.files only notes consistent (λ disk after here moved noted kept u events first reads members distinct to named have w.
      let (more, adds, later) = record_under {T = Option Record} step numbers x y s t (Ok (Some made)) asks same digests disk here u events first reads members to named have w in
      let after_named = record_named {T = Option Record} step numbers x y s t (Ok (Some made)) asks same digests u events first members to named in
      record {
        more = more;
        adds = subst (AddsReads more x.reads) (sym unread) adds;
        after = not_given u events first step numbers members to (reads ++ more) disk after t v made fault after_named is (not_there u) moved kept distinct noted later;
      })
