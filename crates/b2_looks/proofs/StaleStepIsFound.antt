-- A stale step's members are asked for before it starts, by what is told of an update that is under way.
use Rattle.std.proofs.Common.{◌≡◌, ℕ, Bool, true, false, List, ◌++◌, Option, Some, None, Result, Ok, Err, refl, sym, subst, ◌∙◌, append_assoc}
use Rattle.std.specs.Option.{IfSome}
use Rattle.b2_host.specs.declared.children.ChildEvent.{ChildEvent}
use Rattle.b2_host.specs.Disks.{Disk}
use Rattle.b2_host.specs.ChildProcesses.{BothTold}
use Rattle.b2_host.specs.Outside.{Outside, Read}
use Rattle.b2_host.specs.ReadsAdded.{AddsReads, adds_then}
use Rattle.b2_plan.specs.declared.step.Step.{Step}
use Rattle.b2_plan.specs.Closures.{Value}
use Rattle.b2_log.specs.declared.line.LogLine.{LogLine}
use Rattle.b2_runs.specs.Staleness.{Update, IsStale}
use Rattle.b2_runs.specs.Soundness.{Distinguishes}
use Rattle.b2_facts.specs.declared.stop.FilesStop.{FilesStop}
use Rattle.b2_facts.specs.declared.stop.FilesStop.TheVariants as stops
use Rattle.b2_facts.specs.Growth.{Learns}
use Rattle.b2_facts.specs.Truth.{StaysTrue}
use Rattle.b2_reach.specs.declared.sights.Sights.{Sights}
use Rattle.b2_verdicts.specs.declared.step_numbers.StepNumbers.{StepNumbers}
use Rattle.b2_verdicts.specs.declared.judging_mode.JudgingMode.{JudgingMode}
use Rattle.b2_verdicts.specs.VerdictCalls.{IsOfStep, IsTooBigOf, IfTooBig, Always, Asks}
use Rattle.b2_looks.specs.UnderWay.{IsUnderWay}
use Rattle.b2_looks.specs.Judging.{HaveScanLines, IsToJudge, JudgesSo, IsVerdict, OthersStayNoted, GoesOnWith, JudgeTold}
use Rattle.b2_looks.proofs.JudgementTells.{named_grows}
use Rattle.b2_looks.proofs.JudgementEnds.{halted_at, under_asked, big_of_step, others_same, judge_by}

-- what a judgement tells of disks
abbrev Judges : JudgingMode → Step → StepNumbers → Outside → Sights → Outside → Sights → Result Bool FilesStop → Disk → Disk → Type 0
Judges way step numbers old s new t result = λ before after. (u : Update) (events : List ChildEvent) (first : List LogLine) (reads : List Read) (members : List (List ℕ × Value)) → JudgesSo u way → Distinguishes u after.past
    → IsToJudge u events step numbers members s.facts → HaveScanLines u events members before.now s.journal → IsUnderWay u events first reads before s
    → GoesOnWith u events first reads (λ fresh. IsVerdict u events after.now t.journal step members fresh × OthersStayNoted u events step before.now s.journal after.now t.journal) old new after t result

both_at : (Q : Disk → Disk → Type 0) (x y : Option Disk) (disk : Disk) → y ≡ x → x ≡ Some disk → BothTold Q x y → Q disk disk
both_at Q x y disk same here told = subst (λ o. BothTold Q o o) here (subst (λ o. BothTold Q x o) same told)

-- A step was judged stale, and then its members were asked for.
module _ {T : Type 0} (way : JudgingMode) (step : Step) (numbers : StepNumbers) (x y z : Outside) (s t v : Sights) (r : Result T FilesStop) (judged : JudgeTold way step numbers x s y t (Ok false)) (learns : (steps : List Step) (roots : List (List ℕ)) → Learns steps roots (IsOfStep numbers) s.facts t.facts)
    (asks : Asks (IsOfStep numbers) Always t.facts v.facts y z r) (unread : way.by_digest ≡ false → z.reads ≡ y.reads) (files : y.disk ≡ x.disk) (same : t.journal ≡ s.journal) (same_later : v.journal ≡ t.journal) (digests : v.by_digest ≡ t.by_digest) where
  stale_under : (disk : Disk) → x.disk ≡ Some disk → (u : Update) (events : List ChildEvent) (first : List LogLine) (reads : List Read) (members : List (List ℕ × Value)) → JudgesSo u way → Distinguishes u disk.past → IsToJudge u events step numbers members s.facts → HaveScanLines u events members disk.now s.journal
      → IsUnderWay u events first reads disk s → IsStale u events step members × (more : List Read) × AddsReads more x.reads z.reads × IsUnderWay u events first (reads ++ more) disk v
  stale_under disk here u events first reads members so distinct to have w =
      let told = both_at (Judges way step numbers x s y t (Ok false)) x.disk y.disk disk files here judged u events first reads members so distinct to have w in
      let ((stale, others), later) = told.after in
      let named = named_grows u events first step numbers members to.number to.at to.needed to.closure s.facts t.facts (learns u.build.steps u.build.roots).grows to.named in
      let stays = subst (λ o. IfSome o (λ d. Always d.now → (steps : List Step) (roots : List (List ℕ)) → StaysTrue steps roots d.now t.facts v.facts)) (files ∙ here) asks.learns.stays in
      let (more, adds, last) = under_asked u events first step numbers members to.number to.at to.needed to.closure to.not_started t v y z (reads ++ told.more) disk (files ∙ here) same_later digests asks.effect (λ off. unread (sym so.by_digest ∙ off)) asks.learns.learns asks.learns.includes (stays tt) named
      (subst (HaveScanLines u events members disk.now) (sym same) have) later in
      (stale, told.more ++ more, adds_then told.more more x.reads y.reads z.reads told.adds adds, subst (λ l. IsUnderWay u events first l disk v) (append_assoc reads told.more more) last)

-- they were found
pub stale_found : {T : Type 0} (way : JudgingMode) (step : Step) (numbers : StepNumbers) (x y z : Outside) (s t v : Sights) (o : T) → JudgeTold way step numbers x s y t (Ok false) → ((steps : List Step) (roots : List (List ℕ)) → Learns steps roots (IsOfStep numbers) s.facts t.facts) → Asks {T = T} (IsOfStep numbers) Always t.facts v.facts y z (Ok o)
    → (way.by_digest ≡ false → z.reads ≡ y.reads) → y.disk ≡ x.disk → t.journal ≡ s.journal → v.journal ≡ t.journal → v.by_digest ≡ t.by_digest → JudgeTold way step numbers x s z v (Ok false)
stale_found {T} way step numbers x y z s t v o judged learns asks unread files same same_later digests = judge_by way step numbers x z s v (Ok false) (asks.effect.files ∙ files) (λ disk here u events first reads members so distinct to have w.
    let (stale, more, adds, last) = stale_under {T = T} way step numbers x y z s t v (Ok o) judged learns asks unread files same same_later digests disk here u events first reads members so distinct to have w in
    record { more = more; adds = adds; after = ((stale, others_same u events step disk.now s.journal v.journal (same_later ∙ same)), last) })

-- the work on it stopped
pub stale_stopped : {T : Type 0} (way : JudgingMode) (step : Step) (numbers : StepNumbers) (x y z : Outside) (s t v : Sights) (stop : FilesStop) → JudgeTold way step numbers x s y t (Ok false) → ((steps : List Step) (roots : List (List ℕ)) → Learns steps roots (IsOfStep numbers) s.facts t.facts) → Asks {T = T} (IsOfStep numbers) Always t.facts v.facts y z (Err stop)
    → (way.by_digest ≡ false → z.reads ≡ y.reads) → IfTooBig ((way.by_digest ≡ true) × (step.notfile ≡ false)) stop → y.disk ≡ x.disk → t.journal ≡ s.journal → v.journal ≡ t.journal → v.by_digest ≡ t.by_digest → JudgeTold way step numbers x s z v (Err stop)
stale_stopped {T} way step numbers x y z s t v stop judged learns asks unread only files same same_later digests = judge_by way step numbers x z s v (Err stop) (asks.effect.files ∙ files) (λ disk here u events first reads members so distinct to have w.
    let (stale, more, adds, last) = stale_under {T = T} way step numbers x y z s t v (Err stop) judged learns asks unread files same same_later digests disk here u events first reads members so distinct to have w in
    let named = named_grows u events first step numbers members to.number to.at to.needed to.closure t.facts v.facts (asks.learns.learns u.build.steps u.build.roots).grows
    (named_grows u events first step numbers members to.number to.at to.needed to.closure s.facts t.facts (learns u.build.steps u.build.roots).grows to.named) in
    let told = subst (λ p. IfSome p (λ d. IsTooBigOf (IsOfStep numbers) v.facts d.now stop)) (files ∙ here) asks.too_big in
    let big = big_of_step u events first step numbers members to.number to.at to.needed to.closure (reads ++ more) disk v stop to.not_started named last told (only_so u stop so only) in
    record { more = more; adds = adds; after = halted_at u events first (reads ++ more) disk v stop last big })
  where
    only_so : (u : Update) (stop : FilesStop) → JudgesSo u way → IfTooBig ((way.by_digest ≡ true) × (step.notfile ≡ false)) stop → IfTooBig ((u.by_digest ≡ true) × (step.notfile ≡ false)) stop
    only_so u stops.Host so is = tt
    only_so u stops.OutOfMemory so is = tt
    only_so u (stops.TooBig n size) so (on, owes) = (so.by_digest ∙ on, owes)
