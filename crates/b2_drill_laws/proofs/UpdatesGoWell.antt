-- An update of a drill answers Ok or out of memory.
use Rattle.std.proofs.Common.{◌≡◌, ℕ, ◌<◌, ◌≤◌, ◌⊎◌, inl, inr, false, List, [], ◌∷◌, ◌++◌, codes, Option, Some, None, Result, Ok, refl, sym, ap, subst, ◌∙◌, arith}
use Rattle.std.specs.Prelude.{IfSome}
use Rattle.std.specs.List.{Contains}
use Rattle.std.proofs.lemmas.Bool.{true≢false}
use Rattle.std.proofs.lemmas.Fmt.{decimal_digit}
use Rattle.std.proofs.lemmas.List.Elements.{Contains-append_right}
use Rattle.b2_base.specs.Normal.{parts, IsUnder}
use Rattle.b2_drill.specs.Drills.{source_name, jamroot}
use Rattle.b2_drill_clean.specs.Laws.{IsOfDrill}
use Rattle.b2_drill_clean.proofs.EachOutputHasAValue.{held, outside, drill_is_defined, drill_has_none_large}
use Rattle.b2_drill_laws.specs.Laws.{IsOkOrMemory}
use Rattle.b2_drill_means.specs.Laws.{HasJamroot, ComesToDrill, DrillMeans, NoPatternIsRefused}
use Rattle.b2_endings.specs.declared.failed_lists.FailedLists.{FailedLists}
use Rattle.b2_prepare.specs.Laws.{OneMeaning}
use Rattle.b2_prepare.specs.Meaning.{Means}
use Rattle.b2_generate.specs.Planning.{Planned}
use Rattle.b2_host.specs.ChildProcesses.{BothTold}
use Rattle.b2_host.specs.Disks.{Folder, Disk, Past, bytes_at}
use Rattle.b2_host.specs.FileCalls.{log_path}
use Rattle.b2_host.specs.Outside.{Risks}
use Rattle.b2_host.specs.OutsideLaws.{BeginsPast}
use Rattle.b2_host.specs.declared.children.ChildEvent.{ChildEvent}
use Rattle.b2_host.specs.declared.children.ChildEvent.TheVariants.{Done}
use Rattle.b2_log.specs.declared.line.LogLine.{LogLine}
use Rattle.b2_memory.specs.Results.{made_of}
use Rattle.b2_plan.specs.Sources.{IsInRoots}
use Rattle.b2_runs.specs.LogFiles.{IsLogIn, IsLogHeld, IsTrueOn}
use Rattle.b2_runs.specs.Moments.{Moment, Shows}
use Rattle.b2_runs.specs.Sessions.{IsTrueAt}
use Rattle.b2_runs.specs.Soundness.{Distinguishes, UsesTrueLines}
use Rattle.b2_runs.specs.Staleness.{Update}
use Rattle.b2_runs.proofs.DiskStaysSound.{true_log_serves}
use Rattle.b2_runs.proofs.FileIsOneLog.{file_is_some_log}
use Rattle.b2_runs.proofs.TrueThroughSession.{true_shown}
use Rattle.b2_sessions.specs.BuildCalls.{IsCall, UpdateHasCome, update_of}
use Rattle.b2_source_laws.specs.NextPlans.{SourcesStay}
use Rattle.b2_source_laws.proofs.SourcesStay.{host_updates_leave_sources}
use Rattle.b2_refusals.specs.declared.fault.Fault.{Fault}
use Rattle.b2_top.specs.Answered.{CountsTold, ShouldEndWell}
use Rattle.b2_top.specs.Askings.{build_of}
use Rattle.b2_top.specs.Commands.{build_command}
use Rattle.b2_top.specs.Endings.{IsOrCutShort}
use Rattle.b2_top.specs.Plans.{HasPlan, update_for, TellsApart, making_by}
use Rattle.b2_top.specs.RefusalCauses.{IsPatternRefused}
use Rattle.b2_top.specs.BetweenMoments.{StaysStill}
use Rattle.b2_top.specs.declared.answer.Answer.{Answer}
use Rattle.b2_top.specs.declared.answer.Answer.TheVariants as answers
use Rattle.b2_top.specs.declared.build_command.BuildCommand.{BuildCommand}
use Rattle.b2_command_line.proofs.OnlyDecimalsAreNumbers.{number_some}
use Rattle.b2_command_line.specs.Words.{Word, number, most_jobs, after_lead, items, group_said, meaning}
use Rattle.jam_scope.specs.Texts.{first_roots}

-- ---- the words

abbrev the_words : List Word
the_words = codes "-j4" ∷ []

abbrev the_command : BuildCommand
the_command = record { options = record { jobs = 4; all = false; quit = false; digest = false }; words = [] }

four_jobs : number most_jobs (codes "4") ≡ Some 4
four_jobs = number_some (codes "4") most_jobs 4 (omega arith) (omega arith) (omega arith) (sym (decimal_digit 4 (omega arith)))

asks : build_command the_words ≡ Some the_command
unfolding after_lead items group_said meaning
asks = rw four_jobs refl

some_not : {X : Type 0} (x : X) → ◌≡◌ {A = Option X} (Some x) None → ⊥
some_not x e = cc

some_same : {X : Type 0} (x y : X) → Some x ≡ Some y → x ≡ y
some_same x y e = cc

-- ---- a moment

-- Nothing may go wrong, and nothing has; the log is true.
pub record IsCalm (m : Moment) : Type 0 where
  pub may_fail : m.host.risks.may_fail ≡ false
  pub may_end_badly : m.host.risks.may_end_badly ≡ false
  pub faults : m.host.faults ≡ 0
  pub out : m.out.may_fail ≡ false
  pub none_badly : (i : ℕ) → Contains m.host.children.events (Done i false) → ⊥
  pub true_log : IsTrueAt (making_by made_of) m

-- the project file of so many targets stands, and so many first sources
pub record Stands (n count : ℕ) (m : Moment) : Type 0 where
  pub disk : Disk
  pub shows : Shows m disk
  pub file : HasJamroot n disk
  pub sources : (i : ℕ) → i < count → (bytes : List ℕ) × (bytes_at disk.now (source_name i) ≡ Some bytes)

-- what is told of two disks holds of those that are visible
both : (P : Disk → Disk → Type 0) (x y : Option Disk) (before : Disk) → BothTold P x y → x ≡ Some before → (after : Disk) × (y ≡ Some after) × P before after
both P None y before told e = absurd (let bad : ◌≡◌ {A = Option Disk} None (Some before) = e in cc)
both P (Some x) None before told e = absurd told
both P (Some x) (Some y) before told e = (y, refl, subst (λ (d : Disk). P d y) (some_same x before e) told)

both_of : (P : Disk → Disk → Type 0) (x y : Option Disk) (before after : Disk) → BothTold P x y → x ≡ Some before → y ≡ Some after → P before after
both_of P x y before after told e f =
    let found : (later : Disk) × (y ≡ Some later) × P before later = both P x y before told e in
    subst (P before) (some_same found.0 after (sym found.1 ∙ f)) found.2

some_log : (folder : Folder) → ((log : List LogLine) → IsLogIn folder log → ⊥) → ⊥
some_log folder none = go (bytes_at folder log_path) none
  where
    go : (o : Option (List ℕ)) → ((log : List LogLine) → IsLogHeld o log → ⊥) → ⊥
    go None without = without [] refl
    go (Some bytes) without = file_is_some_log bytes without

-- `Jamroot` lies in no root
file_outside : IsInRoots first_roots (codes "Jamroot") → ⊥
file_outside (root, contains, under) =
    held (λ (r : List ℕ). IsUnder (codes "Jamroot") r → ⊥) first_roots root
    (not_under (codes "bin") refl, (not_under (codes "stage") refl, (not_under (codes "dist") refl, tt))) contains under
  where
    no_more : (x y z : List ℕ) (more : List (List ℕ)) → x ∷ [] ≡ y ∷ z ∷ more → ⊥
    no_more x y z more e = cc

    not_under : (root : List ℕ) → parts root ≡ root ∷ [] → IsUnder (codes "Jamroot") root → ⊥
    not_under root one u = no_more (codes "Jamroot") root u.next u.more (u.goes_on ∙ ap (λ found. found ++ u.next ∷ u.more) one)

ok_same : {A B : Type 0} (a b : A) → ◌≡◌ {A = Result A B} (Ok a) (Ok b) → a ≡ b
ok_same a b e = cc

-- a failure and a refusal are neither Ok nor cut short
failed_not : (lists : FailedLists) → IsOrCutShort (answers.Failed lists) answers.Ok → ⊥
failed_not lists (inl e) = cc
failed_not lists (inr (inl e)) = cc
failed_not lists (inr (inr (inl e))) = cc
failed_not lists (inr (inr (inr e))) = cc

refused_not : (fault : Fault) → IsOrCutShort (answers.Refused fault) answers.Ok → ⊥
refused_not fault (inl e) = cc
refused_not fault (inr (inl e)) = cc
refused_not fault (inr (inr (inl e))) = cc
refused_not fault (inr (inr (inr e))) = cc

module _ (drill_means : DrillMeans) (no_pattern : NoPatternIsRefused) (one_meaning : OneMeaning) (n : ℕ) (few : n ≤ 2000) (words : List Word) (answer : Answer) (before after : Moment)
    (plain : words ≡ the_words) (came : IsCall made_of (build_of words) answer before after) (calm : IsCalm before) (stands : Stands n n before) where
  abbrev disk : Disk
  disk = stands.disk

  comes : ComesToDrill n disk
  comes = drill_means n disk few stands.file

  asked : build_command words ≡ Some the_command
  asked = ap build_command plain ∙ asks

  abbrev plan : HasPlan words disk
  plan = record { command = the_command; echoes = []; planned = comes.planned; asked = asked; means = comes.means None }

  later : (next : Disk) × (after.host.disk ≡ Some next) × BeginsPast disk next
  later = both BeginsPast before.host.disk after.host.disk disk came.keeps.files stands.shows

  true_on : IsTrueOn (making_by made_of) disk
  true_on = true_shown (making_by made_of) before disk stands.shows calm.true_log

  -- ---- the answer

  of_drill : (log : List LogLine) → IsOfDrill n (update_for made_of plan log)
  of_drill log = record {
    few = few;
    steps_are = comes.is_plan.steps_are;
    wanted_are = comes.is_plan.wanted_are;
    roots_are = comes.is_plan.roots_are;
    includes_are = refl;
    scanned_are = refl;
  }

  happened : (events : List ChildEvent) × (after.host.children.events ≡ before.host.children.events ++ events)
  happened = let told = came.answered.turns the_command asked in (told.1.events, told.1.are)

  should : (log : List LogLine) → IsLogIn disk.now log → ShouldEndWell made_of words before.host after.host disk later.0
  should log is = record {
    plan = plan;
    log = log;
    is_log = is;
    premises = record { uses_true = true_log_serves (update_for made_of plan log) disk true_on; distinct = λ e. absurd (true≢false (sym e)) };
    events = happened.0;
    events_are = happened.1;
    defined = drill_is_defined n (update_for made_of plan log) happened.0 (of_drill log) stands.sources;
    none_large = drill_has_none_large n (update_for made_of plan log) happened.0 (of_drill log) refl;
    all_well = λ i badly.
        calm.none_badly i (came.keeps.no_bad_end calm.may_end_badly i
        (subst (λ list. Contains list (Done i false)) (sym happened.1) (Contains-append_right before.host.children.events happened.0 (Done i false) badly)));
  }

  ends_well : (IsOrCutShort answer answers.Ok → ⊥) → ⊥
  unfolding should
  ends_well none =
      some_log disk.now (λ log is.
      go (both_of (λ d l. (s : ShouldEndWell made_of words before.host after.host d l) → IsOrCutShort answer answers.Ok ⊎ IsPatternRefused d s.plan.command.words answer) before.host.disk after.host.disk disk later.0
      came.answered.complete stands.shows later.1 (should log is)))
    where
      go : IsOrCutShort answer answers.Ok ⊎ IsPatternRefused disk [] answer → ⊥
      go (inl well) = none well
      go (inr refused) = no_pattern n disk answer few stands.file refused

  judged : (a : Answer) → answer ≡ a → IsOkOrMemory a
  judged answers.Ok e = tt
  judged (answers.Failed lists) e = ends_well (λ well. failed_not lists (subst (λ a. IsOrCutShort a answers.Ok) e well))
  judged (answers.Refused fault) e = ends_well (λ well. refused_not fault (subst (λ a. IsOrCutShort a answers.Ok) e well))
  judged answers.Usage e = some_not the_command (sym asked ∙ came.answered.no_usage e)
  judged answers.HostFault e =
      let told : CountsTold before after answers.HostFault = subst (CountsTold before after) e came.answered.counts in
      let same : after.host.faults ≡ before.host.faults = came.keeps.no_fault calm.may_fail in
      let none : before.host.faults ≡ 0 = calm.faults in
      let more : before.host.faults < after.host.faults = told.host.more (omega (arith, none)) in
      omega (arith, more, same)
  judged answers.OutOfMemory e = tt
  judged answers.SinkFault e =
      let told : CountsTold before after answers.SinkFault = subst (CountsTold before after) e came.answered.counts in
      true≢false (sym told.0.may ∙ calm.out)

  pub ok_or_memory : IsOkOrMemory answer
  ok_or_memory = judged answer refl

  -- ---- what stands then

  command_is : (other : BuildCommand) → build_command words ≡ Some other → other ≡ the_command
  command_is other e = some_same other the_command (sym e ∙ asked)

  tells_apart : (past : List Past) → TellsApart words past
  tells_apart past other e digest = absurd (true≢false (sym digest ∙ ap (λ (c : BuildCommand). c.options.digest) (command_is other e)))

  true_then : IsTrueOn (making_by made_of) later.0
  true_then =
      both_of (λ d l. TellsApart words l.past → IsTrueOn (making_by made_of) d → IsTrueOn (making_by made_of) l) before.host.disk after.host.disk disk later.0 came.answered.true_log stands.shows later.1
      (tells_apart later.0.past) true_on

  pub stays_calm : IsCalm after
  stays_calm = record {
    may_fail = ap (λ (r : Risks). r.may_fail) came.keeps.risks ∙ calm.may_fail;
    may_end_badly = ap (λ (r : Risks). r.may_end_badly) came.keeps.risks ∙ calm.may_end_badly;
    faults = came.keeps.no_fault calm.may_fail ∙ calm.faults;
    out = came.answered.out_keeps.may_fail ∙ calm.out;
    none_badly = λ i badly. calm.none_badly i (came.keeps.no_bad_end calm.may_end_badly i badly);
    true_log = subst (λ o. IfSome o (IsTrueOn (making_by made_of))) (sym later.1) true_then;
  }

  module _ (come : UpdateHasCome made_of (build_of words) answer before.host after.host disk) where
    abbrev u : Update
    u = update_of made_of come.plan

    old_is : come.updated.old ≡ disk
    old_is = some_same come.updated.old disk (sym come.updated.shows ∙ stands.shows)

    planned_is : come.plan.planned ≡ comes.planned
    planned_is =
        ok_same come.plan.planned comes.planned
        (one_meaning disk None [] come.plan.echoes [] (Ok come.plan.planned) (Ok comes.planned)
        (subst (λ free. Means disk None free come.plan.echoes (Ok come.plan.planned)) (ap (λ (c : BuildCommand). c.words) (command_is come.plan.command come.plan.asked)) come.plan.means) (comes.means None)).1

    roots_are : u.build.roots ≡ first_roots
    roots_are = ap (λ (p : Planned). p.roots) planned_is ∙ comes.is_plan.roots_are

    uses : UsesTrueLines u come.updated.old
    uses = true_log_serves u come.updated.old (subst (IsTrueOn (making_by made_of)) (sym old_is) true_on)

    distinct : Distinguishes u come.updated.new.past
    distinct digest = absurd (true≢false (sym digest ∙ ap (λ (c : BuildCommand). c.options.digest) (command_is come.plan.command come.plan.asked)))

    stay : SourcesStay u.build.roots come.updated.old.now come.updated.new.now
    stay = host_updates_leave_sources u come.ended (record before.host { reads = come.reads }) after.host come.updated uses distinct

    kept : (path bytes : List ℕ) → (IsInRoots first_roots path → ⊥) → bytes_at disk.now path ≡ Some bytes → bytes_at come.updated.new.now path ≡ Some bytes
    kept path bytes free there =
        stay path (λ within. free (subst (λ roots. IsInRoots roots path) roots_are within)) ∙ ap (λ (d : Disk). bytes_at d.now path) old_is ∙ there

    stands_built : Stands n n after
    stands_built = record {
      disk = come.updated.new;
      shows = come.updated.shows_then;
      file = kept (codes "Jamroot") (jamroot n) file_outside stands.file;
      sources = λ i less. ((stands.sources i less).0, kept (source_name i) (stands.sources i less).0 (outside i (omega (arith, less, few))) (stands.sources i less).1);
    }

  pub stands_then : Stands n n after
  stands_then =
      go (both_of (λ d l. StaysStill before.host after.host ⊎ UpdateHasCome made_of (build_of words) answer before.host after.host d) before.host.disk after.host.disk disk later.0 came.has_done stands.shows later.1)
    where
      go : StaysStill before.host after.host ⊎ UpdateHasCome made_of (build_of words) answer before.host after.host disk → Stands n n after
      go (inl still) = record { disk = disk; shows = still.disk ∙ stands.shows; file = stands.file; sources = stands.sources }
      go (inr come) = stands_built come
